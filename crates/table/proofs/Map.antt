-- A layer is a map: what `get`, `set` and `remove` do to one another, over lists of rows.
-- Cells are compared by their 128 bits as a number.
use Rattle.std.specs.Prelude.{Option, Some, None}
use mathlib.Core.Path.{◌≡◌, refl, sym, ap, ◌∙◌}
use mathlib.Core.Bool.{Bool, true, false, cond, and-eq-true_iff}
use mathlib.Core.List.{List, [], ◌∷◌}
use Prim.Native.Nat.{ℕ, suc, ◌≤◌, ◌<◌}
use native.Mathlib.Omega.{arith}
use lib.ListN.{length}
use borrow.Author.Tests.{eqb-true, eqb-false, ne_eqb, ltb-true, ltb-false, lt-ltb}
use Rattle.refusal.specs.declared.Cell.{Cell}
use Rattle.refusal.specs.Refusals.{raw_of}
use Rattle.cell.specs.Cell.{same_cell, less_cell}
use Rattle.table.specs.Records.{Row, held_of, with_row, without_cell, ascending}

-- ---- the first row and the later ones

held_first : (c : Cell) (r : Row) (rs : List Row) → same_cell r.cell c ≡ true → held_of c (r ∷ rs) ≡ Some r.kept
unfolding held_of
held_first c r rs e = rw e

held-later : (c : Cell) (r : Row) (rs : List Row) → same_cell r.cell c ≡ false → held_of c (r ∷ rs) ≡ held_of c rs
unfolding held_of
held-later c r rs e = rw e

-- ---- get after set

-- a cell that differs from one of two that are the same differs from the other
other-left : (a b c : Cell) → same_cell a b ≡ false → same_cell b c ≡ true → same_cell a c ≡ false
other-left a b c e f = ne_eqb (raw_of a) (raw_of c) (λ h. eqb-false (raw_of a) (raw_of b) e (h ∙ sym (eqb-true (raw_of b) (raw_of c) f)))

other-right : (a b c : Cell) → same_cell a b ≡ true → same_cell b c ≡ false → same_cell a c ≡ false
other-right a b c e f = ne_eqb (raw_of a) (raw_of c) (λ h. eqb-false (raw_of b) (raw_of c) f (sym (eqb-true (raw_of a) (raw_of b) e) ∙ h))

set_same : (c : Cell) (s r : Row) (rs : List Row) (below same : Bool) → same_cell r.cell s.cell ≡ same → same_cell s.cell c ≡ true → held_of c (with_row s rs) ≡ Some s.kept → held_of c (cond below (s ∷ (r ∷ rs)) (cond same (s ∷ rs) (r ∷ with_row s rs))) ≡ Some s.kept
unfolding held_of
set_same c s r rs true same f e rest = rw e
set_same c s r rs false true f e rest = rw e
set_same c s r rs false false f e rest = rw (other-left r.cell s.cell c f e) rest

-- what was set is held
pub held-with-same : (c : Cell) (s : Row) (rs : List Row) → same_cell s.cell c ≡ true → held_of c (with_row s rs) ≡ Some s.kept
unfolding held_of with_row
held-with-same c s [] e = rw e
held-with-same c s (r ∷ rs) e = set_same c s r rs (less_cell s.cell r.cell) (same_cell r.cell s.cell) refl e (held-with-same c s rs e)

set_other : (c : Cell) (s r : Row) (rs : List Row) (below same : Bool) → same_cell r.cell s.cell ≡ same → same_cell s.cell c ≡ false → held_of c (with_row s rs) ≡ held_of c rs → held_of c (cond below (s ∷ (r ∷ rs)) (cond same (s ∷ rs) (r ∷ with_row s rs))) ≡ held_of c (r ∷ rs)
unfolding held_of
set_other c s r rs true same f e rest = rw e
set_other c s r rs false true f e rest = rw (e, other-right r.cell s.cell c f e)
set_other c s r rs false false f e rest = ap (cond (same_cell r.cell c) (Some r.kept)) rest

-- and what is held of every other cell stays
pub held-with-other : (c : Cell) (s : Row) (rs : List Row) → same_cell s.cell c ≡ false → held_of c (with_row s rs) ≡ held_of c rs
unfolding held_of with_row
held-with-other c s [] e = rw e
held-with-other c s (r ∷ rs) e = set_other c s r rs (less_cell s.cell r.cell) (same_cell r.cell s.cell) refl e (held-with-other c s rs e)

-- ---- ascending rows

-- a cell is below the first of these rows, if there is one
unfoldable is_below : Cell → List Row → Bool
is_below a [] = true
is_below a (r ∷ rs) = less_cell a r.cell

first_below : (r : Row) (rs : List Row) → ascending (r ∷ rs) ≡ true → is_below r.cell rs ≡ true
unfolding ascending is_below
first_below r [] e = refl
first_below r (s ∷ rs) e = ((and-eq-true_iff (less_cell r.cell s.cell) (ascending (s ∷ rs))).0 e).0

rest-ascending : (r : Row) (rs : List Row) → ascending (r ∷ rs) ≡ true → ascending rs ≡ true
unfolding ascending
rest-ascending r [] e = refl
rest-ascending r (s ∷ rs) e = ((and-eq-true_iff (less_cell r.cell s.cell) (ascending (s ∷ rs))).0 e).1

put_first : (r : Row) (rs : List Row) → is_below r.cell rs ≡ true → ascending rs ≡ true → ascending (r ∷ rs) ≡ true
unfolding ascending is_below
put_first r [] b e = refl
put_first r (s ∷ rs) b e = rw b e

-- a cell that is not above a cell that is below the rows is below them too
lower-below : (a b : Cell) (rs : List Row) → raw_of a ≤ raw_of b → is_below b rs ≡ true → is_below a rs ≡ true
unfolding is_below
lower-below a b [] h e = refl
lower-below a b (r ∷ rs) h e = lt-ltb (raw_of a) (raw_of r.cell) (omega (arith, h, ltb-true (raw_of b) (raw_of r.cell) e))

-- what is below the first of ascending rows is not among them
below-not-held : (c : Cell) (rs : List Row) → ascending rs ≡ true → is_below c rs ≡ true → held_of c rs ≡ None
unfolding held_of is_below
below-not-held c [] e b = refl
below-not-held c (r ∷ rs) e b =
    let lt = ltb-true (raw_of c) (raw_of r.cell) b in
    rw (ne_eqb (raw_of r.cell) (raw_of c) (λ h. omega (arith, h, lt)))
    (below-not-held c rs (rest-ascending r rs e) (lower-below c r.cell rs (omega (arith, lt)) (first_below r rs e)))

-- ---- get after remove

remove-same : (c d : Cell) (r : Row) (rs : List Row) (same : Bool) → same_cell r.cell c ≡ same → same_cell c d ≡ true → ascending (r ∷ rs) ≡ true → held_of d (without_cell c rs) ≡ None → held_of d (cond same rs (r ∷ without_cell c rs)) ≡ None
unfolding held_of
remove-same c d r rs true f e up rest =
    below-not-held d rs (rest-ascending r rs up) (lower-below d r.cell rs (omega (arith, eqb-true (raw_of r.cell) (raw_of c) f, eqb-true (raw_of c) (raw_of d) e)) (first_below r rs up))
remove-same c d r rs false f e up rest = rw (other-left r.cell c d f e) rest

-- of a cell that was removed nothing is held
pub held-without-same : (c d : Cell) (rs : List Row) → ascending rs ≡ true → same_cell c d ≡ true → held_of d (without_cell c rs) ≡ None
unfolding held_of without_cell
held-without-same c d [] up e = refl
held-without-same c d (r ∷ rs) up e = remove-same c d r rs (same_cell r.cell c) refl e up (held-without-same c d rs (rest-ascending r rs up) e)

remove-other : (c d : Cell) (r : Row) (rs : List Row) (same : Bool) → same_cell r.cell c ≡ same → same_cell c d ≡ false → held_of d (without_cell c rs) ≡ held_of d rs → held_of d (cond same rs (r ∷ without_cell c rs)) ≡ held_of d (r ∷ rs)
unfolding held_of
remove-other c d r rs true f e rest = rw (other-right r.cell c d f e)
remove-other c d r rs false f e rest = ap (cond (same_cell r.cell d) (Some r.kept)) rest

-- and what is held of every other cell stays
pub held-without-other : (c d : Cell) (rs : List Row) → same_cell c d ≡ false → held_of d (without_cell c rs) ≡ held_of d rs
unfolding held_of without_cell
held-without-other c d [] e = refl
held-without-other c d (r ∷ rs) e = remove-other c d r rs (same_cell r.cell c) refl e (held-without-other c d rs e)

-- ---- set and remove keep the order

below_set : (a : Cell) (s r : Row) (rs : List Row) (below same : Bool) → less_cell a s.cell ≡ true → less_cell a r.cell ≡ true → is_below a (cond below (s ∷ (r ∷ rs)) (cond same (s ∷ rs) (r ∷ with_row s rs))) ≡ true
unfolding is_below
below_set a s r rs true same e f = e
below_set a s r rs false true e f = e
below_set a s r rs false false e f = f

below-with : (a : Cell) (s : Row) (rs : List Row) → less_cell a s.cell ≡ true → is_below a rs ≡ true → is_below a (with_row s rs) ≡ true
unfolding is_below with_row
below-with a s [] e b = e
below-with a s (r ∷ rs) e b = below_set a s r rs (less_cell s.cell r.cell) (same_cell r.cell s.cell) e b

set-ascending : (s r : Row) (rs : List Row) (below same : Bool) → less_cell s.cell r.cell ≡ below → same_cell r.cell s.cell ≡ same → ascending (r ∷ rs) ≡ true → ascending (with_row s rs) ≡ true → ascending (cond below (s ∷ (r ∷ rs)) (cond same (s ∷ rs) (r ∷ with_row s rs))) ≡ true
unfolding is_below
set-ascending s r rs true same l f up rest = put_first s (r ∷ rs) l up
set-ascending s r rs false true l f up rest =
    put_first s rs (lower-below s.cell r.cell rs (omega (arith, eqb-true (raw_of r.cell) (raw_of s.cell) f)) (first_below r rs up)) (rest-ascending r rs up)
set-ascending s r rs false false l f up rest =
    let above = lt-ltb (raw_of r.cell) (raw_of s.cell) (apart (raw_of r.cell) (raw_of s.cell) (ltb-false (raw_of s.cell) (raw_of r.cell) l) (eqb-false (raw_of r.cell) (raw_of s.cell) f)) in
    put_first r (with_row s rs) (below-with r.cell s rs above (first_below r rs up)) rest
  where
    apart : (m n : ℕ) → m ≤ n → (m ≡ n → ⊥) → m < n
    apart m n h g = omega (arith, h, g)

-- ascending rows ascend after a set
pub with-ascending : (s : Row) (rs : List Row) → ascending rs ≡ true → ascending (with_row s rs) ≡ true
unfolding ascending with_row
with-ascending s [] up = refl
with-ascending s (r ∷ rs) up = set-ascending s r rs (less_cell s.cell r.cell) (same_cell r.cell s.cell) refl refl up (with-ascending s rs (rest-ascending r rs up))

below-remove : (a c : Cell) (r : Row) (rs : List Row) (same : Bool) → ascending (r ∷ rs) ≡ true → less_cell a r.cell ≡ true → is_below a (cond same rs (r ∷ without_cell c rs)) ≡ true
unfolding is_below
below-remove a c r rs true up e = lower-below a r.cell rs (omega (arith, ltb-true (raw_of a) (raw_of r.cell) e)) (first_below r rs up)
below-remove a c r rs false up e = e

below-without : (a c : Cell) (rs : List Row) → ascending rs ≡ true → is_below a rs ≡ true → is_below a (without_cell c rs) ≡ true
unfolding is_below without_cell
below-without a c [] up b = refl
below-without a c (r ∷ rs) up b = below-remove a c r rs (same_cell r.cell c) up b

remove-ascending : (c : Cell) (r : Row) (rs : List Row) (same : Bool) → ascending (r ∷ rs) ≡ true → ascending (without_cell c rs) ≡ true → ascending (cond same rs (r ∷ without_cell c rs)) ≡ true
remove-ascending c r rs true up rest = rest-ascending r rs up
remove-ascending c r rs false up rest = put_first r (without_cell c rs) (below-without r.cell c rs (rest-ascending r rs up) (first_below r rs up)) rest

-- and after a remove
pub without-ascending : (c : Cell) (rs : List Row) → ascending rs ≡ true → ascending (without_cell c rs) ≡ true
unfolding ascending without_cell
without-ascending c [] up = refl
without-ascending c (r ∷ rs) up = remove-ascending c r rs (same_cell r.cell c) up (without-ascending c rs (rest-ascending r rs up))

-- ---- how many cells are held

nothing-held : (v : ℕ) → None ≡ Some v → ⊥
nothing-held v e = let z : ◌≡◌ {A = ℕ} 0 1 = ap (λ (h : Option ℕ). elim h [ None ↦ 0 | Some k ↦ 1 ]) e in omega arith

set-held : (s r : Row) (rs : List Row) (v : ℕ) (below same : Bool) → less_cell s.cell r.cell ≡ below → same_cell r.cell s.cell ≡ same → ascending (r ∷ rs) ≡ true → held_of s.cell (r ∷ rs) ≡ Some v → (held_of s.cell rs ≡ Some v → length (with_row s rs) ≡ length rs) → length (cond below (s ∷ (r ∷ rs)) (cond same (s ∷ rs) (r ∷ with_row s rs))) ≡ suc (length rs)
unfolding held_of is_below
set-held s r rs v true same l f up e rest = absurd (nothing-held v (sym (below-not-held s.cell (r ∷ rs) up l) ∙ e))
set-held s r rs v false true l f up e rest = refl
set-held s r rs v false false l f up e rest = ap suc (rest (sym (held-later s.cell r rs f) ∙ e))

-- a set of a cell that is held keeps the count
pub length-with-held : (s : Row) (rs : List Row) (v : ℕ) → ascending rs ≡ true → held_of s.cell rs ≡ Some v → length (with_row s rs) ≡ length rs
unfolding held_of with_row
length-with-held s [] v up e = absurd (nothing-held v e)
length-with-held s (r ∷ rs) v up e =
    set-held s r rs v (less_cell s.cell r.cell) (same_cell r.cell s.cell) refl refl up e (length-with-held s rs v (rest-ascending r rs up))

set_new : (s r : Row) (rs : List Row) (below same : Bool) → same_cell r.cell s.cell ≡ same → held_of s.cell (r ∷ rs) ≡ None → (held_of s.cell rs ≡ None → length (with_row s rs) ≡ suc (length rs)) → length (cond below (s ∷ (r ∷ rs)) (cond same (s ∷ rs) (r ∷ with_row s rs))) ≡ suc (suc (length rs))
unfolding held_of
set_new s r rs true same f e rest = refl
set_new s r rs false true f e rest = absurd (nothing-held r.kept (sym e ∙ held_first s.cell r rs f))
set_new s r rs false false f e rest = ap suc (rest (sym (held-later s.cell r rs f) ∙ e))

-- of one that is not, adds one
pub length-with-new : (s : Row) (rs : List Row) → held_of s.cell rs ≡ None → length (with_row s rs) ≡ suc (length rs)
unfolding held_of with_row
length-with-new s [] e = refl
length-with-new s (r ∷ rs) e = set_new s r rs (less_cell s.cell r.cell) (same_cell r.cell s.cell) refl e (length-with-new s rs)

remove-held : (c : Cell) (r : Row) (rs : List Row) (v : ℕ) (same : Bool) → same_cell r.cell c ≡ same → held_of c (r ∷ rs) ≡ Some v → (held_of c rs ≡ Some v → suc (length (without_cell c rs)) ≡ length rs) → suc (length (cond same rs (r ∷ without_cell c rs))) ≡ suc (length rs)
unfolding held_of
remove-held c r rs v true f e rest = refl
remove-held c r rs v false f e rest = ap suc (rest (sym (held-later c r rs f) ∙ e))

-- a remove of a cell that is held takes one
pub length-without-held : (c : Cell) (rs : List Row) (v : ℕ) → held_of c rs ≡ Some v → suc (length (without_cell c rs)) ≡ length rs
unfolding held_of without_cell
length-without-held c [] v e = absurd (nothing-held v e)
length-without-held c (r ∷ rs) v e = remove-held c r rs v (same_cell r.cell c) refl e (length-without-held c rs v)

remove-none : (c : Cell) (r : Row) (rs : List Row) (same : Bool) → same_cell r.cell c ≡ same → held_of c (r ∷ rs) ≡ None → (held_of c rs ≡ None → without_cell c rs ≡ rs) → cond same rs (r ∷ without_cell c rs) ≡ r ∷ rs
unfolding held_of
remove-none c r rs true f e rest = absurd (nothing-held r.kept (sym e ∙ held_first c r rs f))
remove-none c r rs false f e rest = ap (λ (l : List Row). r ∷ l) (rest (sym (held-later c r rs f) ∙ e))

-- of one that is not, changes nothing, so that the count stays too
pub without-none : (c : Cell) (rs : List Row) → held_of c rs ≡ None → without_cell c rs ≡ rs
unfolding held_of without_cell
without-none c [] e = refl
without-none c (r ∷ rs) e = remove-none c r rs (same_cell r.cell c) refl e (without-none c rs)

pub length-without-none : (c : Cell) (rs : List Row) → held_of c rs ≡ None → length (without_cell c rs) ≡ length rs
length-without-none c rs e = ap length (without-none c rs e)

-- ---- what is held of any cell

with-held : (c : Cell) (s : Row) (rs : List Row) (same : Bool) → same_cell s.cell c ≡ same → held_of c (with_row s rs) ≡ cond same (Some s.kept) (held_of c rs)
with-held c s rs true e = held-with-same c s rs e
with-held c s rs false e = held-with-other c s rs e

-- after a set, of the cell what was set, and of another what was held
pub held_with : (c : Cell) (s : Row) (rs : List Row) → held_of c (with_row s rs) ≡ cond (same_cell s.cell c) (Some s.kept) (held_of c rs)
held_with c s rs = with-held c s rs (same_cell s.cell c) refl

without-held : (c d : Cell) (rs : List Row) (same : Bool) → ascending rs ≡ true → same_cell d c ≡ same → held_of c (without_cell d rs) ≡ cond same None (held_of c rs)
without-held c d rs true up e = held-without-same d c rs up e
without-held c d rs false up e = held-without-other d c rs e

-- after a remove, of the cell nothing, and of another what was held
pub held-without : (c d : Cell) (rs : List Row) → ascending rs ≡ true → held_of c (without_cell d rs) ≡ cond (same_cell d c) None (held_of c rs)
held-without c d rs up = without-held c d rs (same_cell d c) up refl
