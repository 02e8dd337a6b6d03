-- Every lattice point is one of the eight child places of its parent, and so has exactly one: the way back from `child-parent`. A point is twice its halves, and the parent's mending of a half is
-- made good by the step that leads down from it.
use Rattle.std.specs.Prelude.{List, Result, Ok, Err}
use Rattle.refusal.specs.declared.Refusal.{Refusal}
use mathlib.Core.Path.{◌≡◌, refl, sym, ap, subst, ◌∙◌}
use mathlib.Core.Bool.{Bool, true, false, not, cond, beq}
use mathlib.Core.List.Memᴰ
use mathlib.Core.List.{Memᴰ}
use Prim.Native.Nat.{ℕ, suc, ◌+◌, ◌/◌, ◌%◌}
use native.Mathlib.Omega.{arith}
use lib.Dec.{T}
use lib.IntN.{ℤ, pos, negsuc, ◌+ℤ◌, +ℤ_idr, +ℤ_assoc, +ℤ_comm}
use lib.ListN.{get_or}
use contract.Lifetimes.{Lfts}
use denote.Triple.Clauses.{AtExit}
use borrow.Fn.Kinds.{Dens, res_t, ended_of}
use borrow.Author.Tests.{eqb-true, eqb-false}
use Rattle.refusal.specs.declared.Coord.{Coord}
use Rattle.lattice.specs.declared.Parity.{Parity}
use Rattle.lattice.specs.declared.Parity.TheVariants.{Even, Odd}
use Rattle.lattice.specs.Lattice.{at, is_odd, is_lattice_point, parity_of, moved, doubled, child_steps, child_places, has_child_room, children_of, half, halves, raised, alone, parent_of}
use Rattle.lattice.proofs.Origin.{origin}
use Rattle.lattice.proofs.Split.{children_in, children_by, parent_by}
use Rattle.lattice.proofs.SignsLaws.{sub_cases}
use Rattle.general.proofs.Lists.{has, placed}
use Rattle.lattice.proofs.Odds.{Odds, oddness, parity-odds, lowered, parent-of-halves, parent-at, at_path}
use Rattle.lattice.proofs.get_parent.Kinds as get-parent-kinds
use Rattle.lattice.proofs.get_parent.Reads as get-parent
use Rattle.lattice.proofs.get_children.Kinds as get-children-kinds
use Rattle.lattice.proofs.get_children.Reads as get-children
use Rattle.lattice.proofs.Laws.{parity-point, point-parity, child-parent, parent-is-point}
use Rattle.lattice.specs.Terms.{OnlyParent}

-- ---- one axis

-- what was added to a number and is taken off its double
double-stepped : (h s d : ℤ) → (h +ℤ s) +ℤ (h +ℤ s) +ℤ d ≡ h +ℤ h +ℤ (s +ℤ s +ℤ d)
double-stepped h s d =
    ap (λ (z : ℤ). z +ℤ d) (+ℤ_assoc h s (h +ℤ s) ∙ ap (λ (z : ℤ). h +ℤ z) (sym (+ℤ_assoc s h s) ∙ ap (λ (z : ℤ). z +ℤ s) (+ℤ_comm s h) ∙ +ℤ_assoc h s s) ∙ sym (+ℤ_assoc h h (s +ℤ s)))
    ∙ +ℤ_assoc (h +ℤ h) (s +ℤ s) d

-- an even number is twice its half
twice_half : (z : ℤ) → is_odd z ≡ false → half z +ℤ half z ≡ z
twice_half (pos n) e = ap pos (omega (arith, eqb-false (n % 2) 1 e))
twice_half (negsuc n) e = ap negsuc (omega (arith, eqb-false (suc n % 2) 1 e))

-- an odd one is one more
twice-half-one : (z : ℤ) → is_odd z ≡ true → half z +ℤ half z +ℤ pos 1 ≡ z
twice-half-one (pos n) e = ap pos (omega (arith, eqb-true (n % 2) 1 e))
twice-half-one (negsuc n) e =
    sub_cases 1 (suc (suc (n / 2 + n / 2))) (λ (z : ℤ). z ≡ negsuc n) (λ h. ap negsuc (omega (arith, eqb-true (suc n % 2) 1 e))) (λ h. absurd (omega arith))

-- the step down to an even number from its half, lowered or not, and to an odd one from its half, raised or not
abbrev even_step : Bool → ℤ
even_step t = cond t (pos 2) (pos 0)

abbrev odd_step : Bool → ℤ
odd_step t = cond t (negsuc 0) (pos 1)

even-back : (t : Bool) (z : ℤ) → is_odd z ≡ false → lowered t (half z) +ℤ lowered t (half z) +ℤ even_step t ≡ z
even-back true z e = double-stepped (half z) (negsuc 0) (pos 2) ∙ +ℤ_idr (half z +ℤ half z) ∙ twice_half z e
even-back false z e = +ℤ_idr (half z +ℤ half z) ∙ twice_half z e

odd-back : (t : Bool) (z : ℤ) → is_odd z ≡ true → raised t (half z) +ℤ raised t (half z) +ℤ odd_step t ≡ z
odd-back true z e = double-stepped (half z) (pos 1) (negsuc 0) ∙ twice-half-one z e
odd-back false z e = twice-half-one z e

-- ---- the step from the parent

-- by the parity of the point, and which of its halves are odd
abbrev step_from : Parity → Bool → Bool → Bool → Coord
step_from Even a b d = at (even_step (alone a b d)) (even_step (alone b a d)) (even_step (alone d a b))
step_from Odd a b d = at (pos 1) (odd_step (not (beq a b))) (odd_step (not (beq a d)))

entry : (k : ℕ) → T (has child_steps k) → Memᴰ (get_or child_steps k origin) child_steps
entry k = placed child_steps k origin

-- it stands in the table
step-listed : (p : Parity) (a b d : Bool) → Memᴰ (step_from p a b d) child_steps
unfolding child_steps
step-listed Even true true true = entry 0 tt
step-listed Even true true false = entry 3 tt
step-listed Even true false true = entry 2 tt
step-listed Even true false false = entry 1 tt
step-listed Even false true true = entry 1 tt
step-listed Even false true false = entry 2 tt
step-listed Even false false true = entry 3 tt
step-listed Even false false false = entry 0 tt
step-listed Odd true true true = entry 4 tt
step-listed Odd true true false = entry 5 tt
step-listed Odd true false true = entry 6 tt
step-listed Odd true false false = entry 7 tt
step-listed Odd false true true = entry 7 tt
step-listed Odd false true false = entry 6 tt
step-listed Odd false false true = entry 5 tt
step-listed Odd false false false = entry 4 tt

abbrev step_to : Parity → Coord → Coord
step_to p c = step_from p (is_odd (half c.x)) (is_odd (half c.y)) (is_odd (half c.z))

-- and leads to the point
step-leads : (p : Parity) (c : Coord) → Odds c (oddness p) (oddness p) (oddness p) → c ≡ moved (doubled (parent-of-halves p (halves c))) (step_to p c)
step-leads Even c o =
    let a = is_odd (half c.x) in
    let b = is_odd (half c.y) in
    let d = is_odd (half c.z) in
    λ i.
    at (sym (even-back (alone a b d) c.x o.odd-x) i) (sym (even-back (alone b a d) c.y o.odd-y) i) (sym (even-back (alone d a b) c.z o.odd-z) i)
step-leads Odd c o =
    let a = is_odd (half c.x) in
    let b = is_odd (half c.y) in
    let d = is_odd (half c.z) in
    λ i.
    at (sym (odd-back false c.x o.odd-x) i) (sym (odd-back (not (beq a b)) c.y o.odd-y) i) (sym (odd-back (not (beq a d)) c.z o.odd-z) i)

-- ---- the parent

child-by : (p : Parity) (c : Coord) → parity_of c ≡ Ok p → Memᴰ c (child_places (parent-of-halves p (halves c)))
unfolding child_places
child-by p c e =
    let listed = step-listed p (is_odd (half c.x)) (is_odd (half c.y)) (is_odd (half c.z)) in
    Memᴰ.cast (step-leads p c (parity-odds c p (parity-point c p e) e)) (Memᴰ.map (moved (doubled (parent-of-halves p (halves c)))) listed)

-- every point that has a parent is one of the eight child places of that parent
pub parent-child : (c p : Coord) → parent_of c ≡ Ok p → Memᴰ c (child_places p)
unfolding parent_of
parent-child c p e = by-parity (parity_of c) refl e
  where
    known : {q : Coord} → Memᴰ c (child_places q) → ◌≡◌ {A = Result Coord Refusal} (Ok q) (Ok p) → Memᴰ c (child_places p)
    known {q} m f = subst (λ (q : Coord). Memᴰ c (child_places q)) (at_path q p f) m

    by-parity : (a : Result Parity Refusal) → parity_of c ≡ a → parent_by a c ≡ Ok p → Memᴰ c (child_places p)
    by-parity (Err r) q f = absurd (let z : ◌≡◌ {A = ℕ} 0 1 = cc in omega arith)
    by-parity (Ok t) q f = known (child-by t c q) (sym (parent-at t c) ∙ f)

-- every lattice point has exactly one parent: the one that `parent_of` tells
pub one_parent : (c : Coord) → is_lattice_point c ≡ true → (p : Coord) × OnlyParent c p
unfolding parent_of
one_parent c e = go (is_odd c.x) (point-parity c e)
  where
    from : (p : Coord) → parent_of c ≡ Ok p → (p : Coord) × OnlyParent c p
    from p f = (p, record { told = f; point = parent-is-point c p f; child = parent-child c p f; only = λ q g m. at_path q p (sym (child-parent q c g m) ∙ f) })

    go : (t : Bool) → parity_of c ≡ Ok (cond t Odd Even) → (p : Coord) × OnlyParent c p
    go true f = from (parent-of-halves Odd (halves c)) (ap (λ (a : Result Parity Refusal). parent_by a c) f ∙ parent-at Odd c)
    go false f = from (parent-of-halves Even (halves c)) (ap (λ (a : Result Parity Refusal). parent_by a c) f ∙ parent-at Even c)

-- ---- the calls

-- what `get_children` answers are the child places
children-places : (p : Coord) (l : List Coord) → children_of p ≡ Ok l → l ≡ child_places p
unfolding children_of
children-places p l e = by-parity (parity_of p) e
  where
    by-room : (t : Bool) → children_in t p ≡ Ok l → l ≡ child_places p
    by-room true f = cc
    by-room false f = cc

    by-parity : (a : Result Parity Refusal) → children_by a p ≡ Ok l → l ≡ child_places p
    by-parity (Err r) f = cc
    by-parity (Ok q) f = by-room (has_child_room p) f

-- where `get_parent` tells a place and `get_children` answers for that place, the point is one of the eight: over the two calls' own contracts
pub told-among-children : (κs : Lfts 0) (a : Dens κs get-parent-kinds.ps) (z : (res_t get-parent-kinds.r κs).Denot) (e : AtExit (ended_of 0 get-parent-kinds.ps get-parent-kinds.r) κs)
    (b : Dens κs get-children-kinds.ps) (y : (res_t get-children-kinds.r κs).Denot) (f : AtExit (ended_of 0 get-children-kinds.ps get-children-kinds.r) κs) (l : List Coord)
    → get-parent.Post κs a z e → get-children.Post κs b y f → z ≡ Ok b.0 → y ≡ Ok l → Memᴰ a.0 l
told-among-children κs a z e b y f l told listed is-parent answered =
    let places = children-places b.0 l (sym listed ∙ answered) in
    subst (λ (l : List Coord). Memᴰ a.0 l) (sym places) (parent-child a.0 b.0 (sym told ∙ is-parent))
