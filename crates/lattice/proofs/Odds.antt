-- The lattice's definitions over the parities of the coordinates alone: lemmas for the laws.
use Rattle.std.specs.Prelude.{Result, Ok, Err}
use mathlib.Core.Path.{◌≡◌, refl, sym, ap, ap₂, subst, ◌∙◌}
use mathlib.Core.Bool.{Bool, true, false, not, cond, ◌&&◌, beq, false≢true}
use mathlib.Core.List.{Memᴰ}
use Prim.Native.Nat.{ℕ, zero, suc, ◌+◌, ◌/◌, ◌%◌}
use native.Mathlib.Omega.{arith}
use lib.Dec.{T, eqb}
use lib.ListN.{get_or}
use lib.IntN.{ℤ, pos, negsuc, neg_ℤ, ◌+ℤ◌, +ℤ_idr, +ℤ-neg_ℤ_cancel, -ℤ-+ℤ_cancel}
use borrow.Author.Tests.{eqb-false}
use Rattle.refusal.specs.declared.Coord.{Coord}
use Rattle.refusal.specs.declared.Refusal.{Refusal}
use Rattle.refusal.specs.declared.Refusal.TheVariants.{InvalidParity}
use Rattle.lattice.specs.declared.Parity.{Parity}
use Rattle.lattice.specs.declared.Parity.TheVariants.{Even, Odd}
use Rattle.lattice.specs.Lattice.{at, is_odd, is_lattice_point, parity_of, moved, neighbor_steps, doubled, child_steps, half, raised, alone, differing_axis, take_one_off, halves, parent_of, apart, manhattan}
use Rattle.lattice.proofs.Origin.{origin}
use Rattle.lattice.proofs.Split.{parent_by}
use Rattle.lattice.proofs.SignsLaws.{either, either-false, agree-turned, odd-sum, odd-double, half-double, apart-even, odd-halfway}
use Rattle.lattice.specs.Middle.{middle}
use Rattle.general.specs.Each.{Each}
use Rattle.general.proofs.Lists.{has, placed}

-- which of the coordinates are odd
pub record Odds (c : Coord) (a b d : Bool) : Type 0 where
  pub odd-x : is_odd c.x ≡ a
  pub odd-y : is_odd c.y ≡ b
  pub odd-z : is_odd c.z ≡ d

own : (c : Coord) → Odds c (is_odd c.x) (is_odd c.y) (is_odd c.z)
own c = record { odd-x = refl; odd-y = refl; odd-z = refl }

-- ---- lattice points

abbrev one-parity : Bool → Bool → Bool → Bool
one-parity a b d = beq a b && beq b d

point-by : (c : Coord) (a b d : Bool) → Odds c a b d → is_lattice_point c ≡ one-parity a b d
unfolding is_lattice_point
point-by c a b d o = λ i. one-parity (o.odd-x i) (o.odd-y i) (o.odd-z i)

pub same-parity : (t : Bool) (c : Coord) → Odds c t t t → is_lattice_point c ≡ true
same-parity true c o = point-by c true true true o
same-parity false c o = point-by c false false false o

first-parity : (c : Coord) (a b d : Bool) → Odds c a b d → one-parity a b d ≡ true → Odds c a a a
first-parity c true true true o e = o
first-parity c true true false o e = absurd (false≢true e)
first-parity c true false d o e = absurd (false≢true e)
first-parity c false true d o e = absurd (false≢true e)
first-parity c false false true o e = absurd (false≢true e)
first-parity c false false false o e = o

-- a lattice point's coordinates are odd where its first is
pub point-odds : (c : Coord) → is_lattice_point c ≡ true → Odds c (is_odd c.x) (is_odd c.x) (is_odd c.x)
unfolding is_lattice_point
point-odds c e = first-parity c (is_odd c.x) (is_odd c.y) (is_odd c.z) (own c) e

-- ---- the parity's name

abbrev pub oddness : Parity → Bool
oddness Even = false
oddness Odd = true

abbrev pub answer : Bool → Bool → Coord → Result Parity Refusal
answer t a c = cond t (Ok (cond a Odd Even)) (Err (InvalidParity c))

pub answered : (t a : Bool) (c : Coord) (p : Parity) → answer t a c ≡ Ok p → t ≡ true
answered true a c p e = refl
answered false a c p e = cc

named : (a : Bool) (p : Parity) → ◌≡◌ {A = Result Parity Refusal} (Ok (cond a Odd Even)) (Ok p) → a ≡ oddness p
named true Even e = cc
named true Odd e = refl
named false Even e = refl
named false Odd e = cc

pub parity-odds : (c : Coord) (p : Parity) → is_lattice_point c ≡ true → parity_of c ≡ Ok p → Odds c (oddness p) (oddness p) (oddness p)
unfolding parity_of
parity-odds c p point e =
    let a = is_odd c.x in
    subst (λ (t : Bool). Odds c t t t) (named a p (sym (ap (λ (t : Bool). answer t a c) point) ∙ e)) (point-odds c point)

odds-parity : (c : Coord) (p : Parity) → Odds c (oddness p) (oddness p) (oddness p) → parity_of c ≡ Ok p
unfolding parity_of is_lattice_point
odds-parity c Even o = λ i. answer (one-parity (o.odd-x i) (o.odd-y i) (o.odd-z i)) (o.odd-x i) c
odds-parity c Odd o = λ i. answer (one-parity (o.odd-x i) (o.odd-y i) (o.odd-z i)) (o.odd-x i) c

-- ---- steps

pub moved-odds : (c s : Coord) {a b d a' b' d' : Bool} → Odds c a b d → Odds s a' b' d' → Odds (moved c s) (either a a') (either b b') (either d d')
moved-odds c s o p =
    record {
      odd-x = odd-sum c.x s.x ∙ ap₂ either o.odd-x p.odd-x;
      odd-y = odd-sum c.y s.y ∙ ap₂ either o.odd-y p.odd-y;
      odd-z = odd-sum c.z s.z ∙ ap₂ either o.odd-z p.odd-z;
    }

-- a child has the parity of its step
pub child-odds : (c s : Coord) {a b d : Bool} → Odds s a b d → Odds (moved (doubled c) s) a b d
child-odds c s o =
    record {
      odd-x = odd-double c.x s.x ∙ o.odd-x;
      odd-y = odd-double c.y s.y ∙ o.odd-y;
      odd-z = odd-double c.z s.z ∙ o.odd-z;
    }

abbrev pub back : Coord → Coord
back s = at (neg_ℤ s.x) (neg_ℤ s.y) (neg_ℤ s.z)

entry : (k : ℕ) → T (has neighbor_steps k) → Memᴰ (get_or neighbor_steps k origin) neighbor_steps
entry k = placed neighbor_steps k origin

-- the table of neighbours has each step's way back
pub ways-back : Each (λ (s : Coord). Memᴰ (back s) neighbor_steps) neighbor_steps
unfolding neighbor_steps
ways-back = (
  entry 7 tt,
  (
    entry 6 tt,
    (
      entry 5 tt,
      (
        entry 4 tt,
        (
          entry 3 tt,
          (
            entry 2 tt,
            (
              entry 1 tt,
              (
                entry 0 tt,
                (entry 9 tt, (entry 8 tt, (entry 11 tt, (entry 10 tt, (entry 13 tt, (entry 12 tt, tt)))))),
              ),
            ),
          ),
        ),
      ),
    ),
  ),
)

pub there_and_back : (c s : Coord) → c ≡ moved (moved c s) (back s)
there_and_back c s = λ i. at (sym (+ℤ-neg_ℤ_cancel c.x s.x) i) (sym (+ℤ-neg_ℤ_cancel c.y s.y) i) (sym (+ℤ-neg_ℤ_cancel c.z s.z) i)

-- ---- the parent

-- one less where the test holds
abbrev pub lowered : Bool → ℤ → ℤ
lowered b z = cond b (z +ℤ negsuc 0) z

-- the parent of a point of this parity, by its halves and which of them are odd, coordinate by coordinate
abbrev pub parent-from : Parity → Bool → Bool → Bool → Coord → Coord
parent-from Even a b d q = at (lowered (alone a b d) q.x) (lowered (alone b a d) q.y) (lowered (alone d a b) q.z)
parent-from Odd a b d q = at q.x (raised (not (beq a b)) q.y) (raised (not (beq a d)) q.z)

abbrev pub parent-of-halves : Parity → Coord → Coord
parent-of-halves p q = parent-from p (is_odd q.x) (is_odd q.y) (is_odd q.z) q

-- one taken off the axis that differs is, coordinate by coordinate, one less where the parity stands alone: what `even_parent` was before it was said by its axis
pub even-by-coordinates : (a b d : Bool) (q : Coord) → take_one_off (differing_axis a b d) q ≡ parent-from Even a b d q
even-by-coordinates true true true q = refl
even-by-coordinates true true false q = refl
even-by-coordinates true false true q = refl
even-by-coordinates true false false q = refl
even-by-coordinates false true true q = refl
even-by-coordinates false true false q = refl
even-by-coordinates false false true q = refl
even-by-coordinates false false false q = refl

pub parent-at : (p : Parity) (c : Coord) → parent_by (Ok p) c ≡ Ok (parent-of-halves p (halves c))
parent-at Even c = ap Ok (even-by-coordinates (is_odd (half c.x)) (is_odd (half c.y)) (is_odd (half c.z)) (halves c))
parent-at Odd c = refl

parent-by-odds : (p : Parity) (a b d : Bool) (q : Coord) → Odds q a b d → parent-of-halves p q ≡ parent-from p a b d q
parent-by-odds p a b d q o = λ i. parent-from p (o.odd-x i) (o.odd-y i) (o.odd-z i) q

-- only which parities agree counts: changing all three changes nothing
turned : (p : Parity) (t a b d : Bool) (q : Coord) → parent-from p (either t a) (either t b) (either t d) q ≡ parent-from p a b d q
turned Even t a b d q =
    λ i.
    at (lowered (not (agree-turned t a b i) && agree-turned t b d i) q.x) (lowered (not (agree-turned t b a i) && agree-turned t a d i) q.y) (lowered (not (agree-turned t d a i) && agree-turned t a b i) q.z)
turned Odd t a b d q = λ i. at q.x (raised (not (agree-turned t a b i)) q.y) (raised (not (agree-turned t a d i)) q.z)

refused-at : (r : Refusal) (q : Coord) → ◌≡◌ {A = Result Coord Refusal} (Err r) (Ok q) → ⊥
refused-at r q e = let z : ◌≡◌ {A = ℕ} 0 1 = cc in omega arith

pub at_path : (p q : Coord) → ◌≡◌ {A = Result Coord Refusal} (Ok p) (Ok q) → p ≡ q
at_path p q e = cc

parent-cases-by : (P : Coord → Type 0) (c q : Coord) (a : Result Parity Refusal) → ((p : Parity) → P (parent-of-halves p (halves c))) → parent_by a c ≡ Ok q → P q
parent-cases-by P c q (Err r) f e = absurd (refused-at r q e)
parent-cases-by P c q (Ok p) f e = subst P (at_path (parent-of-halves p (halves c)) q (sym (parent-at p c) ∙ e)) (f p)

-- what holds of the parent by either parity holds of the parent
pub parent-cases : (P : Coord → Type 0) (c q : Coord) → ((p : Parity) → P (parent-of-halves p (halves c))) → parent_of c ≡ Ok q → P q
unfolding parent_of
parent-cases P c q f e = parent-cases-by P c q (parity_of c) f e

-- ---- the parent of a child

child-halves : (c s : Coord) → halves (moved (doubled c) s) ≡ moved c (halves s)
child-halves c s = λ i. at (half-double c.x s.x i) (half-double c.y s.y i) (half-double c.z s.z i)

-- the point moved by half the step, and mended as the halves of the step alone say
parent-of-child : (c s : Coord) (t : Bool) (p : Parity) → Odds c t t t → Odds s (oddness p) (oddness p) (oddness p) → parent_of (moved (doubled c) s) ≡ Ok (parent-from p (is_odd (half s.x)) (is_odd (half s.y)) (is_odd (half s.z)) (moved c (halves s)))
unfolding parent_of
parent-of-child c s t p o e =
    let d = moved (doubled c) s in
    let h = halves s in
    ap (λ (a : Result Parity Refusal). parent_by a d) (odds-parity d p (child-odds c s e))
    ∙ parent-at p d
    ∙ ap (λ (q : Coord). Ok (parent-of-halves p q)) (child-halves c s)
    ∙ ap Ok (parent-by-odds p _ _ _ (moved c h) (moved-odds c h o (own h)) ∙ turned p t (is_odd h.x) (is_odd h.y) (is_odd h.z) (moved c h))

home : {x y z x' y' z' : ℤ} → x ≡ x' → y ≡ y' → z ≡ z' → ◌≡◌ {A = Result Coord Refusal} (Ok (at x y z)) (Ok (at x' y' z'))
home e f g = λ i. Ok (at (e i) (f i) (g i))

all : (t : Bool) {x y z : ℤ} → is_odd x ≡ t → is_odd y ≡ t → is_odd z ≡ t → Odds (at x y z) t t t
all t e f g = record { odd-x = e; odd-y = f; odd-z = g }

kept : (z : ℤ) → z +ℤ pos 0 ≡ z
kept = +ℤ_idr

down : (z : ℤ) → z +ℤ pos 1 +ℤ negsuc 0 ≡ z
down z = +ℤ-neg_ℤ_cancel z (pos 1)

up : (z : ℤ) → z +ℤ negsuc 0 +ℤ pos 1 ≡ z
up z = -ℤ-+ℤ_cancel z (pos 1)

-- each entry of the table of children leads back to the point
pub child-home : (c : Coord) (t : Bool) → Odds c t t t → Each (λ (s : Coord). parent_of (moved (doubled c) s) ≡ Ok c) child_steps
unfolding child_steps
child-home c t o = (
  parent-of-child c _ t Even o (all false refl refl refl) ∙ home (kept c.x) (kept c.y) (kept c.z),
  (
    parent-of-child c _ t Even o (all false refl refl refl) ∙ home (down c.x) (kept c.y) (kept c.z),
    (
      parent-of-child c _ t Even o (all false refl refl refl) ∙ home (kept c.x) (down c.y) (kept c.z),
      (
        parent-of-child c _ t Even o (all false refl refl refl) ∙ home (kept c.x) (kept c.y) (down c.z),
        (
          parent-of-child c _ t Odd o (all true refl refl refl) ∙ home (kept c.x) (kept c.y) (kept c.z),
          (
            parent-of-child c _ t Odd o (all true refl refl refl) ∙ home (kept c.x) (kept c.y) (up c.z),
            (
              parent-of-child c _ t Odd o (all true refl refl refl) ∙ home (kept c.x) (up c.y) (kept c.z),
              (
                parent-of-child c _ t Odd o (all true refl refl refl) ∙ home (kept c.x) (up c.y) (up c.z),
                tt,
              ),
            ),
          ),
        ),
      ),
    ),
  ),
)

-- ---- the parent is a lattice point

odd-stepped : (s : ℤ) → is_odd s ≡ true → (t : Bool) (z : ℤ) → is_odd (cond t (z +ℤ s) z) ≡ either (is_odd z) t
odd-stepped s e true z = odd-sum z s ∙ ap (either (is_odd z)) e
odd-stepped s e false z = either-false (is_odd z)

settled-even : (a b d : Bool) → one-parity (either a (alone a b d)) (either b (alone b a d)) (either d (alone d a b)) ≡ true
settled-even true true true = refl
settled-even true true false = refl
settled-even true false true = refl
settled-even true false false = refl
settled-even false true true = refl
settled-even false true false = refl
settled-even false false true = refl
settled-even false false false = refl

settled-odd : (a b d : Bool) → one-parity a (either b (not (beq a b))) (either d (not (beq a d))) ≡ true
settled-odd true true true = refl
settled-odd true true false = refl
settled-odd true false true = refl
settled-odd true false false = refl
settled-odd false true true = refl
settled-odd false true false = refl
settled-odd false false true = refl
settled-odd false false false = refl

pub parent-point : (p : Parity) (q : Coord) → is_lattice_point (parent-of-halves p q) ≡ true
parent-point Even q =
    let a = is_odd q.x in
    let b = is_odd q.y in
    let d = is_odd q.z in
    let lower = odd-stepped (negsuc 0) refl in
    point-by (parent-of-halves Even q) _ _ _ (record { odd-x = lower (alone a b d) q.x; odd-y = lower (alone b a d) q.y; odd-z = lower (alone d a b) q.z })
    ∙ settled-even a b d
parent-point Odd q =
    let a = is_odd q.x in
    let b = is_odd q.y in
    let d = is_odd q.z in
    let raise = odd-stepped (pos 1) refl in
    point-by (parent-of-halves Odd q) _ _ _ (record { odd-x = refl; odd-y = raise (not (beq a b)) q.y; odd-z = raise (not (beq a d)) q.z })
    ∙ settled-odd a b d

-- ---- the middle of two points

one_of_three : (l m n : ℕ) → l + m + n ≡ 1 → one-parity (eqb (l % 2) 1) (eqb (m % 2) 1) (eqb (n % 2) 1) ≡ false
one_of_three zero zero zero e = absurd (omega arith)
one_of_three zero zero (suc zero) e = refl
one_of_three zero zero (suc (suc n)) e = absurd (omega arith)
one_of_three zero (suc zero) zero e = refl
one_of_three zero (suc zero) (suc n) e = absurd (omega arith)
one_of_three zero (suc (suc m)) n e = absurd (omega arith)
one_of_three (suc zero) zero zero e = refl
one_of_three (suc zero) zero (suc n) e = absurd (omega arith)
one_of_three (suc zero) (suc m) n e = absurd (omega arith)
one_of_three (suc (suc l)) m n e = absurd (omega arith)

halves-sum : (l m n : ℕ) → (l % 2 ≡ 1 → ⊥) → (m % 2 ≡ 1 → ⊥) → (n % 2 ≡ 1 → ⊥) → l + m + n ≡ 2 → l / 2 + m / 2 + n / 2 ≡ 1
halves-sum l m n hl hm hn e = omega arith

one-turned : (t a b d : Bool) → one-parity (either t a) (either t b) (either t d) ≡ one-parity a b d
one-turned t a b d = λ i. agree-turned t a b i && agree-turned t b d i

pub middle-mixed : (a b : Coord) (t : Bool) → Odds a t t t → Odds b t t t → manhattan a b ≡ 2 → is_lattice_point (middle a b) ≡ false
unfolding manhattan
middle-mixed a b t o q e =
    let even-x = eqb-false _ _ (apart-even a.x b.x (o.odd-x ∙ sym q.odd-x)) in
    let even-y = eqb-false _ _ (apart-even a.y b.y (o.odd-y ∙ sym q.odd-y)) in
    let even-z = eqb-false _ _ (apart-even a.z b.z (o.odd-z ∙ sym q.odd-z)) in
    let l = apart a.x b.x / 2 in
    let m = apart a.y b.y / 2 in
    let n = apart a.z b.z / 2 in
    let odds : Odds (middle a b) (either t (eqb (l % 2) 1)) (either t (eqb (m % 2) 1)) (either t (eqb (n % 2) 1)) =
    record {
      odd-x = odd-halfway a.x b.x ∙ ap (λ (u : Bool). either u (eqb (l % 2) 1)) o.odd-x;
      odd-y = odd-halfway a.y b.y ∙ ap (λ (u : Bool). either u (eqb (m % 2) 1)) o.odd-y;
      odd-z = odd-halfway a.z b.z ∙ ap (λ (u : Bool). either u (eqb (n % 2) 1)) o.odd-z;
    } in
    point-by (middle a b) _ _ _ odds
    ∙ one-turned t (eqb (l % 2) 1) (eqb (m % 2) 1) (eqb (n % 2) 1)
    ∙ one_of_three l m n (halves-sum (apart a.x b.x) (apart a.y b.y) (apart a.z b.z) even-x even-y even-z e)
