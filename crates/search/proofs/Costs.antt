-- A cost is the bits of a number that is no NaN and has the sign +. Sums of costs, steps and distances are costs, and costs are in the order of their bits.
use Rattle.std.specs.Prelude.{Result, Ok, Err}
use Rattle.refusal.specs.declared.Refusal.{Refusal}
use mathlib.Core.Path.{◌≡◌, refl, sym, ap, subst, ◌∙◌}
use mathlib.Core.Bool.{Bool, true, false, not, cond, ◌&&◌, ◌||◌, beq, true≢false}
use Prim.Native.Nat.{ℕ, zero, suc, ◌+◌, ◌*◌, ◌/◌, ◌%◌, ◌^◌, ◌≤◌}
use native.Mathlib.Omega.{arith}
use lib.Dec.{T, leb, ltb, eqb, lit<}
use borrow.Author.Tests.{leb-false, lt-leb, le-ltb, ltb-true, ltb-false, eq-eqb, ne_eqb}
use lib.Ieee.{Float, nan, inf, fin, binary64, prec, emax, low, hid, ones, top, up, down, odd, units, round, sum, add, lt, eq, below, fits, is_nan, nan_bits, of_fields, of_bits, to_bits}
use lib.Ieee.Bits.{nan_bits_is, nan_bits_above, of_bits-to_bits}
use lib.Ieee.Exact.{HasValue}
use lib.Ieee.Fits.{round_is, add-fits}
use Rattle.refusal.specs.declared.Cell.{Cell}
use Rattle.refusal.specs.declared.Coord.{Coord}
use Rattle.float.proofs.Laws.{either}
use Rattle.float.proofs.Sizes.{unsigned, numbers-order}
use Rattle.lattice.specs.Lattice.{is_odd}
use Rattle.distance.specs.Distance.{distance_of}
use Rattle.distance.specs.Steps.{root_three, two_float}
use Rattle.distance.proofs.Nearest.{distance-nearest}
use Rattle.cell.specs.Cell.{x_of, coord_of, distance_cells}
use Rattle.route.specs.Route.{cost_between}
use Rattle.search.specs.Search.{plus, less, is}
use Rattle.search.specs.Plan.{distance_bits}
use Rattle.general.proofs.Tests.{whether}
use Rattle.search.specs.Costs.{Cost, equal}

-- ---- a number with its sign, the infinities among them

abbrev pub Number : Bool → Float → Type 0
Number s nan = ⊥
Number s (inf t) = t ≡ s
Number s (fin t m e) = t ≡ s

one-sign : (x : Float) (s t : Bool) → Number s x → Number t x → s ≡ t
one-sign nan s t h k = absurd h
one-sign (inf u) s t h k = sym h ∙ k
one-sign (fin u m e) s t h k = sym h ∙ k

is_number : (x : Float) (s : Bool) → Number s x → is_nan x ≡ false
unfolding is_nan
is_number nan s h = absurd h
is_number (inf u) s h = refl
is_number (fin u m e) s h = refl

odd_number : (d : ℕ) (s : Bool) (q k l : ℕ) → Number s (odd d s q k l)
unfolding odd
odd_number d s zero k l = refl
odd_number d s (suc q) k l = refl

units_number : (s : Bool) (q k : ℕ) → Number s (units binary64 s q k)
unfolding units
units_number s q k =
    either (Number s) (ltb (q * 2 ^ k) (2 ^ (low binary64 + suc (emax binary64)))) (odd (suc (prec binary64)) s q k (low binary64)) (inf s) (odd_number (suc (prec binary64)) s q k (low binary64)) refl

pub round_number : (s : Bool) (a b : ℕ) → Number s (round binary64 s a b)
round_number s a b = rw (round_is binary64 s a b) (units_number s _ _)

-- ---- the sign of a pattern

fields-number : (s : Bool) (x t : ℕ) → is_nan (of_fields binary64 s x t) ≡ false → Number s (of_fields binary64 s x t)
unfolding of_fields is_nan
fields-number s zero t h = odd_number (prec binary64) s t 0 (low binary64)
fields-number s (suc x) t h =
    either (λ (y : Float). is_nan y ≡ false → Number s y) (eqb (suc x) (ones binary64)) (cond (eqb t 0) (inf s) nan) (odd (prec binary64) s (hid binary64 + t) x (low binary64))
    (either (λ (y : Float). is_nan y ≡ false → Number s y) (eqb t 0) (inf s) nan (λ k. refl) (λ k. true≢false k))
    (λ k. odd_number (prec binary64) s (hid binary64 + t) x (low binary64)) h

bits-number : (b : ℕ) → nan_bits binary64 b ≡ false → Number (leb (top binary64) b) (of_bits binary64 b)
unfolding of_bits
bits-number b h = fields-number (leb (top binary64) b) (b % top binary64 / hid binary64) (b % hid binary64) (sym (nan_bits_is binary64 b) ∙ h)

pub cost-number : (b : ℕ) → Cost b → Number false (of_bits binary64 b)
cost-number b c = subst (λ (s : Bool). Number s (of_bits binary64 b)) (lt-leb (top binary64) b c.positive) (bits-number b c.number)

-- the bits of a number with the sign +
pub number-cost : (x : Float) → T (fits binary64 x) → Number false x → Cost (to_bits binary64 x)
number-cost x f n =
    let back = of_bits-to_bits binary64 x f in
    let number : nan_bits binary64 (to_bits binary64 x) ≡ false = nan_bits_is binary64 (to_bits binary64 x) ∙ ap is_nan back ∙ is_number x false n in
    let plain = one-sign x (leb (top binary64) (to_bits binary64 x)) false (subst (Number (leb (top binary64) (to_bits binary64 x))) back (bits-number (to_bits binary64 x) number)) n in
    record { positive = leb-false (top binary64) (to_bits binary64 x) plain; number = number }

-- ---- which bits are costs

-- those up to infinity's
pub cost-small : (g : ℕ) → g ≤ 0x7FF0_0000_0000_0000 → Cost g
cost-small g small =
    let same : g % 9223372036854775808 ≡ g = omega arith in
    record { positive = omega arith; number = nan_bits_above binary64 g ∙ le-ltb 0x7FF0_0000_0000_0000 (g % 9223372036854775808) (omega arith) }

-- and no others
pub small-cost : (g : ℕ) → Cost g → g ≤ 0x7FF0_0000_0000_0000
small-cost g cost =
    let positive = cost.positive in
    let same : g % 9223372036854775808 ≡ g = omega arith in
    let most : g % 9223372036854775808 ≤ 0x7FF0_0000_0000_0000 = ltb-false 0x7FF0_0000_0000_0000 (g % 9223372036854775808) (sym (nan_bits_above binary64 g) ∙ cost.number) in
    omega arith

-- ---- sums

sum_number : (x y : Float) → Number false x → Number false y → Number false (add binary64 x y)
unfolding add sum
sum_number nan y h k = absurd h
sum_number (inf true) y h k = absurd (true≢false h)
sum_number (inf false) nan h k = absurd k
sum_number (inf false) (inf true) h k = absurd (true≢false k)
sum_number (inf false) (inf false) h k = refl
sum_number (inf false) (fin t n d) h k = refl
sum_number (fin true m e) y h k = absurd (true≢false h)
sum_number (fin false m e) nan h k = absurd k
sum_number (fin false m e) (inf t) h k = k
sum_number (fin false m e) (fin true n d) h k = absurd (true≢false k)
sum_number (fin false m e) (fin false n d) h k = round_number false (m * up e * down d + n * up d * down e) (down e * down d)

pub plus-cost : (a b : ℕ) → Cost a → Cost b → Cost (plus a b)
unfolding plus
plus-cost a b c d =
    let x = of_bits binary64 a in
    let y = of_bits binary64 b in
    number-cost (add binary64 x y) (add-fits binary64 x y) (sum_number x y (cost-number a c) (cost-number b d))

pub plus-is : (a b r : ℕ) (x y : Float) → Cost a → Cost b → x ≡ of_bits binary64 a → y ≡ of_bits binary64 b → r ≡ to_bits binary64 (add binary64 x y) → (r ≡ plus a b) × Cost r
unfolding plus
plus-is a b r x y c d first second e =
    let same : r ≡ plus a b = e ∙ (λ i. to_bits binary64 (add binary64 (first i) (second i))) in
    (same, subst Cost (sym same) (plus-cost a b c d))

-- ---- the order

-- the bits of costs are in the order of the costs
pub cost-order : (a b : ℕ) → Cost a → Cost b → less a b ≡ ltb a b
unfolding less
cost-order a b c d =
    numbers-order a b c.number d.number
    ∙ (λ i. below (lt-leb (2 ^ 63) a c.positive i) (whole a c i) (lt-leb (2 ^ 63) b d.positive i) (whole b d i))
  where
    whole : (a : ℕ) → Cost a → unsigned a ≡ a
    whole a c = omega (arith, c.positive)

-- equal numbers are those of which neither is less
eqb-neither : (a b : ℕ) → eqb a b ≡ not (ltb a b || ltb b a)
eqb-neither a b =
    whether (ltb a b)
    (λ h. let l = ltb-true a b h in rw (h, ne_eqb a b (λ e. omega arith)))
    (λ h. let l = ltb-false a b h in whether (ltb b a)
    (λ g. let m = ltb-true b a g in rw (h, g, ne_eqb a b (λ e. omega arith)))
    (λ g. let m = ltb-false b a g in rw (h, g, eq-eqb a b (omega arith))))

equal-neither : (x y : Float) → Number false x → Number false y → eq x y ≡ not (lt x y || lt y x)
unfolding eq lt
equal-neither nan y h k = absurd h
equal-neither (inf true) y h k = absurd (true≢false h)
equal-neither (inf false) nan h k = absurd k
equal-neither (inf false) (inf true) h k = absurd (true≢false k)
equal-neither (inf false) (inf false) h k = refl
equal-neither (inf false) (fin true n d) h k = absurd (true≢false k)
equal-neither (inf false) (fin false n d) h k = refl
equal-neither (fin true m e) y h k = absurd (true≢false h)
equal-neither (fin false m e) nan h k = absurd k
equal-neither (fin false m e) (inf true) h k = absurd (true≢false k)
equal-neither (fin false m e) (inf false) h k = refl
equal-neither (fin false m e) (fin true n d) h k = absurd (true≢false k)
equal-neither (fin false m e) (fin false n d) h k = plain (eqb (m * up e * down d) (n * up d * down e)) ∙ eqb-neither (m * up e * down d) (n * up d * down e)
  where
    plain : (b : Bool) → (b && true) ≡ b
    plain true = refl
    plain false = refl

-- costs are the same number exactly where their bits are the same
pub cost-equal : (a b : ℕ) → Cost a → Cost b → equal a b ≡ eqb a b
unfolding equal less
cost-equal a b c d =
    equal-neither (of_bits binary64 a) (of_bits binary64 b) (cost-number a c) (cost-number b d)
    ∙ (λ i. not (cost-order a b c d i || cost-order b a d c i))
    ∙ sym (eqb-neither a b)

-- ---- steps

step_by : (t : Bool) → Cost (to_bits binary64 (cond t two_float root_three))
unfolding to_bits of_bits nan_bits
step_by true = record { positive = lit< tt; number = refl }
step_by false = record { positive = lit< tt; number = refl }

pub step-cost : (a b : Cell) → Cost (to_bits binary64 (cost_between a b))
unfolding cost_between
step-cost a b = step_by (beq (is_odd (x_of a)) (is_odd (x_of b)))

pub step_is : (a b : Cell) (r : ℕ) (x : Float) → x ≡ cost_between a b → r ≡ to_bits binary64 x → (r ≡ to_bits binary64 (cost_between a b)) × Cost r
step_is a b r x e h = let same = h ∙ ap (to_bits binary64) e in (same, subst Cost (sym same) (step-cost a b))

-- ---- distances

-- finite, with the sign +
value-number : (x : Float) (a c : ℕ) → HasValue x false a c → Number false x
value-number nan a c h = h
value-number (inf s) a c h = absurd h
value-number (fin s m e) a c h = h.0

pub distance-cost : (a b : Coord) (d : Float) → distance_of a b ≡ Ok d → Cost (to_bits binary64 d)
distance-cost a b d h = let n = distance-nearest a b d h in number-cost d n.representable (value-number d _ _ n.not_negative)

-- the heuristic that a search is told
pub ahead-cost : (a b : Cell) (x : ℕ) → is x ≡ distance_bits (distance_cells a b) → Cost x
ahead-cost a b x e = by_answer (distance_of (coord_of a) (coord_of b)) refl e
  where
    by_answer : (d : Result Float Refusal) → distance_of (coord_of a) (coord_of b) ≡ d → is x ≡ distance_bits d → Cost x
    by_answer (Ok d) f g = let same : to_bits binary64 d ≡ x = cc in subst Cost same (distance-cost (coord_of a) (coord_of b) d f)
    by_answer (Err r) f g = absurd (let z : ◌≡◌ {A = ℕ} 0 1 = cc in omega arith)
