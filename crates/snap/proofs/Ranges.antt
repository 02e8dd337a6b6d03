-- From a coordinate in range to its candidates: how far from zero a float is, and that halving, taking one away and rounding keep it there.
use mathlib.Core.Path.{◌≡◌, refl, sym, ap, ◌∙◌, subst}
use mathlib.Core.Bool.{Bool, true, false, cond, true≢false, false≢true}
use Prim.Native.Nat.{ℕ, zero, suc, ◌+◌, ◌-◌, ◌*◌, ◌^◌, ◌≤◌, ◌<◌, zero-le}
use native.Mathlib.Nat.{le_of_eq, mul-one, add-mul, mul_left_comm, mul_right_comm, le_of_mul-le-mul_right, mul-le-mul_right, le_trans, mul-pos}
use native.Mathlib.Omega.{arith}
use lib.Dec.{ltb, eqb, lit<, lit≤}
use lib.IntN.{ℤ, pos, negsuc, neg_ℤ, ◌+ℤ◌}
use lib.Ieee.{Float, nan, inf, fin, binary64, unlike, up, down, odd, units, round, sum, add, sub, neg, div, le}
use lib.Ieee.Fits.{round_is, down_pos}
use lib.Ieee.Exact.{HasValue}
use lib.Ieee.Back.{round_whole}
use lib.Ieee.Bits.{is_true}
use lib.Ieee.Order.{round_mono}
use borrow.Author.Tests.{eqb-true, lt-ltb, eq-eqb}
use Rattle.float.specs.Round.{whole_of, whole_away}
use Rattle.float.proofs.Laws.{at_most, level-or-below, size-within}
use Rattle.general.proofs.Tests.{both, three}
use Rattle.snap.specs.declared.Point.{Point}
use Rattle.snap.specs.Snap.{in_range, all_in_range, float_one, float_two, even_near, odd_near}

-- ---- a float from -low to high
abbrev pub Between : ℕ → ℕ → Float → Type 0
Between low high nan = ⊥
Between low high (inf s) = ⊥
Between low high (fin s m e) = m * up e ≤ cond s low high * down e

-- ---- rounding
-- a number that is at most a whole one
under_whole : (m : ℕ) (e : ℤ) (b : ℕ) (y : Float) → HasValue y false b 1 → le (fin false m e) y ≡ true → m * up e ≤ b * down e
unfolding le
under_whole m e b nan v l = absurd v
under_whole m e b (inf t) v l = absurd v
under_whole m e b (fin true n d) v l = absurd (true≢false v.0)
under_whole m e b (fin false n d) v l =
    let N = m * up e in
    let P = n * up d in
    let h : N * down d ≤ P * down e = at_most (N * down d) (P * down e) (eqb (N * down d) (P * down e)) _ (λ q. le_of_eq (eqb-true (N * down d) (P * down e) q)) l in
    let p : P ≡ b * down d = sym (mul-one P) ∙ v.1 in
    le_of_mul-le-mul_right (le_trans h (le_of_eq (ap (λ (x : ℕ). x * down e) p ∙ mul_right_comm b (down d) (down e)))) (down_pos d)

module _ (low high : ℕ) (s : Bool) where
  odd-between : (q k : ℕ) (y : Float) → HasValue y false (cond s low high) 1 → le (odd 54 false q k 1074) y ≡ true → Between low high (odd 54 s q k 1074)
  unfolding odd
  odd-between zero k y v l = zero-le
  odd-between (suc q) k y v l = under_whole _ _ (cond s low high) y v l

  infinite-above : (b : ℕ) (y : Float) → HasValue y false b 1 → le (inf false) y ≡ true → ⊥
  unfolding le
  infinite-above b nan v l = v
  infinite-above b (inf t) v l = v
  infinite-above b (fin t n d) v l = false≢true l

  units-between : (q k : ℕ) (y : Float) → HasValue y false (cond s low high) 1 → le (units binary64 false q k) y ≡ true → Between low high (units binary64 s q k)
  unfolding units
  units-between q k y v = go (ltb (q * 2 ^ k) (2 ^ 2098))
    where
      go : (t : Bool) → le (cond t (odd 54 false q k 1074) (inf false)) y ≡ true → Between low high (cond t (odd 54 s q k 1074) (inf s))
      go true l = odd-between q k y v l
      go false l = absurd (infinite-above (cond s low high) y v l)

  -- rounding keeps a fraction at or under a whole number that the format holds
  round-between : (a c : ℕ) → 0 < c → cond s low high ≤ 9007199254740992 → a ≤ cond s low high * c → Between low high (round binary64 s a c)
  round-between a c some small h =
      let b = cond s low high in
      let y = round binary64 false b 1 in
      let l : le (round binary64 false a c) y ≡ true = is_true _ (round_mono binary64 a c b 1 some (lit< tt) (subst (λ (x : ℕ). x ≤ b * c) (sym (mul-one a)) h)) in
      subst (Between low high) (sym (round_is binary64 s a c))
      (units-between _ _ y (round_whole binary64 false b small) (subst (λ (x : Float). le x y ≡ true) (round_is binary64 false a c) l))

-- ---- a coordinate in range
range-sides : (v : Float) → le (fin true 1073741823 (pos 1)) v ≡ true → le v (fin false 1073741823 (pos 1)) ≡ true → Between 2147483646 2147483646 v
unfolding le
range-sides nan a b = absurd (false≢true b)
range-sides (inf true) a b = absurd (false≢true a)
range-sides (inf false) a b = absurd (false≢true b)
range-sides (fin false m e) a b = under_whole m e 2147483646 (fin false 1073741823 (pos 1)) (refl, refl) b
range-sides (fin true m e) a b =
    let N = m * up e * 1 in
    let D = 2147483646 * down e in
    subst (λ (x : ℕ). x ≤ D) (mul-one (m * up e)) (at_most N D (eqb D N) _ (λ q. le_of_eq (sym (eqb-true D N q))) a)

pub range-between : (v : Float) → in_range v ≡ true → Between 2147483646 2147483646 v
range-between v h =
    let l = both (le (fin true 1073741823 (pos 1)) v) (le v (fin false 1073741823 (pos 1))) h in
    range-sides v l.0 l.1

-- ---- one taken away
less_one : (v : Float) → Between 2147483646 2147483646 v → Between 2147483647 2147483645 (sub binary64 v float_one)
unfolding sub add neg sum
less_one nan h = absurd h
less_one (inf s) h = absurd h
less_one (fin true m e) h =
    round-between 2147483647 2147483645 true (m * up e * 1 + 1 * 1 * down e) (down e * 1) (mul-pos (down_pos e) (lit< tt)) (lit≤ tt) (more (m * up e) (down e) h)
  where
    more : (N D : ℕ) → N ≤ 2147483646 * D → N * 1 + 1 * 1 * D ≤ 2147483647 * (D * 1)
    more N D h = omega arith
less_one (fin false m e) h = go (ltb (m * up e * 1) (1 * 1 * down e))
  where
    some : 0 < down e * 1
    some = mul-pos (down_pos e) (lit< tt)

    fewer : (N D : ℕ) → 1 * 1 * D - N * 1 ≤ 2147483647 * (D * 1)
    fewer N D = omega arith

    less : (N D : ℕ) → N ≤ 2147483646 * D → N * 1 - 1 * 1 * D ≤ 2147483645 * (D * 1)
    less N D h = omega arith

    go : (t : Bool) → Between 2147483647 2147483645 (cond t (round binary64 true (1 * 1 * down e - m * up e * 1) (down e * 1)) (round binary64 false (m * up e * 1 - 1 * 1 * down e) (down e * 1)))
    go true = round-between 2147483647 2147483645 true (1 * 1 * down e - m * up e * 1) (down e * 1) some (lit≤ tt) (fewer (m * up e) (down e))
    go false = round-between 2147483647 2147483645 false (m * up e * 1 - 1 * 1 * down e) (down e * 1) some (lit≤ tt) (less (m * up e) (down e) h)

-- ---- halved
unlike-plus : (s : Bool) → unlike s false ≡ s
unlike-plus true = refl
unlike-plus false = refl

-- bounds of whose doubles the float keeps within, and that the format holds
record Halves (low high low' high' : ℕ) (s : Bool) : Type 0 where
  twice : cond s low high ≤ cond s low' high' + cond s low' high'
  small : cond s low' high' ≤ 9007199254740992

halved : (low high low' high' : ℕ) → ((s : Bool) → Halves low high low' high' s) → (v : Float) → Between low high v → Between low' high' (div binary64 v float_two)
unfolding div
halved low high low' high' r nan h = absurd h
halved low high low' high' r (inf s) h = absurd h
halved low high low' high' r (fin s m e) h =
    subst (λ (t : Bool). Between low' high' (round binary64 t (m * up e * 1) (2 * down e))) (sym (unlike-plus s))
    (round-between low' high' s (m * up e * 1) (2 * down e) (mul-pos (lit< tt) (down_pos e)) (r s).small
    (let g = mul-le-mul_right (down e) (r s).twice in
    let k = add-mul (cond s low' high') (cond s low' high') (down e) in
    let j = mul_left_comm (cond s low' high') 2 (down e) in
    let i = le_trans h g in
    let n = mul-one (m * up e) in
    omega arith))

pub even-halved : (v : Float) → in_range v ≡ true → Between 1073741823 1073741823 (div binary64 v float_two)
even-halved v h = halved 2147483646 2147483646 1073741823 1073741823 (λ s. go s) v (range-between v h)
  where
    go : (s : Bool) → Halves 2147483646 2147483646 1073741823 1073741823 s
    go true = record { twice = lit≤ tt; small = lit≤ tt }
    go false = record { twice = lit≤ tt; small = lit≤ tt }

pub odd-halved : (v : Float) → in_range v ≡ true → Between 1073741824 1073741823 (div binary64 (sub binary64 v float_one) float_two)
odd-halved v h = halved 2147483647 2147483645 1073741824 1073741823 (λ s. go s) (sub binary64 v float_one) (less_one v (range-between v h))
  where
    go : (s : Bool) → Halves 2147483647 2147483645 1073741824 1073741823 s
    go true = record { twice = lit≤ tt; small = lit≤ tt }
    go false = record { twice = lit≤ tt; small = lit≤ tt }

-- ---- what `nearest_whole` asks: from -2^30 to 2^30
pub record Near (x : Float) : Type 0 where
  pub low : le (fin true 1 (pos 30)) x ≡ true
  pub high : le x (fin false 1 (pos 30)) ≡ true

pub near : (low high : ℕ) → low ≤ 1073741824 → high ≤ 1073741824 → (x : Float) → Between low high x → Near x
unfolding le
near low high l k nan h = absurd h
near low high l k (inf s) h = absurd h
near low high l k (fin true m e) h =
    let A = 1073741824 * down e in
    let B = m * up e * 1 in
    let g : B ≤ A = subst (λ (x : ℕ). x ≤ A) (sym (mul-one (m * up e))) (le_trans h (mul-le-mul_right (down e) l)) in
    record {
      low = level-or-below B A (eqb A B) (λ p. eq-eqb A B (sym p)) g;
      high = rw (lt-ltb 0 (B + A) (some (down e) B (down_pos e)));
    }
  where
    some : (D B : ℕ) → 0 < D → 0 < B + 1073741824 * D
    some D B h = omega arith
near low high l k (fin false m e) h =
    let A = 1073741824 * down e in
    let B = m * up e * 1 in
    let g : B ≤ A = subst (λ (x : ℕ). x ≤ A) (sym (mul-one (m * up e))) (le_trans h (mul-le-mul_right (down e) k)) in
    record {
      low = rw (lt-ltb 0 (A + B) (some (down e) B (down_pos e)));
      high = level-or-below B A (eqb B A) (λ p. eq-eqb B A p) g;
    }
  where
    some : (D B : ℕ) → 0 < D → 0 < 1073741824 * D + B
    some D B h = omega arith

-- ---- the nearest whole number, from -low to high
abbrev pub Range : ℕ → ℕ → ℤ → Type 0
Range low high (pos n) = n ≤ high
Range low high (negsuc n) = suc n ≤ low

minus-range : (low high n : ℕ) → n ≤ low → Range low high (neg_ℤ (pos n))
minus-range low high zero h = zero-le
minus-range low high (suc n) h = h

away-range : (low high : ℕ) (x : Float) → Between low high x → Range low high (whole_away x)
unfolding whole_away
away-range low high nan h = absurd h
away-range low high (inf s) h = absurd h
away-range low high (fin true m e) h = minus-range low high (whole_of m e) (size-within m e low h)
away-range low high (fin false m e) h = size-within m e high h

twice-range : (low high : ℕ) (n : ℤ) → Range low high n → Range (low + low) (high + high) (n +ℤ n)
twice-range low high (pos n) h = omega arith
twice-range low high (negsuc n) h = omega arith

more-range : (low high : ℕ) (n : ℤ) → Range (suc low) high n → Range low (suc high) (n +ℤ pos 1)
more-range low high (pos n) h = omega arith
more-range low high (negsuc zero) h = zero-le
more-range low high (negsuc (suc n)) h = rw (lt-ltb 1 (suc (suc n)) (omega arith)) (omega arith)

-- ---- the candidates
pub even-whole : (v : Float) → in_range v ≡ true → Range 1073741823 1073741823 (whole_away (div binary64 v float_two))
even-whole v h = away-range 1073741823 1073741823 (div binary64 v float_two) (even-halved v h)

pub odd-whole : (v : Float) → in_range v ≡ true → Range 1073741824 1073741823 (whole_away (div binary64 (sub binary64 v float_one) float_two))
odd-whole v h = away-range 1073741824 1073741823 (div binary64 (sub binary64 v float_one) float_two) (odd-halved v h)

pub odd-twice : (n : ℤ) → Range 1073741824 1073741823 n → Range 2147483648 2147483646 (n +ℤ n)
odd-twice = twice-range 1073741824 1073741823

pub even-range : (v : Float) → in_range v ≡ true → Range 2147483646 2147483646 (even_near v)
unfolding even_near
even-range v h = twice-range 1073741823 1073741823 (whole_away (div binary64 v float_two)) (even-whole v h)

pub odd-range : (v : Float) → in_range v ≡ true → Range 2147483647 2147483647 (odd_near v)
unfolding odd_near
odd-range v h =
    let n = whole_away (div binary64 (sub binary64 v float_one) float_two) in
    more-range 2147483647 2147483646 (n +ℤ n) (odd-twice n (odd-whole v h))

-- ---- a point in range
pub record Within (p : Point) : Type 0 where
  pub in-x : in_range p.x ≡ true
  pub in-y : in_range p.y ≡ true
  pub in-z : in_range p.z ≡ true

pub all-within : (p : Point) → all_in_range p ≡ true → Within p
unfolding all_in_range
all-within p h =
    let each = three (in_range p.x) (in_range p.y) (in_range p.z) h in
    record { in-x = each.0; in-y = each.1; in-z = each.2 }
