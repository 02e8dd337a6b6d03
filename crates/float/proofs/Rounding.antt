-- Rounding of a number above zero, N / D as a fraction: its double is exact, and half of one more than the double's whole part is the nearest whole number.
use Rattle.std.proofs.Common.{◌≡◌, ℕ, zero, suc, ◌+◌, ◌-◌, ◌*◌, ◌/◌, ◌%◌, ◌^◌, ◌<◌, ◌≤◌, Bool, true, false, ◌&&◌, T, eqb, ltb, leb, ℤ, pos, negsuc, sym, ap, ◌∙◌, subst, true≢false, lt_of_lt_of_le, mul_assoc, mul_comm, div-lt_iff_lt-mul, mul-pos, lt_of_not-le, mul-one, sub-add_cancel, not-le_of_lt, arith, lit<, lit≤, ltb→lt, lt→ltb, leb→le, pow_pos, pow_mono, pow-add, shl_lt, ltb-true}
use native.Mathlib.Nat.{div-div-eq-div-mul, add-div_right}
use mathlib.Core.Bool.{false≢true}
use lib.Pow.{pow-lt}
use lib.Ieee.{Float, nan, inf, fin, binary64, up, down, round, mul, lt, fits, to_unsigned}
use lib.Ieee.Fits.{down_pos, and_l, and_r}
use lib.Ieee.Exact.{HasValue, round_exact}
use lib.Ieee.Nearest.{div_same}
use Rattle.float.specs.Inner.Round.{whole_size}
use Rattle.float.proofs.Laws.{so, digits_of, above_minus_one, cut-is}

abbrev pub nought : Float
nought = fin false 0 (pos 0)

-- 2 ^ 52, from which every number is whole
abbrev pub coarse : Float
coarse = fin false 1 (pos 52)

-- a zero is not above one
not-above : (d u : ℕ) → ltb (0 * d) (0 * u * 1) ≡ true → ⊥
not-above d u h = none (ltb-true (0 * d) (0 * u * 1) h)
  where
    none : 0 * d < 0 * u * 1 → ⊥
    none h = omega arith

-- ---- what `fits` says of a number that is not zero
module _ (s : Bool) (m : ℕ) (e : ℤ) (t : T (fits binary64 (fin s (suc m) e))) where
  pub down-within : down e ≤ 2 ^ 1074
  unfolding fits
  down-within =
      leb→le (down e) (2 ^ 1074) (and_r (eqb (suc m % 2) 1 && ltb (suc m) 9007199254740992) (leb (down e) (2 ^ 1074))
      (and_l (eqb (suc m % 2) 1 && ltb (suc m) 9007199254740992 && leb (down e) (2 ^ 1074)) (ltb (suc m * up e) (2 ^ 1024 * down e)) t))

pub exponent-within : (k : ℕ) → 2 ^ suc k ≤ 2 ^ 1074 → suc k ≤ 1074
exponent-within k l = lt_of_not-le (λ (g : 1074 ≤ k). not-le_of_lt (pow-lt (below g)) l)
  where
    below : 1074 ≤ k → 1074 < suc k
    below g = omega arith

-- ---- the double is exact
-- the double of N / D, as `mul` writes it
abbrev twice : ℕ → ℤ → Float
twice m e = round binary64 false (m * up e * 2) (down e * 1)

twice-value : (m : ℕ) (e : ℤ) → T (fits binary64 (fin false (suc m) e)) → suc m * up e < 4503599627370496 * down e → HasValue (twice (suc m) e) false (suc m * up e * 2) (down e * 1)
twice-value m (pos k) t h =
    let n = suc m in
    round_exact binary64 false (n * 2 ^ k * 2) 1 n (k + 1075) (lit< tt) (digits_of false (suc m) (pos k) t)
    (subst (λ (x : ℕ). x < 2 ^ 2098) (mul_assoc n (2 ^ k) (2 ^ 1075) ∙ ap (λ (x : ℕ). n * x) (sym (pow-add 2 k 1075)))
    (lt_of_lt_of_le (shl_lt {a = n * 2 ^ k} 52 1075 (subst (λ (x : ℕ). n * 2 ^ k < x) (mul-one 4503599627370496) h)) (pow_mono {i = 1127} {j = 2098} (lit≤ tt))))
    (mul_assoc (n * 2 ^ k) 2 (2 ^ 1074) ∙ mul_assoc n (2 ^ k) (2 ^ 1075) ∙ ap (λ (x : ℕ). n * x) (sym (pow-add 2 k 1075)) ∙ sym (mul-one (n * 2 ^ (k + 1075))))
twice-value m (negsuc k) t h =
    let n = suc m in
    let s : suc k ≤ 1075 = more (exponent-within k (down-within false m (negsuc k) t)) in
    round_exact binary64 false (n * 1 * 2) (2 ^ suc k * 1) n (1075 - suc k) (mul-pos (pow_pos (suc k)) (lit< tt)) (digits_of false (suc m) (negsuc k) t)
    (lt_of_lt_of_le (shl_lt 53 (1075 - suc k) (digits_of false (suc m) (negsuc k) t)) (pow_mono (room (suc k))))
    (mul_assoc (n * 1) 2 (2 ^ 1074)
    ∙ ap (λ (x : ℕ). x * 2 ^ 1075) (mul-one n)
    ∙ ap (λ (x : ℕ). n * x) (ap (λ (x : ℕ). 2 ^ x) (sym (sub-add_cancel s)) ∙ pow-add 2 (1075 - suc k) (suc k))
    ∙ sym (mul_assoc n (2 ^ (1075 - suc k)) (2 ^ suc k))
    ∙ ap (λ (x : ℕ). n * 2 ^ (1075 - suc k) * x) (sym (mul-one (2 ^ suc k))))
  where
    more : suc k ≤ 1074 → suc k ≤ 1075
    more l = omega arith

    room : (j : ℕ) → 53 + (1075 - j) ≤ 2098
    room j = omega arith

-- ---- what a cast to an integer asks and gives, of a value p / q below 2 ^ 64
module _ (p q : ℕ) (some : 0 < q) (below : p / q < 18446744073709551616) where
  pub cast-above : (z : Float) → HasValue z false p q → T (lt (fin true 1 (pos 0)) z)
  unfolding lt
  cast-above nan v = elim v [ ]
  cast-above (inf _) v = elim v [ ]
  cast-above (fin true n d) v = absurd (true≢false v.0)
  cast-above (fin false n d) v = above_minus_one n d

  pub cast-below : (z : Float) → HasValue z false p q → T (lt z (fin false 1 (pos 64)))
  unfolding lt
  cast-below nan v = elim v [ ]
  cast-below (inf _) v = elim v [ ]
  cast-below (fin true n d) v = absurd (true≢false v.0)
  cast-below (fin false n d) v =
      lt→ltb (n * up d * 1) (18446744073709551616 * down d)
      (subst (λ (x : ℕ). x < 18446744073709551616 * down d) (sym (mul-one (n * up d)))
      ((div-lt_iff_lt-mul (down_pos d)).0 (subst (λ (x : ℕ). x < 18446744073709551616) (sym (div_same (n * up d) (down d) p q (down_pos d) some v.1)) below)))

  pub cast_is : (z : Float) → HasValue z false p q → to_unsigned 64 z ≡ p / q
  unfolding to_unsigned
  cast_is nan v = elim v [ ]
  cast_is (inf _) v = elim v [ ]
  cast_is (fin true n d) v = absurd (true≢false v.0)
  cast_is (fin false n d) v =
      let same = div_same (n * up d) (down d) p q (down_pos d) some v.1 in
      cut-is n d (subst (λ (x : ℕ). x < 18446744073709551616) (sym same) below) ∙ same

-- ---- halves
-- half of one more than the whole part of the double is the whole part of N / D + 1 / 2
pub halves : (N D : ℕ) → 0 < D → (N * 2 / D + 1) / 2 ≡ (2 * N + D) / (2 * D)
halves N D h =
    ap (λ (x : ℕ). x / 2) (sym (add-div_right (N * 2) h))
    ∙ div-div-eq-div-mul (N * 2 + D) D 2
    ∙ ap (λ (x : ℕ). (x + D) / (D * 2)) (mul_comm N 2)
    ∙ ap (λ (x : ℕ). (2 * N + D) / x) (mul_comm D 2)

-- ---- a number above zero and below 2 ^ 52, doubled and cut
pub record Doubled (x : Float) (z : Float) : Type 0 where
  pub above : T (lt (fin true 1 (pos 0)) z)
  pub below : T (lt z (fin false 1 (pos 64)))
  pub small : to_unsigned 64 z < 9007199254740992
  pub half : (to_unsigned 64 z + 1) / 2 ≡ whole_size x

pub doubled : (x : Float) → T (fits binary64 x) → lt nought x ≡ true → lt x coarse ≡ true → Doubled x (mul binary64 x (fin false 1 (pos 1)))
unfolding lt mul whole_size
doubled nan t a b = absurd (false≢true a)
doubled (inf true) t a b = absurd (false≢true a)
doubled (inf false) t a b = absurd (false≢true b)
doubled (fin true m e) t a b = absurd (false≢true a)
doubled (fin false zero e) t a b = absurd (not-above (down e) (up e) a)
doubled (fin false (suc m) e) t a b =
    let N = suc m * up e in
    let D = down e in
    let h : N < 4503599627370496 * D = subst (λ (x : ℕ). x < 4503599627370496 * D) (mul-one N) (ltb→lt (N * 1) (4503599627370496 * D) (so b)) in
    let some : 0 < D * 1 = mul-pos (down_pos e) (lit< tt) in
    let cut : N * 2 / (D * 1) < 9007199254740992 = (div-lt_iff_lt-mul some).1 (twofold N D h) in
    let below : N * 2 / (D * 1) < 18446744073709551616 = more (N * 2 / (D * 1)) cut in
    let z = twice (suc m) e in
    let v = twice-value m e t h in
    let is : to_unsigned 64 z ≡ N * 2 / (D * 1) = cast_is (N * 2) (D * 1) some below z v in
    record {
      above = cast-above (N * 2) (D * 1) some below z v;
      below = cast-below (N * 2) (D * 1) some below z v;
      small = subst (λ (x : ℕ). x < 9007199254740992) (sym is) cut;
      half =
          ap (λ (x : ℕ). (x + 1) / 2) (is ∙ ap (λ (x : ℕ). N * 2 / x) (mul-one D))
          ∙ halves N D (down_pos e)
          ∙ ap (λ (x : ℕ). (x + D) / (2 * D)) (sym (mul_assoc 2 (suc m) (up e)));
    }
  where
    twofold : (N D : ℕ) → N < 4503599627370496 * D → N * 2 < 9007199254740992 * (D * 1)
    twofold N D h = omega arith

    more : (a : ℕ) → a < 9007199254740992 → a < 18446744073709551616
    more a h = omega arith
