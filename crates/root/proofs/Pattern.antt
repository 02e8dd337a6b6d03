-- The pattern of q * 2 ^ j smallest numbers, q of 53 digits, is j * 2 ^ 52 + q, since the leading digit of q adds one to the exponent's field. So `joined` is m / 2 ^ (21 + s).
use Rattle.std.proofs.Common.{◌≡◌, ℕ, ◌+◌, ◌-◌, ◌*◌, ◌/◌, ◌%◌, ◌^◌, ◌<◌, ◌≤◌, true, false, ◌⊎◌, sym, refl, ap, ◌∙◌, inl, inr, true≢false, le_trans, le_of_eq, lt_of_lt_of_le, mul-le-mul_right, mul_assoc, eq-or-lt_of_le, mul-pos, zero-add, mul-div_cancel, arith, lit<, lit≤, pow_pos, pow_mono, pow-add, shl_lt, le-ltb}
use lib.Ieee.{Float, fin, binary64, up, down, size, round, of_bits, to_bits, nan_bits, inf, nan}
use lib.Ieee.Fits.{down_pos, round-fits}
use lib.Ieee.Exact.{HasValue, round_exact}
use lib.Ieee.Digits.{size-lt, size-le}
use lib.Ieee.Scale.{round_same}
use lib.Ieee.Bits.{of_bits-to_bits, nan_bits_above}
use Rattle.root.proofs.Isqrt.{exponent_lt}

module _ (q j : ℕ) (least : 4503599627370496 ≤ q) (most : q < 9007199254740992) where
  -- how many digits are below the 53 that are kept
  below : size (q * 2 ^ j) - 53 ≡ j
  below =
      counted (size (q * 2 ^ j))
      (exponent_lt (52 + j) (size (q * 2 ^ j)) (q * 2 ^ j) (le_trans (le_of_eq (pow-add 2 52 j)) (mul-le-mul_right (2 ^ j) least)) (size-lt (q * 2 ^ j)))
      (size-le (q * 2 ^ j) (53 + j) (shl_lt 53 j most))
    where
      counted : (z : ℕ) → 52 + j < z → z ≤ 53 + j → z - 53 ≡ j
      counted z a b = omega arith

  pattern : (n : ℕ) → n ≡ q * 2 ^ j → (size n - 53) * 4503599627370496 + n / 2 ^ (size n - 53) ≡ j * 4503599627370496 + q
  pattern n e =
      ap (λ (x : ℕ). (size x - 53) * 4503599627370496 + x / 2 ^ (size x - 53)) e
      ∙ ap (λ (k : ℕ). k * 4503599627370496 + q * 2 ^ j / 2 ^ k) below
      ∙ ap (λ (x : ℕ). j * 4503599627370496 + x) (mul-div_cancel q (pow_pos j))

  bits_of : (x : Float) → HasValue x false (q * 2 ^ j) (2 ^ 1074) → to_bits binary64 x ≡ j * 4503599627370496 + q
  unfolding to_bits
  bits_of nan v = elim v [ ]
  bits_of (inf _) v = elim v [ ]
  bits_of (fin true m e) v = absurd (true≢false v.0)
  bits_of (fin false m e) v =
      let n = m * up e * 2 ^ 1074 / down e in
      ap (λ (x : ℕ). x + n / 2 ^ (size n - 53)) (zero-add ((size n - 53) * 4503599627370496))
      ∙ pattern n (ap (λ (x : ℕ). x / down e) v.1 ∙ mul-div_cancel (q * 2 ^ j) (down_pos e))

  -- any fraction of that size is what the pattern stands for
  from_bits : (num den : ℕ) → 0 < den → j ≤ 1074 → num * 2 ^ 1074 ≡ q * 2 ^ j * den → of_bits binary64 (j * 4503599627370496 + q) ≡ round binary64 false num den
  from_bits num den p small e =
      let x = round binary64 false (q * 2 ^ j) (2 ^ 1074) in
      let fine : q * 2 ^ j < 2 ^ 2098 = lt_of_lt_of_le (shl_lt 53 j most) (pow_mono (room small)) in
      ap (λ (b : ℕ). of_bits binary64 b) (sym (bits_of x (round_exact binary64 false (q * 2 ^ j) (2 ^ 1074) q j (pow_pos 1074) most fine refl)))
      ∙ of_bits-to_bits binary64 x (round-fits binary64 false (q * 2 ^ j) (2 ^ 1074))
      ∙ sym (round_same binary64 false num den (q * 2 ^ j) (2 ^ 1074) p (pow_pos 1074) e)
    where
      room : j ≤ 1074 → 53 + j ≤ 2098
      room h = omega arith

-- ---- what `joined` makes
module _ (m s : ℕ) (least : 4503599627370496 ≤ m) (most : m ≤ 9007199254740992) (few : s ≤ 31) where
  abbrev den : ℕ
  den = 2097152 * 2 ^ s

  den_pos : 0 < den
  den_pos = mul-pos (lit< tt) (pow_pos s)

  powers : (j k : ℕ) → j + (21 + s) ≡ k → 2 ^ j * den ≡ 2 ^ k
  powers j k e = ap (λ (x : ℕ). 2 ^ j * x) (sym (pow-add 2 21 s)) ∙ sym (pow-add 2 j (21 + s)) ∙ ap (λ (x : ℕ). 2 ^ x) e

  moved : (q j k : ℕ) → j + (21 + s) ≡ k → q * 2 ^ k ≡ q * 2 ^ j * den
  moved q j k e = sym (mul_assoc q (2 ^ j) den ∙ ap (λ (x : ℕ). q * x) (powers j k e))

  -- at m = 2 ^ 53 the digits are those of 2 ^ 52, and the field is one more
  pub joined_is : of_bits binary64 ((1053 - s) * 4503599627370496 + m) ≡ round binary64 false m den
  joined_is = go (eq-or-lt_of_le most)
    where
      go : (m ≡ 9007199254740992) ⊎ (m < 9007199254740992) → of_bits binary64 ((1053 - s) * 4503599627370496 + m) ≡ round binary64 false m den
      go (inr l) = from_bits m (1053 - s) least l m den den_pos (omega arith) (moved m (1053 - s) 1074 (omega arith))
      go (inl e) =
          let carried : (1053 - s) * 4503599627370496 + m ≡ (1054 - s) * 4503599627370496 + 4503599627370496 = omega arith in
          ap (λ (b : ℕ). of_bits binary64 b) carried
          ∙ from_bits 4503599627370496 (1054 - s) (lit≤ tt) (lit< tt) 9007199254740992 den den_pos (omega arith) (moved 4503599627370496 (1054 - s) 1075 (omega arith))
          ∙ ap (λ (x : ℕ). round binary64 false x den) (sym e)

  pub joined_number : nan_bits binary64 ((1053 - s) * 4503599627370496 + m) ≡ false
  joined_number = nan_bits_above binary64 ((1053 - s) * 4503599627370496 + m) ∙ le-ltb 9218868437227405312 (((1053 - s) * 4503599627370496 + m) % 9223372036854775808) (omega arith)
