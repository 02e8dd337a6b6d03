-- The pattern of a power of two is its exponent's field alone, which is 1023 for 1.
use Rattle.std.proofs.Common.{◌≡◌, ℕ, suc, ◌+◌, ◌*◌, ◌/◌, ◌%◌, ◌<◌, false, leb, pos, ap, ◌∙◌, arith, ne_eqb, le-leb}
use borrow.Author.Tests.{lt-leb}
use lib.Ieee.{fin, binary64, minus, of_fields, of_bits, nan_bits, is_nan}
use lib.Ieee.Bits.{nan_bits_is}

-- 2 ^ 52 has no odd digit below its own, so what is left of it is 1 and its exponent is the field's
at_field : (x : ℕ) → suc x < 2047 → of_fields binary64 false (suc x) 0 ≡ fin false 1 (minus (x + 52) 1074)
unfolding of_fields
at_field x h = rw (ne_eqb (suc x) 2047 not_at)
  where
    not_at : suc x ≡ 2047 → ⊥
    not_at e = omega arith

above : (r : ℕ) → minus (r + 1074) 1074 ≡ pos r
above r = rw (le-leb 1074 (r + 1074) (omega arith)) (ap pos (omega arith))

module _ (r : ℕ) (small : r < 256) where
  pub power-value : of_bits binary64 ((1023 + r) * 0x0010_0000_0000_0000 % 0x1_0000_0000_0000_0000) ≡ fin false 1 (pos r)
  unfolding of_bits
  power-value =
      let b = (1023 + r) * 0x0010_0000_0000_0000 % 0x1_0000_0000_0000_0000 in
      let sign : leb 0x8000_0000_0000_0000 b ≡ false = lt-leb 0x8000_0000_0000_0000 b (omega arith) in
      let field : b % 0x8000_0000_0000_0000 / 0x0010_0000_0000_0000 ≡ suc (1022 + r) = omega arith in
      let digits : b % 0x0010_0000_0000_0000 ≡ 0 = omega arith in
      let exponent : 1022 + r + 52 ≡ r + 1074 = omega arith in
      rw (sign, field, digits) (at_field (1022 + r) (omega arith) ∙ ap (λ (k : ℕ). fin false 1 (minus k 1074)) exponent ∙ ap (fin false 1) (above r))

  pub power-number : nan_bits binary64 ((1023 + r) * 0x0010_0000_0000_0000 % 0x1_0000_0000_0000_0000) ≡ false
  unfolding is_nan
  power-number = nan_bits_is binary64 _ ∙ ap is_nan power-value
