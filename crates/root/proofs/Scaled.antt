-- The root of n moved up by 2 j digits, at 54 digits, is what `root_whole n` is made of.
use Rattle.std.proofs.Common.{◌≡◌, ℕ, zero, suc, ◌+◌, ◌-◌, ◌*◌, ◌/◌, ◌^◌, ◌<◌, ◌≤◌, false, sym, refl, ap, ◌∙◌, le_trans, le_of_eq, lt_of_lt_of_le, mul-le-mul, pow-suc, arith, lit≤, pow-add}
use borrow.Author.Count.{falls_down}
use lib.Ieee.{size, binary64, round}
use lib.Ieee.Digits.{size-lt, size-le, size_reaches}
use Rattle.root.specs.Root.{integer_root, shift, significand, root_whole}
use Rattle.root.specs.Inner.Isqrt.{IsRoot}
use Rattle.root.proofs.Isqrt.{root-le, isqrt-is, isqrt-unique, four-pow, exponent_lt}

-- d is 2 ^ j, q is the root of n * d * d, of at most 54 digits, and the root of n is q's leading digits
pub record Scaled (n q d : ℕ) : Type 0 where
  pub j : ℕ
  pub power : d ≡ 2 ^ j
  pub root : IsRoot (n * (d * d)) q
  pub above : integer_root n * d ≤ q
  pub below : q < suc (integer_root n) * d
  pub positive : 1 ≤ integer_root n
  pub top : q < 18014398509481984

module _ {n q d : ℕ} (bound : n < 18446744073709551616) (t : Scaled n q d) (large : 9007199254740992 ≤ q) where
  abbrev p : ℕ
  p = integer_root n

  z-pos : 0 < size p
  z-pos = exponent_lt 0 (size p) p t.positive (size-lt p)

  first : 53 < size p + t.j
  first =
      exponent_lt 53 (size p + t.j) q large
      (lt_of_lt_of_le t.below (le_trans (mul-le-mul (size-lt p) (le_of_eq t.power)) (le_of_eq (sym (pow-add 2 (size p) t.j)))))

  second : size p - 1 + t.j < 54
  second =
      exponent_lt (size p - 1 + t.j) 54 q
      (le_trans (le_of_eq (pow-add 2 (size p - 1) t.j))
      (le_trans (mul-le-mul (size_reaches p (size p - 1) (falls_down (size p) z-pos)) (le_of_eq (sym t.power))) t.above))
      t.top

  p-small : size p ≤ 32
  p-small = size-le p 32 (small (root-le n p 4294967295 (isqrt-is n).low (lt_of_lt_of_le bound (lit≤ tt))))
    where
      small : p ≤ 4294967295 → p < 4294967296
      small h = omega arith

  shift_is : shift n ≡ t.j
  unfolding shift
  shift_is = last z-pos first second
    where
      last : 0 < size p → 53 < size p + t.j → size p - 1 + t.j < 54 → 54 - size p ≡ t.j
      last a b c = omega arith

  signif-is : significand n ≡ (q + 1) / 2
  unfolding significand
  signif-is =
      ap (λ (x : ℕ). (integer_root (n * 4 ^ x) + 1) / 2) shift_is
      ∙ ap (λ (x : ℕ). (integer_root (n * x) + 1) / 2) (sym (four-pow t.j) ∙ ap (λ (x : ℕ). x * x) (sym t.power))
      ∙ ap (λ (x : ℕ). (x + 1) / 2) (isqrt-unique (n * (d * d)) q t.root)

  j_pos : 0 < t.j
  j_pos = let a = first in let b = p-small in omega arith

  half : (j : ℕ) → 0 < j → d ≡ 2 ^ j → d / 2 ≡ 2 ^ (j - 1)
  half zero h e = absurd (none h)
    where
      none : 0 < 0 → ⊥
      none h = omega arith
  half (suc i) h e = let f : d ≡ 2 ^ i * 2 = e ∙ pow-suc 2 i in let g : suc i - 1 ≡ i = omega arith in rw g (omega arith)

  half_is : d / 2 ≡ 2 ^ (shift n - 1)
  half_is = half t.j j_pos t.power ∙ ap (λ (x : ℕ). 2 ^ (x - 1)) (sym shift_is)

  pub root_is : round binary64 false ((q + 1) / 2) (d / 2) ≡ root_whole n
  unfolding root_whole
  root_is = rw (signif-is, half_is) refl
