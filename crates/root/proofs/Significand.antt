-- `root_whole n` is M / P exactly, for M = `significand n` and P = `unit n`, a power of two (`value`), M has 53 digits or is 2 ^ 53 (`many`, `few`), and the root of n lies strictly
-- within half a unit of it: (2 M - 1)² < 4 n P² < (2 M + 1)² (`over`, `under`). For n from 1 to 2 ^ 64.
use Rattle.std.proofs.Common.{◌≡◌, ℕ, suc, ◌+◌, ◌-◌, ◌*◌, ◌/◌, ◌^◌, ◌<◌, ◌≤◌, false, ◌⊎◌, sym, refl, ap, ◌∙◌, subst, inl, inr, le_trans, le_of_eq, lt_of_lt_of_le, lt_of_le_of_lt, mul-le-mul_right, mul_assoc, mul_comm, eq-or-lt_of_le, mul-lt-mul_of_pos_right, mul-pos, one-mul, pow-suc, mul_left_comm, arith, lit<, pow_pos, pow_mono, pow-add, shl_lt}
use native.Mathlib.Nat.{mul-mul-mul_comm}
use borrow.Author.Count.{falls_down}
use lib.Pow.{pow-lt}
use lib.Ieee.{binary64, size, round}
use lib.Ieee.Digits.{size-lt, size-le, size_reaches}
use lib.Ieee.Exact.{HasValue, round_exact}
use Rattle.root.specs.Root.{integer_root, shift, significand, root_whole}
use Rattle.root.specs.Inner.Isqrt.{IsRoot}
use Rattle.root.proofs.Isqrt.{sq-suc, sq-two, root-le, isqrt-is, sq-le, sq-lt-of, four-pow, pow-split, exponent_lt}

-- P: the power of two below the point
abbrev pub unit : ℕ → ℕ
unit n = 2 ^ (shift n - 1)

-- ---- how many digits the root has
module _ (n : ℕ) (first : 1 ≤ n) (last : n ≤ 18446744073709551616) where
  z-pos : 0 < size (integer_root n)
  z-pos = exponent_lt 0 (size (integer_root n)) (integer_root n) (root-le n 1 (integer_root n) first (isqrt-is n).high) (size-lt (integer_root n))

  z-le : size (integer_root n) ≤ 33
  z-le = size-le (integer_root n) 33 (lt_of_le_of_lt (root-le n (integer_root n) 4294967296 (isqrt-is n).low (lt_of_le_of_lt last (lit< tt))) (lit< tt))

  pub shift_is : shift n + size (integer_root n) ≡ 54
  unfolding shift
  shift_is = let a = z-le in omega arith

  pub shift-ge : 21 ≤ shift n
  shift-ge = let a = z-le in let b = shift_is in omega arith

  -- the root at 54 digits
  q : ℕ
  q = integer_root (n * 4 ^ shift n)

  q-root : IsRoot (n * 4 ^ shift n) q
  unfolding q
  q-root = isqrt-is (n * 4 ^ shift n)

  scaled : (p : ℕ) → p * 2 ^ shift n * (p * 2 ^ shift n) ≡ p * p * 4 ^ shift n
  scaled p = mul-mul-mul_comm p (2 ^ shift n) p (2 ^ shift n) ∙ ap (λ (x : ℕ). p * p * x) (four-pow (shift n))

  q-ge : 9007199254740992 ≤ q
  q-ge =
      let p = integer_root n in
      let j = shift n in
      let z = size p in
      let lead : 2 ^ (z - 1) ≤ p = size_reaches p (z - 1) (falls_down z z-pos) in
      let e : z - 1 + j ≡ 53 = total z j z-pos shift_is in
      le_trans (le_of_eq (ap (λ (x : ℕ). 2 ^ x) (sym e) ∙ pow-add 2 (z - 1) j))
      (le_trans (mul-le-mul_right (2 ^ j) lead)
      (root-le (n * 4 ^ j) (p * 2 ^ j) q (le_trans (le_of_eq (scaled p)) (mul-le-mul_right (4 ^ j) (isqrt-is n).low)) q-root.high))
    where
      total : (z j : ℕ) → 0 < z → j + z ≡ 54 → z - 1 + j ≡ 53
      total z j h e = omega arith

  q-lt : q < 18014398509481984
  q-lt =
      let p = integer_root n in
      let j = shift n in
      let z = size p in
      let e : 2 ^ z * 2 ^ j ≡ 18014398509481984 = sym (pow-add 2 z j) ∙ ap (λ (x : ℕ). 2 ^ x) (swap z j shift_is) in
      sq-lt-of q 18014398509481984
      (lt_of_le_of_lt q-root.low
      (subst (λ (x : ℕ). n * 4 ^ j < x * x) e
      (subst (λ (x : ℕ). n * 4 ^ j < x) (sym (scaled (2 ^ z)))
      (mul-lt-mul_of_pos_right (lt_of_lt_of_le (isqrt-is n).high (sq-le (size-lt p))) (four-pos j)))))
    where
      swap : (z j : ℕ) → j + z ≡ 54 → z + j ≡ 54
      swap z j e = omega arith

      four-pos : (j : ℕ) → 0 < 4 ^ j
      four-pos j = subst (λ (x : ℕ). 0 < x) (four-pow j) (mul-pos (pow_pos j) (pow_pos j))

  signif-is : significand n ≡ (q + 1) / 2
  unfolding significand q
  signif-is = refl

  -- ---- M has 53 digits, or is 2 ^ 53
  pub many : 4503599627370496 ≤ significand n
  many = let a = q-ge in let b = signif-is in omega arith

  pub few : significand n ≤ 9007199254740992
  few = let a = q-lt in let b = signif-is in omega arith

  -- ---- 4 n P² is n moved up
  unit-twice : 2 ^ shift n ≡ 2 * unit n
  unit-twice = ap (λ (x : ℕ). 2 ^ x) (up_one (shift n) shift-ge) ∙ pow-suc 2 (shift n - 1) ∙ mul_comm (unit n) 2
    where
      up_one : (j : ℕ) → 21 ≤ j → j ≡ suc (j - 1)
      up_one j h = omega arith

  moved : n * 4 ^ shift n ≡ 4 * (n * (unit n * unit n))
  moved = ap (λ (x : ℕ). n * x) (sym (four-pow (shift n)) ∙ ap (λ (x : ℕ). x * x) unit-twice ∙ sq-two (unit n)) ∙ mul_left_comm n 4 (unit n * unit n)

  -- ---- the root lies strictly within half a unit of M
  pub over : (2 * significand n - 1) * (2 * significand n - 1) < 4 * (n * (unit n * unit n))
  over =
      let a = q-ge in
      let b = signif-is in
      let c : 2 * significand n - 1 ≤ q = omega arith in
      let d : (2 * significand n - 1) * (2 * significand n - 1) ≤ 4 * (n * (unit n * unit n)) = le_trans (sq-le c) (le_trans q-root.low (le_of_eq moved)) in
      let e : 2 * significand n - 1 ≡ suc (2 * (significand n - 1)) = twice (significand n) many in
      strict (significand n - 1) (n * (unit n * unit n)) (ap (λ (x : ℕ). x * x) e) d
    where
      twice : (M : ℕ) → 4503599627370496 ≤ M → 2 * M - 1 ≡ suc (2 * (M - 1))
      twice M h = omega arith

      strict : {s : ℕ} (t N : ℕ) → s ≡ suc (2 * t) * suc (2 * t) → s ≤ 4 * N → s < 4 * N
      strict t N e h = let a = sq-suc (2 * t) in let b = sq-two t in omega arith

  pub under : 4 * (n * (unit n * unit n)) < suc (2 * significand n) * suc (2 * significand n)
  under =
      let b = signif-is in
      let c : suc q ≤ suc (2 * significand n) = omega arith in
      lt_of_lt_of_le (subst (λ (x : ℕ). x < suc q * suc q) moved q-root.high) (sq-le c)

  -- at the least M the root is no less than it
  pub least : significand n ≡ 4503599627370496 → 2 * significand n * (2 * significand n) ≤ 4 * (n * (unit n * unit n))
  least e =
      let a = q-ge in
      let b = signif-is in
      let c : 2 * significand n ≤ q = omega arith in
      le_trans (sq-le c) (le_trans q-root.low (le_of_eq moved))

  -- ---- `root_whole n` is M / P exactly
  pub value : HasValue (root_whole n) false (significand n) (unit n)
  unfolding root_whole
  value = exact (significand n) (shift n - 1) (small (shift n) shift_le) (eq-or-lt_of_le few)
    where
      shift_le : shift n ≤ 54
      shift_le = let a = shift_is in omega arith

      small : (j : ℕ) → j ≤ 54 → j - 1 ≤ 1074
      small j h = omega arith

      room : (i : ℕ) → 53 + (1074 - i) ≤ 2098
      room i = omega arith

      exact : (M i : ℕ) → i ≤ 1074 → (M ≡ 9007199254740992) ⊎ (M < 9007199254740992) → HasValue (round binary64 false M (2 ^ i)) false M (2 ^ i)
      exact M i h (inr l) =
          round_exact binary64 false M (2 ^ i) M (1074 - i) (pow_pos i) l (lt_of_lt_of_le (shl_lt 53 (1074 - i) l) (pow_mono (room i)))
          (ap (λ (x : ℕ). M * x) (pow-split 1074 i h) ∙ sym (mul_assoc M (2 ^ (1074 - i)) (2 ^ i)))
      exact M i h (inl e) =
          subst (λ (x : ℕ). HasValue (round binary64 false x (2 ^ i)) false x (2 ^ i)) (sym e)
          (round_exact binary64 false 9007199254740992 (2 ^ i) 1 (53 + (1074 - i)) (pow_pos i) (lit< tt)
          (subst (λ (x : ℕ). x < 2 ^ 2098) (sym (one-mul (2 ^ (53 + (1074 - i))))) (pow-lt (room' i)))
          (ap (λ (x : ℕ). 9007199254740992 * x) (pow-split 1074 i h) ∙ sym (mul_assoc 9007199254740992 (2 ^ (1074 - i)) (2 ^ i)) ∙ ap (λ (x : ℕ). x * 2 ^ i) (sym (one-mul (2 ^ (53 + (1074 - i))) ∙ pow-add 2 53 (1074 - i)))))
        where
          room' : (i : ℕ) → 53 + (1074 - i) < 2098
          room' i = omega arith
