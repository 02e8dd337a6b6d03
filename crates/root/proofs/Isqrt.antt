-- The integer square root: `integer_root n` is the largest s with s * s ≤ n, and the only such.
use Rattle.std.proofs.Common.{◌≡◌, ℕ, zero, suc, ◌+◌, ◌-◌, ◌*◌, ◌/◌, ◌^◌, ◌<◌, ◌≤◌, Bool, true, false, cond, not, T, leb, sym, refl, ap, ◌∙◌, le_trans, lt_of_lt_of_le, le_of_suc-le-suc, mul_assoc, suc-mul, mul_comm, mul-le-mul, le_antisymm, pow-suc, lt_of_not-le, mul-suc, sub-add_cancel, not-le_of_lt, mul_left_comm, arith, lit≤, leb→le, pow_mono, pow-add}
use native.Mathlib.Nat.{mul-mul-mul_comm, pow-le-pow_left}
use lib.Dec.{nleb→lt}
use lib.Ieee.{size}
use lib.Ieee.Digits.{size-lt}
use Rattle.root.specs.Root.{root_digits, integer_root}
use Rattle.root.specs.Inner.Isqrt.{IsRoot}

pub sq-suc : (s : ℕ) → suc s * suc s ≡ s * s + 2 * s + 1
sq-suc s = let a : suc s * suc s ≡ suc s * s + suc s = mul-suc (suc s) s in let b : suc s * s ≡ s * s + s = suc-mul s s in omega arith

pub sq-two : (s : ℕ) → (2 * s) * (2 * s) ≡ 4 * (s * s)
sq-two s = mul_assoc 2 s (2 * s) ∙ ap (λ (x : ℕ). 2 * x) (mul_left_comm s 2 s) ∙ sym (mul_assoc 2 2 (s * s))

step : (n t : ℕ) → IsRoot (n / 4) t → (b : Bool) → (T b → suc (2 * t) * suc (2 * t) ≤ n) → (T (not b) → n < suc (2 * t) * suc (2 * t)) → IsRoot n (cond b (suc (2 * t)) (2 * t))
step n t r true g h =
    let a = sq-suc t in let b = sq-two t in let c = sq-suc (2 * t) in let d = sq-suc (suc (2 * t)) in
    record { low = g tt; high = omega (arith, r.high) }
step n t r false g h =
    let b = sq-two t in
    record { low = omega (arith, r.low); high = h tt }

digits-is : (k n : ℕ) → n < 4 ^ k → IsRoot n (root_digits k n)
unfolding root_digits
digits-is zero n h = record { low = omega arith; high = h }
digits-is (suc k) n h =
    let t = root_digits k (n / 4) in
    let p : 4 ^ suc k ≡ 4 ^ k * 4 = pow-suc 4 k in
    step n t (digits-is k (n / 4) (omega arith)) (leb (suc (2 * t) * suc (2 * t)) n) (leb→le (suc (2 * t) * suc (2 * t)) n) (nleb→lt (suc (2 * t) * suc (2 * t)) n)

pub isqrt-is : (n : ℕ) → IsRoot n (integer_root n)
unfolding integer_root
isqrt-is n = digits-is (size n) n (lt_of_lt_of_le (size-lt n) (pow-le-pow_left (lit≤ tt) (size n)))

pub root-le : (n p q : ℕ) → p * p ≤ n → n < suc q * suc q → p ≤ q
root-le n p q a b = le_of_suc-le-suc (lt_of_not-le (λ (g : suc q ≤ p). not-le_of_lt b (le_trans (mul-le-mul g g) a)))

pub root-unique : (n p q : ℕ) → IsRoot n p → IsRoot n q → p ≡ q
root-unique n p q a b = le_antisymm (root-le n p q a.low b.high) (root-le n q p b.low a.high)

pub isqrt-unique : (n q : ℕ) → IsRoot n q → integer_root n ≡ q
isqrt-unique n q h = root-unique n (integer_root n) q (isqrt-is n) h

-- ---- squares

pub sq-le : {a b : ℕ} → a ≤ b → a * a ≤ b * b
sq-le h = mul-le-mul h h

pub sq-mul : (a d : ℕ) → a * d * (a * d) ≡ a * a * (d * d)
sq-mul a d = mul-mul-mul_comm a d a d

pub sq-lt-of : (a b : ℕ) → a * a < b * b → a < b
sq-lt-of a b h = lt_of_not-le (λ (g : b ≤ a). not-le_of_lt h (sq-le g))

pub sq-lt : {a b : ℕ} → a < b → a * a < b * b
sq-lt {a} {b} h = let e = sq-suc a in let g = sq-le h in omega arith

pub four-pow : (j : ℕ) → 2 ^ j * 2 ^ j ≡ 4 ^ j
four-pow zero = refl
four-pow (suc j) =
    ap (λ (x : ℕ). x * x) (pow-suc 2 j ∙ mul_comm (2 ^ j) 2) ∙ sq-two (2 ^ j) ∙ mul_comm 4 (2 ^ j * 2 ^ j) ∙ ap (λ (x : ℕ). x * 4) (four-pow j) ∙ sym (pow-suc 4 j)

pub pow-split : (a b : ℕ) → b ≤ a → 2 ^ a ≡ 2 ^ (a - b) * 2 ^ b
pow-split a b h = ap (λ (x : ℕ). 2 ^ x) (sym (sub-add_cancel h)) ∙ pow-add 2 (a - b) b

pub exponent_lt : (a b q : ℕ) → 2 ^ a ≤ q → q < 2 ^ b → a < b
exponent_lt a b q h k = lt_of_not-le (λ (g : b ≤ a). not-le_of_lt k (le_trans (pow_mono g) h))
