-- The steps of `floor_root` and of `whole_root` as facts on numbers.
use Rattle.std.proofs.Common.{◌≡◌, ℕ, zero, suc, ◌+◌, ◌-◌, ◌*◌, ◌/◌, ◌^◌, ◌<◌, ◌≤◌, sym, ap, ◌∙◌, subst, le_trans, le_of_eq, lt_of_lt_of_le, lt_of_le_of_lt, mul-le-mul_right, mod-lt, mul_assoc, mul_comm, add-mul, mul-le-mul, mul-lt-mul_of_pos_right, mul-pos, div-add-mod', mul-add, div-mul-le_self, le_of_mul-le-mul_right, add-one, arith, lit≤, pow_pos, pow_mono, pow-add, shl_lt}
use native.Mathlib.Nat.{mul-mul-mul_comm}
use lib.Count.{count_leading_zeros, leading_top}
use Rattle.root.specs.Root.{integer_root}
use Rattle.root.specs.Inner.Isqrt.{IsRoot}
use Rattle.root.proofs.Isqrt.{sq-suc, root-le, isqrt-is, sq-mul, sq-lt-of}
use Rattle.root.proofs.Scaled.{Scaled}

-- ---- the guess mended
pub pos-of-sq : (n p : ℕ) → n < p * p → 1 ≤ p
pos-of-sq n zero h = omega arith
pos-of-sq n (suc p) h = omega arith

sq-next : (p : ℕ) → (p + 1) * (p + 1) ≡ p * p + 2 * p + 1
sq-next p = ap (λ (x : ℕ). x * x) (add-one p) ∙ sq-suc p

pub next : (n p : ℕ) → n < 18446744073709551616 → p * p ≤ n → p * 2 < n - p * p → (p + 1 ≤ 4294967295) × ((p + 1) * (p + 1) ≤ n)
next n p b l h =
    let e = sq-next p in
    let k : (p + 1) * (p + 1) ≤ n = omega arith in
    (root-le n (p + 1) 4294967295 k (lt_of_lt_of_le b (lit≤ tt)), k)

pub mended : (n p : ℕ) → p * p ≤ n → n - p * p ≤ p * 2 → IsRoot n p
mended n p l h = let e = sq-suc p in record { low = l; high = omega arith }

-- ---- n moved up
pub moved : (n : ℕ) → 1 ≤ n → n < 18446744073709551616 → (4611686018427387904 ≤ n * 2 ^ (count_leading_zeros 64 n / 2 * 2)) × (n * 2 ^ (count_leading_zeros 64 n / 2 * 2) < 18446744073709551616)
moved n h b = go (leading_top 64 n h b)
  where
    go : (j : ℕ) × (count_leading_zeros 64 n + suc j ≡ 64) × (2 ^ j ≤ n) × (n < 2 ^ suc j) → (4611686018427387904 ≤ n * 2 ^ (count_leading_zeros 64 n / 2 * 2)) × (n * 2 ^ (count_leading_zeros 64 n / 2 * 2) < 18446744073709551616)
    go (j, e, l, u) =
        let k = count_leading_zeros 64 n / 2 * 2 in
        let x : 62 ≤ j + k = omega arith in
        let y : suc j + k ≤ 64 = omega arith in
        (le_trans (pow_mono x) (le_trans (le_of_eq (pow-add 2 j k)) (mul-le-mul_right (2 ^ k) l)), lt_of_lt_of_le (shl_lt (suc j) k u) (pow_mono y))

-- ---- from 32 digits to 54
sum-square : (a t : ℕ) → (a + t) * (a + t) ≡ a * a + 2 * (a * t) + t * t
sum-square a t =
    let x = add-mul a t (a + t) in
    let y = mul-add a a t in
    let z = mul-add t a t in
    let w = mul_comm t a in
    omega arith

-- what the two products with p come to
cross-one : (p t : ℕ) → t * (p * 2) ≡ 2 * (p * t)
cross-one p t = sym (mul_assoc t p 2) ∙ mul_comm (t * p) 2 ∙ ap (λ (x : ℕ). 2 * x) (mul_comm t p)

cross-two : (p t : ℕ) → p * 4194304 * t ≡ 4194304 * (p * t)
cross-two p t = ap (λ (x : ℕ). x * t) (mul_comm p 4194304) ∙ mul_assoc 4194304 p t

-- t is the quotient of what is left of m, moved up, by 2 p, and u the remainder
pub record Fine (m p t u : ℕ) : Type 0 where
  pub root : IsRoot m p
  pub least : 2147483648 ≤ p
  pub most : p ≤ 4294967295
  pub sum : t * (p * 2) + u ≡ (m - p * p) * 4194304
  pub rest : u < p * 2
  pub small : t ≤ 4194304
  pub left : m - p * p ≤ p * 2

pub fine : (m p : ℕ) → 4611686018427387904 ≤ m → m < 18446744073709551616 → IsRoot m p → Fine m p ((m - p * p) * 4194304 / (p * 2)) ((m - p * p) * 4194304 - (m - p * p) * 4194304 / (p * 2) * (p * 2))
fine m p l h r =
    let a = (m - p * p) * 4194304 in
    let b = p * 2 in
    let low = root-le m 2147483648 p l r.high in
    let high = root-le m p 4294967295 r.low (lt_of_lt_of_le h (lit≤ tt)) in
    let pos : 0 < b = omega arith in
    let e = div-add-mod' a b in
    let f = mod-lt a pos in
    let sq = sq-suc p in
    let left : m - p * p ≤ p * 2 = omega (arith, r.high) in
    let bound : a ≤ 4194304 * b = omega arith in
    record {
      root = r;
      least = low;
      most = high;
      sum = omega arith;
      rest = omega arith;
      small = le_of_mul-le-mul_right (le_trans (div-mul-le_self a b) bound) pos;
      left = left;
    }

module _ {m p t u : ℕ} (f : Fine m p t u) where
  squares : (p * 4194304 + t) * (p * 4194304 + t) ≡ p * p * 17592186044416 + 8388608 * (p * t) + t * t
  squares = let e = sum-square (p * 4194304) t in let g = sq-mul p 4194304 in let h = cross-two p t in omega arith

  whole : m * 17592186044416 ≡ p * p * 17592186044416 + 8388608 * (p * t) + u * 4194304
  whole = let e = cross-one p t in omega (arith, f.sum, f.root.low)

  pub fine-even : t * t ≤ u * 4194304 → IsRoot (m * 17592186044416) (p * 4194304 + t)
  fine-even h = let a = squares in let b = whole in let e = sq-suc (p * 4194304 + t) in record { low = omega arith; high = omega (arith, f.rest) }

  pub fine-down : u * 4194304 < t * t → IsRoot (m * 17592186044416) (p * 4194304 + t - 1)
  fine-down h =
      let a = squares in
      let b = whole in
      let q = p * 4194304 + t in
      let e = sq-suc (q - 1) in
      let g : suc (q - 1) ≡ q = omega (arith, f.least) in
      let k : suc (q - 1) * suc (q - 1) ≡ q * q = ap (λ (x : ℕ). x * x) g in
      let l : t * t ≤ 17592186044416 = mul-le-mul f.small f.small in
      record { low = omega (arith, f.least); high = omega arith }

-- ---- the root at 54 digits is what the answer is made of
module _ (n q d : ℕ) (j : ℕ) (power : d ≡ 2 ^ j) (first : 1 ≤ n) (r : IsRoot (n * (d * d)) q) (top : q < 18014398509481984) where
  d-pos : 0 < d
  d-pos = subst (λ (x : ℕ). 0 < x) (sym power) (pow_pos j)

  pub scaled-of : Scaled n q d
  scaled-of =
      let p = integer_root n in
      let i = isqrt-is n in
      record {
        j = j;
        power = power;
        root = r;
        above = root-le (n * (d * d)) (p * d) q (le_trans (le_of_eq (sq-mul p d)) (mul-le-mul_right (d * d) i.low)) r.high;
        below = sq-lt-of q (suc p * d) (lt_of_le_of_lt r.low (lt_of_lt_of_le (mul-lt-mul_of_pos_right i.high (mul-pos d-pos d-pos)) (le_of_eq (sym (sq-mul (suc p) d)))));
        positive = root-le n 1 p first i.high;
        top = top;
      }

-- n moved up by 2 s digits and then by 44 more is n times the square of d = 2 ^ (s + 22)
pub moved-square : (n s : ℕ) → n * 2 ^ (s * 2) * 17592186044416 ≡ n * (4194304 * 2 ^ s * (4194304 * 2 ^ s))
moved-square n s =
    mul_assoc n (2 ^ (s * 2)) 17592186044416
    ∙ ap (λ (x : ℕ). n * x) (mul_comm (2 ^ (s * 2)) 17592186044416 ∙ ap (λ (x : ℕ). 17592186044416 * x) (ap (λ (x : ℕ). 2 ^ x) (twice s) ∙ pow-add 2 s s) ∙ sym (mul-mul-mul_comm 4194304 (2 ^ s) 4194304 (2 ^ s)))
  where
    twice : (s : ℕ) → s * 2 ≡ s + s
    twice s = omega arith

pub power-of : (s : ℕ) → 4194304 * 2 ^ s ≡ 2 ^ (22 + s)
power-of s = sym (pow-add 2 22 s)

pub q-least : (m q : ℕ) → 4611686018427387904 ≤ m → IsRoot (m * 17592186044416) q → 9007199254740992 ≤ q
q-least m q h r = root-le (m * 17592186044416) 9007199254740992 q (omega arith) r.high

pub q-most : (m q : ℕ) → m < 18446744073709551616 → IsRoot (m * 17592186044416) q → q < 18014398509481984
q-most m q h r = let a = root-le (m * 17592186044416) q 18014398509481983 r.low (omega arith) in omega arith
