-- The size of a root, for callers that go on calculating with it.
use Rattle.std.proofs.Common.{◌≡◌, ℕ, suc, ◌-◌, ◌*◌, ◌<◌, ◌≤◌, false, pos, sym, refl, le_trans, le_of_eq, mul-le-mul_right, one-mul, mul-one, arith, lit<, pow_pos}
use native.Mathlib.Nat.{mul-mul-mul_comm}
use lib.Ieee.{fin, binary64}
use lib.Ieee.Fits.{round-fits}
use lib.Ieee.Positive.{positive_of_value}
use lib.Ieee.Order.{le_of_values}
use Rattle.root.specs.Root.{root_whole, significand, shift}
use Rattle.root.proofs.Isqrt.{sq-two, sq-lt-of}
use Rattle.root.proofs.Significand.{unit, many, over, under, value}
use Rattle.root.specs.Terms.{Bounded}

-- The root of a whole number from 1 to 2 ^ 64 is such.
pub root-bounds : (n : ℕ) → 1 ≤ n → n ≤ 18446744073709551616 → Bounded (root_whole n)
unfolding root_whole
root-bounds n first last =
    let v = value n first last in
    let p = pow_pos (shift n - 1) in
    record {
      holds = round-fits binary64 false (significand n) (unit n);
      above = positive_of_value (root_whole n) (significand n) (unit n) v (many-pos (many n first last));
      least = le_of_values (fin false 1 (pos 0)) (root_whole n) 1 1 (significand n) (unit n) (lit< tt) p (refl, refl) v
          (le_trans (le_of_eq (one-mul (unit n))) (le_trans (at_least (unit n) (significand n) first (under n first last)) (le_of_eq (sym (mul-one (significand n))))));
      most = le_of_values (root_whole n) (fin false 1 (pos 32)) (significand n) (unit n) 4294967296 1 p (lit< tt) v (refl, refl)
          (le_trans (le_of_eq (mul-one (significand n))) (at_most (unit n) (significand n) last (over n first last)));
    }
  where
    many-pos : {M : ℕ} → 4503599627370496 ≤ M → 0 < M
    many-pos h = omega arith

    -- P ≤ M, from (2 P)² ≤ 4 n P² < (2 M + 1)²
    at_least : (P M : ℕ) → 1 ≤ n → 4 * (n * (P * P)) < suc (2 * M) * suc (2 * M) → P ≤ M
    at_least P M h u =
        let s = mul-le-mul_right (P * P) h in
        let o = one-mul (P * P) in
        let t = sq-two P in
        let l : 2 * P < suc (2 * M) = sq-lt-of (2 * P) (suc (2 * M)) (omega arith) in
        omega arith

    -- M ≤ 2 ^ 32 P, from (2 M - 1)² < 4 n P² ≤ (2 * 2 ^ 32 P)²
    at_most : (P M : ℕ) → n ≤ 18446744073709551616 → (2 * M - 1) * (2 * M - 1) < 4 * (n * (P * P)) → M ≤ 4294967296 * P
    at_most P M h u =
        let s = mul-le-mul_right (P * P) h in
        let t : 8589934592 * P * (8589934592 * P) ≡ 73786976294838206464 * (P * P) = mul-mul-mul_comm 8589934592 P 8589934592 P in
        let l : 2 * M - 1 < 8589934592 * P = sq-lt-of (2 * M - 1) (8589934592 * P) (omega arith) in
        omega arith
