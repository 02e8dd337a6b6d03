-- The answer of `whole_root`, from the root at 54 digits.
use Rattle.std.proofs.Common.{◌≡◌, ℕ, suc, ◌+◌, ◌*◌, ◌/◌, ◌%◌, ◌^◌, ◌<◌, ◌≤◌, false, sym, subst, mod-eq_of_lt, arith}
use lib.Count.{count_leading_zeros, leading_top}
use lib.Ieee.{binary64, round}
use Rattle.root.specs.Root.{root_whole}
use Rattle.root.specs.Inner.Isqrt.{IsRoot}
use Rattle.root.proofs.Scaled.{root_is}
use Rattle.root.proofs.Steps.{moved, scaled-of, moved-square, power-of, q-least, q-most}

module _ (n : ℕ) (first : 1 ≤ n) (last : n < 18446744073709551616) where
  pub s-le : count_leading_zeros 64 n / 2 ≤ 31
  s-le = go (leading_top 64 n first last)
    where
      go : (j : ℕ) × (count_leading_zeros 64 n + suc j ≡ 64) × (2 ^ j ≤ n) × (n < 2 ^ suc j) → count_leading_zeros 64 n / 2 ≤ 31
      go (j, e, l, u) = omega arith

  m : ℕ
  m = n * 2 ^ (count_leading_zeros 64 n / 2 * 2)

  m-is : (n * 2 ^ (count_leading_zeros 64 n / 2 * 2)) % 18446744073709551616 ≡ m
  unfolding m
  m-is = mod-eq_of_lt (moved n first last).1

  pub m-least : 4611686018427387904 ≤ (n * 2 ^ (count_leading_zeros 64 n / 2 * 2)) % 18446744073709551616
  unfolding m
  m-least = subst (λ (x : ℕ). 4611686018427387904 ≤ x) (sym m-is) (moved n first last).0

  module _ (q : ℕ) (r : IsRoot ((n * 2 ^ (count_leading_zeros 64 n / 2 * 2)) % 18446744073709551616 * 17592186044416) q) where
    r-m : IsRoot (m * 17592186044416) q
    r-m = subst (λ (x : ℕ). IsRoot (x * 17592186044416) q) m-is r

    pub least : 9007199254740992 ≤ q
    unfolding m
    least = q-least m q (moved n first last).0 r-m

    pub most : q < 18014398509481984
    unfolding m
    most = q-most m q (moved n first last).1 r-m

    pub answer : round binary64 false ((q + 1) / 2) (2097152 * 2 ^ (count_leading_zeros 64 n / 2)) ≡ root_whole n
    unfolding m
    answer =
        let s = count_leading_zeros 64 n / 2 in
        let d = 4194304 * 2 ^ s in
        let t = scaled-of n q d (22 + s) (power-of s) first (subst (λ (x : ℕ). IsRoot x q) (moved-square n s) r-m) most in
        let h : d / 2 ≡ 2097152 * 2 ^ s = omega arith in
        subst (λ (x : ℕ). ◌≡◌ (round binary64 false ((q + 1) / 2) x) (root_whole n)) h (root_is last t least)
