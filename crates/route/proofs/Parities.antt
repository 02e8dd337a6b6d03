-- The parity of a coordinate is its lowest bit, whatever its sign.
use mathlib.Core.Path.{◌≡◌, refl, ap, ap₂, ◌∙◌}
use mathlib.Core.Bool.{Bool, true, false, beq}
use Prim.Native.Nat.{ℕ, zero, suc, ◌-◌, ◌%◌, ◌<◌}
use native.Mathlib.Nat.{mod-lt}
use native.Mathlib.Omega.{arith}
use borrow.Author.Tests.{ltb-true, ltb-false}
use lib.Dec.{eqb, ltb}
use mir.Syntax.{w32}
use mir.Val.{to_z}
use mir.Facts.{to_z_pos, to_z-neg}
use Rattle.lattice.specs.Lattice.{is_odd}

lowest-bit : (n : ℕ) → n < 4294967296 → is_odd (to_z w32 n) ≡ eqb (n % 2) 1
lowest-bit n h = by_sign (ltb n 2147483648) refl
  where
    by_sign : (t : Bool) → ltb n 2147483648 ≡ t → is_odd (to_z w32 n) ≡ eqb (n % 2) 1
    by_sign true e = ap is_odd (to_z_pos w32 (ltb-true n 2147483648 e))
    by_sign false e =
        let high = ltb-false n 2147483648 e in
        let k = 4294967295 - n in
        let same : n ≡ 4294967296 - suc k = omega arith in
        let bit : suc k % 2 ≡ n % 2 = omega arith in
        ap (λ (m : ℕ). is_odd (to_z w32 m)) same ∙ ap is_odd (to_z-neg w32 k (omega arith)) ∙ ap (λ (b : ℕ). eqb b 1) bit

bits-agree : (p q : ℕ) → p < 2 → q < 2 → beq (eqb p 1) (eqb q 1) ≡ eqb p q
bits-agree zero zero h g = refl
bits-agree zero (suc zero) h g = refl
bits-agree (suc zero) zero h g = refl
bits-agree (suc zero) (suc zero) h g = refl
bits-agree zero (suc (suc q)) h g = absurd (omega arith)
bits-agree (suc zero) (suc (suc q)) h g = absurd (omega arith)
bits-agree (suc (suc p)) q h g = absurd (omega arith)

-- two coordinates have one parity where their lowest bits are the same
pub parities : (n m : ℕ) → n < 4294967296 → m < 4294967296 → beq (is_odd (to_z w32 n)) (is_odd (to_z w32 m)) ≡ eqb (n % 2) (m % 2)
parities n m h g = ap₂ beq (lowest-bit n h) (lowest-bit m g) ∙ bits-agree (n % 2) (m % 2) (mod-lt n (omega arith)) (mod-lt m (omega arith))
