-- Laws of signed numbers of 32 bits: the remainder by 2, halves and the distance from zero.
use mathlib.Core.Path.{◌≡◌, refl, ap}
use mathlib.Core.Bool.{true, false, not, true≢false}
use Prim.Native.Nat.{ℕ, zero, suc, ◌/◌, ◌%◌, ◌≤◌, ◌<◌}
use native.Mathlib.Nat.{div-le_self, mod-lt}
use native.Mathlib.Omega.{arith}
use lib.Dec.{eqb}
use lib.IntN.{ℤ, pos, negsuc, neg_ℤ, nat_abs, ◌-ℤ◌}
use lib.Signed.{mag, lt_z, quot_z, rem_z, mag_shr}
use mir.Syntax.{w32}
use mir.Val.{SFits, of_z}
use borrow.Author.Tests.{le-leb, ltb-true}
use Rattle.lattice.specs.Lattice.{is_odd, within, half}
use Rattle.lattice.proofs.SignsLaws.{odd-digit}

-- ---- the remainder by 2

mag-neg : (r a : ℕ) → r ≤ suc a → mag (neg_ℤ (pos r)) ≤ a
mag-neg zero a h = omega arith
mag-neg (suc r) a h = omega arith

pub mag-half : (z : ℤ) → mag (quot_z z (pos 2)) ≤ mag z
mag-half (pos a) = div-le_self a 2
mag-half (negsuc a) = mag-neg (suc a / 2) a (div-le_self (suc a) 2)

odd-down : (r : ℕ) → r < 2 → not (eqb (of_z w32 (neg_ℤ (pos r))) 0) ≡ eqb r 1
odd-down zero h = refl
odd-down (suc zero) h = refl
odd-down (suc (suc r)) h = absurd (omega arith)

-- the remainder is not 0 where the number is odd, whatever its sign
pub odd-rem : (z : ℤ) → not (eqb (of_z w32 (rem_z z (pos 2))) 0) ≡ is_odd z
odd-rem (pos a) = odd-digit (a % 2) (mod-lt a (omega arith))
odd-rem (negsuc a) = odd-down (suc a % 2) (mod-lt (suc a) (omega arith))

-- ---- halves

pub half-fits : (z : ℤ) → SFits w32 z → SFits w32 (half z)
half-fits z f = record { sfits = omega (arith, mag_shr z 2) }

-- a half leaves room for a step of two
pub half-near : (z : ℤ) → SFits w32 z → within (negsuc 2147483645) (pos 2147483645) (half z) ≡ true
half-near (pos a) f = le-leb (a / 2) 2147483645 (omega arith)
half-near (negsuc a) f = rw (le-leb (a / 2) 2147483645 (omega arith))

-- ---- the distance from zero

-- of a negative number and of any other
pub abs-below : (z : ℤ) → lt_z z (pos 0) ≡ true → pos 0 -ℤ z ≡ pos (nat_abs z)
abs-below (pos a) e = absurd (omega (arith, ltb-true a 0 e))
abs-below (negsuc a) e = ap pos (omega arith)

pub abs-above : (z : ℤ) → lt_z z (pos 0) ≡ false → z ≡ pos (nat_abs z)
abs-above (pos a) e = refl
abs-above (negsuc a) e = absurd (true≢false e)
