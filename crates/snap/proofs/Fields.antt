-- The candidates are numbers of 32 bits, which are read back from their bits as they were.
use mathlib.Core.Path.{◌≡◌, ap, ◌∙◌}
use Prim.Native.Nat.{ℕ, ◌≤◌}
use native.Mathlib.Omega.{arith}
use lib.Dec.{lit≤}
use lib.IntN.{ℤ, pos, negsuc}
use lib.Ieee.{Float}
use mathlib.Core.Bool.{true}
use mir.Syntax.{w32}
use mir.Val.{SFits, of_z, to_z}
use mir.Facts.{to_z-of_z}
use Rattle.snap.specs.Snap.{in_range, even_near, odd_near}
use Rattle.snap.proofs.Ranges.{Range, even-range, odd-range}

pub range-fits : (low high : ℕ) → low ≤ 2147483648 → high ≤ 2147483647 → (n : ℤ) → Range low high n → SFits w32 n
range-fits low high l k (pos n) h = record { sfits = omega arith }
range-fits low high l k (negsuc n) h = record { sfits = omega arith }

pub kept : {r n : ℤ} → r ≡ n → SFits w32 n → to_z w32 (of_z w32 r) ≡ n
kept e f = ap (λ (z : ℤ). to_z w32 (of_z w32 z)) e ∙ to_z-of_z f

pub even-fits : (v : Float) → in_range v ≡ true → SFits w32 (even_near v)
even-fits v h = range-fits 2147483646 2147483646 (lit≤ tt) (lit≤ tt) (even_near v) (even-range v h)

pub odd-fits : (v : Float) → in_range v ≡ true → SFits w32 (odd_near v)
odd-fits v h = range-fits 2147483647 2147483647 (lit≤ tt) (lit≤ tt) (odd_near v) (odd-range v h)
