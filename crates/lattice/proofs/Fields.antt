-- Numbers of 32 bits, alone and in a place: they are read back from their bits as they were, and their differences fit 64 bits.
use mathlib.Core.Path.{◌≡◌, ap, ◌∙◌}
use Prim.Native.Nat.{ℕ, zero, suc, ◌≤◌, ◌<◌, ◌^◌}
use native.Mathlib.Omega.{arith}
use lib.IntN.{ℤ, pos, negsuc, nat_abs, sub_ℕ, ◌-ℤ◌}
use mir.Syntax.{w32, w64}
use mir.Val.{SFits, of_z, to_z}
use mir.Facts.{to_z-of_z, sfits_widen}
use denote.Laws.{valss}
use denote.Struct.Struct.{AreAll}
use denote.Struct.Declared.{fields}
use denote.Struct.Laws.{spells}
use Rattle.refusal.specs.contracts.Coord.{the_type}
use Rattle.refusal.proofs.Coord.TheLaws.{the_laws}
use Rattle.refusal.specs.declared.Coord.{Coord}
use Rattle.lattice.specs.Lattice.{at, Fitting}
use Rattle.lattice.proofs.SignsLaws.{sub_cases}

-- ---- a place read field by field

-- what a read of a field tells of the whole place
abbrev pub TypeTold : Coord → Type 0
TypeTold c = AreAll (fields the_type) (the_type.to c) (valss (fields the_type) (spells the_type.parts the_laws) (the_type.to c))

pub fit : (c : Coord) → TypeTold c → Fitting c
fit c told = record { in-x = record { sfits = told.0.1 }; in-y = record { sfits = told.1.0.1 }; in-z = record { sfits = told.1.1.0.1 } }

-- as its fields' bits say it
abbrev pub kept : Coord → Coord
kept c = at (to_z w32 (of_z w32 c.x)) (to_z w32 (of_z w32 c.y)) (to_z w32 (of_z w32 c.z))

pub kept_same : {c : Coord} → Fitting c → kept c ≡ c
kept_same f = λ i. at (to_z-of_z f.in-x i) (to_z-of_z f.in-y i) (to_z-of_z f.in-z i)

pub read : (c : Coord) → TypeTold c → kept c ≡ c
read c told = kept_same (fit c told)

-- a result that was put into a field
pub put : {r v : ℤ} → SFits w32 r → r ≡ v → to_z w32 (of_z w32 r) ≡ v
put f e = to_z-of_z f ∙ e

-- ---- in 64 bits

pub wide_fits : {z : ℤ} → SFits w32 z → SFits w64 z
wide_fits f = sfits_widen tt f

pub widened : {z : ℤ} → SFits w32 z → to_z w64 (of_z w64 (to_z w32 (of_z w32 z))) ≡ z
widened f = ap (λ (y : ℤ). to_z w64 (of_z w64 y)) (to_z-of_z f) ∙ to_z-of_z (wide_fits f)

sub-short : (a b : ℕ) → a ≤ 2147483648 → b ≤ 2147483648 → nat_abs (sub_ℕ a b) < 2 ^ 32
sub-short a b h k = sub_cases a b (λ (z : ℤ). nat_abs z < 2 ^ 32) (λ l. omega arith) (λ l. omega arith)

-- how far two numbers are apart is below 2 ^ 32
pub apart_below : (a b : ℤ) → SFits w32 a → SFits w32 b → nat_abs (a -ℤ b) < 2 ^ 32
apart_below (pos a) (pos zero) f g = omega arith
apart_below (pos a) (pos (suc b)) f g = sub-short a (suc b) (omega arith) (omega arith)
apart_below (pos a) (negsuc b) f g = omega arith
apart_below (negsuc a) (pos zero) f g = sub-short 0 (suc a) (omega arith) (omega arith)
apart_below (negsuc a) (pos (suc b)) f g = omega arith
apart_below (negsuc a) (negsuc b) f g = sub-short (suc b) (suc a) (omega arith) (omega arith)

pub below-fits : (z : ℤ) → nat_abs z < 2 ^ 32 → SFits w64 z
below-fits (pos a) h = record { sfits = omega arith }
below-fits (negsuc a) h = record { sfits = omega arith }

pub difference-fits : {a b : ℤ} → SFits w32 a → SFits w32 b → SFits w64 (a -ℤ b)
difference-fits {a} {b} f g = below-fits (a -ℤ b) (apart_below a b f g)
