-- What is shown in this crate beside the contracts of src/: the theorems that docs/PROMISES.md names, in words of specs/. The law behind each is the one that its proof names.
use Rattle.std.specs.Prelude.{Ok}
use mathlib.Core.Path.{◌≡◌}
use mathlib.Core.Bool.{true}
use Prim.Native.Nat.{ℕ}
use Rattle.refusal.specs.declared.Coord.{Coord}
use Rattle.lattice.specs.Lattice.{is_lattice_point}
use Rattle.snap.specs.Snap.{snap_of}
use Rattle.snap.specs.Terms.{Bounded}
use Rattle.snap.specs.declared.Point.{Point}
use Rattle.snap.proofs as laws

-- Snap answers with a lattice point.
pub snap-is-point : (p : Point) (resolution : ℕ) (c : Coord) → snap_of p resolution ≡ Ok c → is_lattice_point c ≡ true
snap-is-point = laws.Laws.snap-is-point

-- Snap answers with coordinates from -2147483647 to 2147483647.
pub snap-fits : (p : Point) (resolution : ℕ) (c : Coord) → snap_of p resolution ≡ Ok c → Bounded c
snap-fits = laws.Laws.snap-fits
