-- "CoordOverflow as for Manhattan": `between_of` too leaves out the test of the differences, which the sum decides.
use Rattle.std.specs.Prelude.{Result, Ok, Err}
use Rattle.lattice.specs.declared.Parity.{Parity}
use Rattle.refusal.specs.declared.Refusal.{Refusal}
use mathlib.Core.Path.{◌≡◌, refl, ap}
use mathlib.Core.Bool.{cond}
use lib.Dec.{eqb}
use Rattle.refusal.specs.declared.Cell.{Cell}
use Rattle.refusal.specs.declared.Refusal.TheVariants.{CoordOverflow}
use Rattle.lattice.specs.Lattice.{parity_of, manhattan}
use Rattle.distance.specs.Distance.{differences_fit}
use Rattle.distance.proofs.Differences.{sum-decides}
use Rattle.cell.specs.Cell.{resolution_of, coord_of, alike, between_of}
use Rattle.cell.proofs.Split.{between_by}
use Rattle.cell.specs.Terms.{both_between_by, both_between}

-- the definition of the calls is that
pub both-between : (a b : Cell) → both_between a b ≡ between_of a b
unfolding between_of
both-between a b = ap (λ (x : Result (Unit {0}) Refusal). cond (eqb (resolution_of a) (resolution_of b)) x (Ok tt)) (by-parity (parity_of (coord_of a)) (parity_of (coord_of b)))
  where
    by-parity : (p q : Result Parity Refusal) → both_between_by p q (differences_fit (coord_of b) (coord_of a)) (manhattan (coord_of b) (coord_of a)) ≡ between_by p q (manhattan (coord_of b) (coord_of a))
    by-parity (Err r) q = refl
    by-parity (Ok p) (Err r) = refl
    by-parity (Ok p) (Ok q) = ap (λ (x : Result (Unit {0}) Refusal). cond (alike p q) x (Ok tt)) (sum-decides (coord_of b) (coord_of a) (Ok tt) (Err CoordOverflow))
