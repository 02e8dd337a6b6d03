-- What the distance is by the parities and the differences that were tested, with that answer as an argument: a proof goes by its cases. Definitions only.
use Rattle.std.specs.Prelude.{Float, Result, Err}
use Rattle.lattice.specs.declared.Parity.{Parity}
use Rattle.refusal.specs.declared.Refusal.{Refusal}
use mathlib.Core.Bool.{Bool}
use Rattle.refusal.specs.declared.Coord.{Coord}
use Rattle.refusal.specs.declared.Refusal.TheVariants.{CoordOverflow}
use Rattle.root.specs.Root.{root_of}
use Rattle.distance.specs.Distance.{differences_fit, squared_distance}
use Rattle.lattice.specs.Lattice.{on_parities}
use Rattle.general.specs.Refuse.{refuse_unless}

abbrev pub distance_in : Bool → Coord → Coord → Result Float Refusal
distance_in fit a b = refuse_unless fit (Err CoordOverflow) (root_of (squared_distance a b))

abbrev pub distance_by : Result Parity Refusal → Result Parity Refusal → Coord → Coord → Result Float Refusal
distance_by x y a b = on_parities Err (λ p q. distance_in (differences_fit a b) a b) x y
