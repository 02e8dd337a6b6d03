-- What is shown in this crate beside the contracts of src/: the theorems that docs/PROMISES.md names, in words of specs/. The law behind each is the one that its proof names.
use Rattle.std.specs.Prelude.{Ok}
use mathlib.Core.Path.{◌≡◌}
use mathlib.Core.Bool.{true, not, false}
use mathlib.Core.List.{Memᴰ}
use Prim.Native.Nat.{◌<◌}
use lib.Dec.{T}
use lib.Ieee.{Float, is_nan}
use Rattle.refusal.specs.declared.Coord.{Coord}
use Rattle.lattice.specs.Lattice.{parity_of, moved, neighbor_steps, manhattan, manhattan_of}
use Rattle.lattice.specs.declared.Parity.{Parity}
use Rattle.distance.specs.Distance.{differences_fit, distance_of, squared_distance}
use Rattle.distance.specs.Nearest.{NearestRoot}
use Rattle.distance.specs.Steps.{step_cost}
use Rattle.distance.specs.Terms.{both_tests}
use Rattle.distance.proofs as laws

-- Two lattice points whose differences fit i32 are answered with a distance: the root refuses none.
pub distance-answers :
    (a b : Coord) {p q : Parity} (first : parity_of a ≡ Ok p) (second : parity_of b ≡ Ok q) → differences_fit a b ≡ true
    → (d : Float) × (distance_of a b ≡ Ok d)
distance-answers = laws.Laws.distance-answers

-- A distance that is answered is no NaN.
pub distance-number : (a b : Coord) (d : Float) → distance_of a b ≡ Ok d → T (not (is_nan d))
distance-number = laws.Laws.distance-number

-- The distance from a lattice point to each of its 14 neighbours is the cost of the step: the root of 3, or 2.
pub step-costs : (c d : Coord) {p : Parity} → parity_of c ≡ Ok p → Memᴰ d neighbor_steps → distance_of c (moved c d) ≡ Ok (step_cost d)
step-costs = laws.StepsLaws.step-costs

-- Where a difference leaves i32, the Manhattan distance passes 2147483647.
pub sum-passes : (a b : Coord) → differences_fit a b ≡ false → 2147483647 < manhattan a b
sum-passes = laws.Differences.sum-passes

-- Document 01's tests of each difference and of the sum give the same answer about a Manhattan distance as the calls' one test of the sum.
pub both-tests : (a b : Coord) → both_tests a b ≡ manhattan_of a b
both-tests = laws.Differences.both-tests

-- A distance that is answered is the f64 nearest to the square root of the rounded sum of the squares, which is a whole number.
pub distance-nearest : (a b : Coord) (d : Float) → distance_of a b ≡ Ok d → NearestRoot (squared_distance a b) d
distance-nearest = laws.Nearest.distance-nearest
