-- The Manhattan distance with document 01's tests one by one; `both-tests` shows that the calls' one test of the sum answers the same. Definitions only.
use Rattle.lattice.specs.declared.Parity.{Parity}
use Rattle.refusal.specs.declared.Refusal.{Refusal}
use Rattle.std.specs.Prelude.{Bool, cond, ℕ, leb, pos, ℤ, Result, Ok, Err}
use Rattle.refusal.specs.declared.Coord.{Coord}
use Rattle.refusal.specs.declared.Refusal.TheVariants.{CoordOverflow}
use Rattle.lattice.specs.Lattice.{parity_of, manhattan, most_number}
use Rattle.distance.specs.Distance.{differences_fit}

-- the tests in document 01's order: the parities, then each difference, then the sum
abbrev pub both_by : Result Parity Refusal → Result Parity Refusal → Bool → ℕ → Result ℤ Refusal
both_by (Err r) q fits n = Err r
both_by (Ok p) (Err r) fits n = Err r
both_by (Ok p) (Ok q) fits n = cond fits (cond (leb n most_number) (Ok (pos n)) (Err CoordOverflow)) (Err CoordOverflow)

-- the answer about two places by these tests
abbrev pub both_tests : Coord → Coord → Result ℤ Refusal
both_tests a b = both_by (parity_of a) (parity_of b) (differences_fit a b) (manhattan a b)
