-- The aggregates and the rollup of a value layer for C: an aggregation is its number, in the order of the enum. List and layer are tested before the number, so one that stands for no
-- aggregation is OutOfRange after BadList and BadLayer. An aggregate is told by its bits. Definitions only.
use Rattle.refusal.specs.declared.Refusal.{Refusal}
use Rattle.aggregate.specs.declared.Aggregation.{Aggregation}
use Rattle.std.specs.Prelude.{List, [], ◌∷◌, ℕ, get_or, Float, Result, Err, Option, Some, None}
use Rattle.refusal.specs.declared.Refusal.TheVariants as refusal
use Rattle.cell.specs.Lists.{is_list}
use Rattle.table.specs.Records.{is_sound, value_width}
use Rattle.aggregate.specs.declared.Aggregation.TheVariants.{Count, Sum, Mean, Min, Max, Median}
use Rattle.aggregate.specs.Aggregate.{aggregate_in}
use Rattle.general.specs.Changed.{Changed, changed}
use Rattle.rollup.specs.Rollup.{rollup_in}
use Rattle.face.specs.declared.BitsTold.{BitsTold}
use Rattle.face.specs.Told.{of_distance}
use Rattle.general.specs.Refuse.{refuse_unless}

-- the aggregations in the order of their numbers
abbrev pub aggregations : List (Option Aggregation)
aggregations = Some Count ∷ Some Sum ∷ Some Mean ∷ Some Min ∷ Some Max ∷ Some Median ∷ []

-- which aggregation a number stands for, if any
unfoldable pub aggregation_of : ℕ → Option Aggregation
aggregation_of how = get_or aggregations how None

-- why there is no aggregate where the number stands for no aggregation: BadList, BadLayer, OutOfRange
unfoldable pub no_aggregation : List ℕ → ℕ → List ℕ → Refusal
unfolding is_sound
no_aggregation l n cells = refuse_unless (is_list cells) refusal.BadList (refuse_unless (is_sound value_width l n) refusal.BadLayer refusal.OutOfRange)

-- the aggregate by what C asked for
abbrev pub aggregate_by : Option Aggregation → List ℕ → ℕ → List ℕ → Result Float Refusal
aggregate_by (Some how) l n cells = aggregate_in how l n cells
aggregate_by None l n cells = Err (no_aggregation l n cells)

-- the aggregate of the values of a list's cells, by the aggregation's number: its bits, or the refusal, NoValues and HasNaN among them
unfoldable pub aggregate_told : List ℕ → ℕ → List ℕ → ℕ → BitsTold
unfolding aggregate_in aggregation_of no_aggregation
aggregate_told l n cells how = of_distance (aggregate_by (aggregation_of how) l n cells)

-- ---- rollup

-- why there is no rollup where the number stands for no aggregation: BadLayer, OutOfRange
unfoldable pub no_rollup : List ℕ → ℕ → Refusal
unfolding is_sound
no_rollup fine n = refuse_unless (is_sound value_width fine n) refusal.BadLayer refusal.OutOfRange

-- what is said by what C asked for, and what stands in the coarse table
abbrev pub rollup_by : Option Aggregation → List ℕ → ℕ → List ℕ → Changed (Result ℕ Refusal)
rollup_by (Some how) fine n coarse = rollup_in how fine n coarse
rollup_by None fine n coarse = changed (Err (no_rollup fine n)) coarse

-- the rollup by the aggregation's number
unfoldable pub rollup_asked : List ℕ → ℕ → ℕ → List ℕ → Changed (Result ℕ Refusal)
unfolding rollup_in aggregation_of no_rollup
rollup_asked fine n how coarse = rollup_by (aggregation_of how) fine n coarse
