-- What is left of a walk at an index, for the contracts of the loop inside. Definitions only.
use Rattle.std.specs.Prelude.{false, List, ℕ, ◌-◌, ◌/◌, pos, Float, length}
use Rattle.std.specs.Float.{fin}
use Rattle.refusal.specs.declared.Cell.{Cell}
use Rattle.cell.specs.Bytes.{cell_at, cell_width}
use Rattle.cell.specs.Lists.{cells_from}
use Rattle.table.specs.Records.{Row}
use Rattle.route.specs.Route.{Walk, walk_from}

-- what is left of the walk at index i, with the last cell and what was paid so far
abbrev pub walk_at : List ℕ → ℕ → List Row → ℕ → Cell → Float → Walk
walk_at l rule rows i last paid = walk_from rule rows last paid (cells_from l i (length l / cell_width - i))

-- the whole walk, from the first cell on at no cost
abbrev pub walk_of : List ℕ → ℕ → List Row → Walk
walk_of l rule rows = walk_at l rule rows 1 (cell_at l 0) (fin false 0 (pos 0))
