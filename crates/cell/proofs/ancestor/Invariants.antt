-- The cell that was come to has the same ancestor; its resolution falls by one from a cell to its parent.
use Rattle.std.proofs.Common.{◌≡◌, ◌≤◌, ◌-◌}
use Rattle.cell.specs.Cell.{resolution_of, ancestor_of}
use Rattle.cell.proofs.ancestor.Given as goal

abbrev pub invariant-loop-up : goal.invariant-loop-up
invariant-loop-up l = record { coarser : l.target ≤ resolution_of l.up; same : ancestor_of l.up l.target ≡ ancestor_of l.fn.c l.target }

abbrev pub decreases-loop-up : goal.decreases-loop-up
decreases-loop-up l = resolution_of l.up - l.target
