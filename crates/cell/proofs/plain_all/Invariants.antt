-- The invariant: the first cells are those of the first places.
use Rattle.cell.specs.Cell.{plain_at}
use Rattle.cell.proofs.Filled.{Filled}
use Rattle.cell.proofs.plain_all.Given as goal

abbrev pub invariant-loop-i : goal.invariant-loop-i
invariant-loop-i g l = Filled l.i-end (plain_at l.frame l.resolution) l.place-items l.cells l.i
