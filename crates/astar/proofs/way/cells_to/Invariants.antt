-- The invariant: so many cells were passed, and the way from here is the rest of the whole way.
use Rattle.astar.proofs.WayLaws.{Counting}
use Rattle.astar.proofs.way.cells_to.Given as goal

abbrev pub invariant-loop-passed : goal.invariant-loop-passed
invariant-loop-passed l = Counting l.plan l.workspace l.sizes l.i l.at l.passed
