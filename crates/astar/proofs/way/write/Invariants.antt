-- The invariant: the cells that were passed are written behind the place of the next. The way is whole, so that the record before is a known one.
use Rattle.astar.proofs.WayLaws.{Writing}
use Rattle.astar.proofs.way.write.Given as goal

abbrev pub invariant-loop-place : goal.invariant-loop-place
invariant-loop-place l = Writing l.plan l.workspace l.sizes l.i l.initial.output l.output l.at l.place
