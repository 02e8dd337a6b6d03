-- The invariant: what is left of the pops leads to the same bytes, and it is not paused. What is left to do falls.
use Rattle.table.specs.Records.{rows_of}
use Rattle.expansion.proofs.Left.{left_in}
use Rattle.expansion.proofs.BytesLoops.{Popping}
use Rattle.expansion.proofs.pops.Given as goal

abbrev pub invariant-loop-step : goal.invariant-loop-step
invariant-loop-step l = Popping l.plan (rows_of 20 l.flags l.count) l.until l.initial.workspace l.initial.heap l.initial.size l.workspace l.heap l.size

abbrev pub decreases-loop-step : goal.decreases-loop-step
decreases-loop-step l = left_in l.plan l.size
