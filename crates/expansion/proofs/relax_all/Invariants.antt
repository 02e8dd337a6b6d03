-- The invariant: the first neighbours were looked at.
use Rattle.table.specs.Records.{rows_of}
use Rattle.expansion.proofs.BytesLoops.{AroundIn}
use Rattle.expansion.proofs.relax_all.Given as goal

abbrev pub invariant-loop-n : goal.invariant-loop-n
invariant-loop-n l =
    AroundIn l.plan (rows_of 20 l.flags l.count) l.at l.c l.g l.n-items l.initial.workspace l.initial.heap l.initial.size l.workspace l.heap l.size l.n-index
