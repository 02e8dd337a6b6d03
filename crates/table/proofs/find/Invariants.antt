-- What is left of the records becomes less by the half that cannot hold the cell.
use Prim.Native.Nat.{◌-◌}
use Rattle.table.proofs.Halves.{Left}
use Rattle.table.proofs.find.Given as goal

abbrev pub invariant-loop-low : goal.invariant-loop-low
invariant-loop-low l = Left l.width l.table l.count l.c l.low l.high

abbrev pub decreases-loop-low : goal.decreases-loop-low
decreases-loop-low l = l.high - l.low
