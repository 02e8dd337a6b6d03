-- The loop ends at a number whose square is at most n.
use Rattle.std.proofs.Common.{◌≤◌}
use Rattle.root.proofs.lowered.Given as goal

abbrev pub invariant-loop-p : goal.invariant-loop-p
invariant-loop-p l = l.p ≤ 4294967295

abbrev pub decreases-loop-p : goal.decreases-loop-p
decreases-loop-p l = l.p
