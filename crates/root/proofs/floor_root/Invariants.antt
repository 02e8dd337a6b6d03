-- The loop ends at the largest number whose square is at most n, whatever the guess was.
use Rattle.std.proofs.Common.{◌-◌, ◌*◌, ◌≤◌}
use Rattle.root.proofs.floor_root.Given as goal

abbrev pub invariant-loop-p : goal.invariant-loop-p
invariant-loop-p l = (l.p ≤ 4294967295) × (l.p * l.p ≤ l.n)

abbrev pub decreases-loop-p : goal.decreases-loop-p
decreases-loop-p l = 4294967295 - l.p
