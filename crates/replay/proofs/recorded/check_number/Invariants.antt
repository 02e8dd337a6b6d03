-- Each turn adds less than 16777216, and there are at most 65536 turns.
use Rattle.std.proofs.Common.{◌≤◌, ◌*◌}
use Rattle.replay.proofs.recorded.check_number.Given as goal

abbrev pub invariant-loop-i : goal.invariant-loop-i
invariant-loop-i l = l.sum ≤ 16777216 * l.i
