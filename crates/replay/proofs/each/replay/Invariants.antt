-- Each turn counts one record of the list; of the tables nothing has to hold.
use Rattle.std.proofs.Common.{◌≤◌, ◌<◌}
use Rattle.std.specs.Prelude.{IfSome}
use Rattle.replay.proofs.each.replay.Given as goal

abbrev pub invariant-loop-i : goal.invariant-loop-i
invariant-loop-i l = (l.differ ≤ l.i) × IfSome l.first (λ k. k < l.i)
