-- What is left of the walk, from the last cell on at what was paid, is always the whole walk.
use mathlib.Core.Path.{◌≡◌}
use Rattle.table.specs.Records.{rows_of}
use Rattle.route.specs.Inner.Walks.{walk_at, walk_of}
use Rattle.route.proofs.walk.Given as goal

abbrev pub invariant-loop-i : goal.invariant-loop-i
invariant-loop-i l = walk_at l.route l.rule (rows_of 20 l.flags l.count) l.i l.last l.paid ≡ walk_of l.route l.rule (rows_of 20 l.flags l.count)
