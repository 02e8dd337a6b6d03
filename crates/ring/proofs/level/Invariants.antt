-- The invariant: the cells before record i were listed and expanded.
use Rattle.ring.proofs.Leveled.{LevelTo}
use Rattle.ring.proofs.level.Given as goal

abbrev pub invariant-loop-i : goal.invariant-loop-i
invariant-loop-i l = LevelTo l.every l.rooms l.from l.to l.initial.workspace l.workspace l.count l.i
