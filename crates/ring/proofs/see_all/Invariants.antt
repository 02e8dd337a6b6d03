-- The invariant: the first neighbours were seen.
use Rattle.ring.proofs.SeenAll.{SeenTo}
use Rattle.ring.proofs.see_all.Given as goal

abbrev pub invariant-loop-c : goal.invariant-loop-c
invariant-loop-c l = SeenTo l.rooms l.next l.count l.initial.workspace l.c-items l.workspace l.n l.c-index
