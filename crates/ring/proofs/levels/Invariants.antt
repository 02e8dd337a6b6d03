-- The invariant: what is left of the steps, from the cells at hand, is what all of them are from the centre.
use Rattle.ring.proofs.Stepped.{SteppedTo}
use Rattle.ring.proofs.levels.Given as goal

abbrev pub invariant-loop : goal.invariant-loop
invariant-loop l = SteppedTo l.every l.rooms l.k l.initial.workspace l.workspace l.from l.to l.counter
