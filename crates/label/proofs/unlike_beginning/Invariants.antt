-- The characters before place i are like the beginning's.
use Rattle.std.specs.Prelude.{ℕ, ◌<◌}
use Rattle.label.specs.Label.{beginning}
use Rattle.label.proofs.Unlike.{Like}
use Rattle.label.proofs.unlike_beginning.Given as goal

abbrev pub invariant-loop-i : goal.invariant-loop-i
invariant-loop-i l = (k : ℕ) → k < l.i → Like beginning l.text k
