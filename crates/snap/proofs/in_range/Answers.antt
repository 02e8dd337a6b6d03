-- The two tests of the code are the two of the definition.
use Rattle.std.specs.Float.Ieee.{of_bits, neg}
use Rattle.std.proofs.Common.{arith}
use Rattle.std.proofs.lemmas.Grind.{common_steps}
use Rattle.snap.proofs.in_range.Goals as goal

pub returns-then-v : goal.returns-then-v
unfolding of_bits neg
returns-then-v c = grind (arith, common_steps)

pub returns-else-v : goal.returns-else-v
unfolding of_bits neg
returns-else-v c = grind (arith, common_steps)
