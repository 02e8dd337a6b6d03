-- The definition's powers of two are the code's numbers.
use Rattle.bech32m.specs.Checksum.{step}
use Rattle.bech32m.proofs.step.Goals as goal

pub returns : goal.returns
unfolding step
returns c = rw c.generators.ensures
