-- The place after the last is the hole from which e rises.
use Rattle.waiting.specs.Inner.Sift.{push_in}
use Rattle.waiting.proofs.push.Goals as goal

pub returns : goal.returns
unfolding push_in
returns c = c.rise.ensures
