-- The test is 0 or 1.
use Rattle.waiting.specs.Inner.Entries.{key_in}
use Rattle.waiting.proofs.Least.{lesser-of-two}
use Rattle.waiting.proofs.lesser.Goals as goal

pub returns : goal.returns
returns c = lesser-of-two (key_in c.args.heap.now) c.args.a c.less_at.result c.less_at.ensures
