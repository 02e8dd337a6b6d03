-- Each product is of two numbers of 32 bits.
use Rattle.std.proofs.Common.{refl, arith}
use Rattle.known.specs.Inner.Known.{mixed_of}
use Rattle.known.proofs.mixed.Goals as goal

pub returns : goal.returns
unfolding mixed_of
returns c = (refl, omega arith)
