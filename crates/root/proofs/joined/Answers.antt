-- The exponent's field and the digits make the pattern of the quotient (`joined_is`), which is no NaN's (`joined_number`).
use Rattle.root.proofs.Pattern.{joined_is, joined_number}
use Rattle.root.proofs.joined.Goals as goal

pub float_from_bits-result : goal.float_from_bits-result
float_from_bits-result c = rw (joined_number c.args.m c.args.s c.requires.0 c.requires.1 c.requires.2) tt

pub returns : goal.returns
returns c = joined_is c.args.m c.args.s c.requires.0 c.requires.1 c.requires.2
