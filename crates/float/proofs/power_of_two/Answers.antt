-- `float::power_of_two` meets its contract: the exponent's field alone is the pattern of a power of two.
use Rattle.std.proofs.Common.{◌∙◌, arith}
use Rattle.float.proofs.Powers.{power-value, power-number}
use Rattle.float.proofs.power_of_two.Goals as goal

pub value-requires : goal.value-requires
value-requires c = power-number c.args.resolution (omega arith)

pub returns : goal.returns
returns c = c.value.ensures ∙ power-value c.args.resolution (omega arith)
