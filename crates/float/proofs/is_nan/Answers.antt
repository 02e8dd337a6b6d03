-- `float::is_nan` meets its contract: the library's law of the patterns above an infinity's.
use Rattle.std.proofs.Common.{sym}
use lib.Ieee.{binary64}
use lib.Ieee.Bits.{nan_bits_above}
use Rattle.float.proofs.is_nan.Goals as goal

pub returns : goal.returns
returns c = sym (nan_bits_above binary64 c.args.bits)
