-- The code's table is the charset; past it stands 0.
use mathlib.Core.Path.{sym}
use lib.ListN.{get_or-eq_default}
use Rattle.bech32m.specs.Checksum.{charset}
use Rattle.bech32m.proofs.charset.character_of.Goals as goal

pub returns : goal.returns
returns c = sym (get_or-eq_default charset 0 c.if-value-lt32.false)
