-- The code's table is the list of the values of 0 to 255, which antt computes.
use borrow.Author.Rules.{rules}
use Rattle.bech32m.specs.Checksum.{value_of, index_of}
use Rattle.bech32m.proofs.Listed.{listed_at}
use Rattle.bech32m.proofs.charset.value_of.Goals as goal

pub returns : goal.returns
unfolding value_of index_of
returns c = listed_at value_of 256 c.args.character (search rules)
