-- The last one behind which there is none.
use Rattle.std.proofs.Common.{rules}
use Rattle.bech32m.specs.Valid.{is_separator, separator_of}
use Rattle.bech32m.proofs.Places.{Last, last-told}
use Rattle.bech32m.proofs.separator_of.Goals as goal

pub returns : goal.returns
unfolding separator_of
returns c =
    let s = c.args.text.now in
    let last : Last is_separator s c.rposition.result = search rules in
    last-told is_separator s c.rposition.result last
