-- The first one before which there is none.
use Rattle.std.proofs.Common.{rules}
use Rattle.std.proofs.iter.runs.Sources.{ranges}
use Rattle.bech32m.specs.Valid.{is_of}
use Rattle.bech32m.proofs.Places.{First, first-told}
use Rattle.bech32m.proofs.first_of_kind.Goals as goal

pub returns : goal.returns
returns c =
    let test = is_of c.args.kind in
    let s = c.args.text.now in
    let first : First test c.args.from s c.find.result = search (rules, ranges) in
    first-told test c.args.from s c.find.result first
