-- The first one before which there is none.
use Rattle.std.proofs.Common.{rules}
use Rattle.std.proofs.iter.runs.Sources.{ranges}
use Rattle.bech32m.proofs.Places.{First, first-told}
use Rattle.bech32m.proofs.first_from.Goals as goal

pub returns : goal.returns
returns g c = λ test t.
    let s = c.args.text.now in
    let first : First test c.args.from s c.find.result = search (rules, ranges) in
    first-told test c.args.from s c.find.result first
