-- What is kept has the bits of the layer's kind.
use Rattle.std.proofs.Common.{rules}
use Rattle.words.specs.Word.{Bytes}
use Rattle.layer.proofs.Holding.{kept-fits}
use Rattle.layer.proofs.get.Goals as goal

pub returns-clause-fits : goal.returns-clause-fits
returns-clause-fits g c =
    let args = c.args in
    let bytes : Bytes args.table.now = search rules in
    kept-fits _ args.table.now args.count _ bytes c.width-width.ensures.value c.held.ensures
