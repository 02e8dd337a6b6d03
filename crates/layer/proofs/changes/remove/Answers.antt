-- What was kept has the bits of the layer's kind.
use mathlib.Core.Path.{ap}
use Rattle.std.proofs.Common.{rules, ℕ}
use Rattle.std.specs.Prelude.{Option}
use Rattle.general.specs.Changed.{Changed}
use Rattle.words.specs.Word.{Bytes}
use Rattle.layer.proofs.Holding.{kept-fits}
use Rattle.layer.proofs.changes.remove.Goals as goal

pub returns-clause-fits : goal.returns-clause-fits
returns-clause-fits g c =
    let args = c.args in
    let bytes : Bytes args.table.now = search rules in
    kept-fits _ args.table.now args.count _ bytes c.width-width.ensures.value (ap (λ (z : Changed (Option ℕ)). z.said) c.remove_cell.ensures)
