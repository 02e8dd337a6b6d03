-- One cell fits where there is room for any.
use Rattle.std.specs.Prelude.{Ok}
use mathlib.Core.Path.{sym, ap, ◌∙◌}
use mathlib.Core.List.{[], ◌∷◌}
use native.Mathlib.Omega.{arith}
use Rattle.general.specs.Changed.{changed}
use Rattle.cell_list.proofs.Laws.{cell-first, cells-listed}
use Rattle.line.proofs.single.Goals as goal

pub returns : goal.returns
returns c =
    let a = c.args in
    ap (changed (Ok 1)) (c.put.ensures ∙ cell-first a.c a.output.now)
    ∙ sym (cells-listed (a.c ∷ []) a.output.now (omega arith))
