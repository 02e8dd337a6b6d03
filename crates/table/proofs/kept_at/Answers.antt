-- A word of as many bytes as the width leaves.
use mathlib.Core.Path.{◌∙◌}
use native.Mathlib.Omega.{arith}
use Rattle.table.proofs.Laws.{row_kept}
use Rattle.table.proofs.kept_at.Goals as goal

pub returns-then-width-eq-FLAG_WIDTH : goal.returns-then-width-eq-FLAG_WIDTH
returns-then-width-eq-FLAG_WIDTH c =
    let args = c.args in
    c.read32_big.ensures.0 ∙ row_kept args.width 4 args.table.now args.i (omega arith)

pub returns : goal.returns
returns c =
    let args = c.args in
    c.read64_big.ensures ∙ row_kept args.width 8 args.table.now args.i (omega arith)
