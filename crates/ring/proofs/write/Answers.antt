-- Cell by cell: what is written is the front of the span.
use mathlib.Core.Path.{sym}
use Rattle.known.specs.Inner.Known.{cells_in}
use Rattle.known.proofs.Laws.{length-cells, cells-more}
use Rattle.cell_list.proofs.Laws.{no-cells-laid, cell-appended}
use Rattle.ring.proofs.write.Goals as goal

pub loop-i-init : goal.loop-i-init
unfolding cells_in
loop-i-init c = sym (no-cells-laid c.args.output.now)

pub loop-i-preserved : goal.loop-i-preserved
loop-i-preserved c =
    let a = c.args in
    let w = a.workspace.now in
    let i = c.loop-i.i in
    cc (cells-more w a.room a.from i, length-cells w a.room a.from i, cell-appended (cells_in w a.room a.from i) c.cell_at.result a.output.now)
