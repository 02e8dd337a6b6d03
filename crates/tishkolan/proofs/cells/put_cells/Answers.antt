-- By the room; then the bytes of the first i cells stand at the front.
use mathlib.Core.Path.{◌∙◌}
use native.Mathlib.Omega.{arith}
use Rattle.cell.proofs.Stored.{length-cell_bytes, cell-stored-sets}
use Rattle.cell.specs.Bytes.{cell_bytes}
use Rattle.face.specs.Cells.{cells_bytes}
use Rattle.tishkolan.proofs.Writing.{length-flat_map, written_none, written_more, fill-no-room}
use Rattle.tishkolan.proofs.cells.put_cells.Goals as goal

pub loop-i-init : goal.loop-i-init
loop-i-init c = written_none (omega arith)

pub loop-i-preserved : goal.loop-i-preserved
loop-i-preserved c =
    written_more length-cell_bytes c.loop-i.invariant (record { high = 0; low = 0 }) c.loop-i-test.true (c.write_at.ensures ∙ cell-stored-sets _ _ _)

pub returns-then-out-cells : goal.returns-then-out-cells
returns-then-out-cells c =
    let size = length-flat_map cell_bytes 16 length-cell_bytes c.args.cells.now in
    fill-no-room (cells_bytes c.args.cells.now) c.args.out.now (omega arith) c.into.ensures
