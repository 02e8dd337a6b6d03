-- The answer by its kind, then by the room.
use mathlib.Core.Path.{◌≡◌, sym, ap, ◌∙◌}
use mathlib.Core.List.{◌++◌}
use Prim.Native.Nat.{ℕ}
use native.Mathlib.Omega.{arith}
use native.Mathlib.Nat.{zero-add}
use lib.ListN.{length, drop}
use lib.Seq.{sets-eq}
use Rattle.cell.specs.Bytes.{cell_bytes}
use Rattle.cell.proofs.Stored.{length-cell_bytes, cell-stored-sets}
use Rattle.face.specs.Cells.{fill_cell}
use Rattle.tishkolan.proofs.Writing.{fill-no-room, fill-front}
use Rattle.tishkolan.proofs.cells.put_cell.Goals as goal

pub returns-then-out-lt-CELL_WIDTH : goal.returns-then-out-lt-CELL_WIDTH
returns-then-out-lt-CELL_WIDTH c =
    let out = c.args.out.now in
    let bytes = cell_bytes c.in-Ok.c in
    let size : length bytes ≡ 16 = length-cell_bytes c.in-Ok.c in
    fill-no-room bytes out (omega arith) c.into-then-out-lt-CELL_WIDTH.ensures
    ∙ sym (ap (fill_cell out) c.in-Ok.is)

pub returns-else-out-lt-CELL_WIDTH : goal.returns-else-out-lt-CELL_WIDTH
returns-else-out-lt-CELL_WIDTH c =
    let out = c.args.out.now in
    let bytes = cell_bytes c.in-Ok.c in
    let size : length bytes ≡ 16 = length-cell_bytes c.in-Ok.c in
    let stored = cell-stored-sets out 0 c.in-Ok.c ∙ sets-eq bytes out 0 (omega arith) ∙ ap (λ (n : ℕ). bytes ++ drop n out) (zero-add (length bytes)) in
    fill-front bytes out (omega arith) c.answered.ensures (c.write_at.ensures ∙ stored)
    ∙ sym (ap (fill_cell out) c.in-Ok.is)
