-- The cell and what is kept, one after the other.
use mathlib.Core.Path.{◌∙◌}
use native.Mathlib.Omega.{arith}
use Rattle.words.specs.Word.{big}
use Rattle.words.proofs.Laws.{stored-mod}
use Rattle.table.proofs.Moved.{put}
use Rattle.table.proofs.moves.put_record.Goals as goal

pub returns-then-width-eq-FLAG_WIDTH : goal.returns-then-width-eq-FLAG_WIDTH
returns-then-width-eq-FLAG_WIDTH c =
    let args = c.args in
    put args.width 4 args.table.now args.i args.c args.kept (omega arith) (omega arith) c.requires.i_in_bounds c.write_at.ensures
    (c.write32_big.ensures ∙ stored-mod big 4 _ _ args.kept)

pub returns-else-width-eq-FLAG_WIDTH : goal.returns-else-width-eq-FLAG_WIDTH
returns-else-width-eq-FLAG_WIDTH c =
    let args = c.args in
    put args.width 8 args.table.now args.i args.c args.kept (omega arith) (omega arith) c.requires.i_in_bounds c.write_at.ensures c.write64_big.ensures
