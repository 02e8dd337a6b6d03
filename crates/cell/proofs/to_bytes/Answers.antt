-- The bytes of both words, one after the other, fill the array.
use mathlib.Core.Path.{refl, ◌∙◌}
use Rattle.cell.proofs.BytesLaws.{cell-stored-whole}
use Rattle.cell.proofs.to_bytes.Goals as goal

pub returns : goal.returns
returns c = c.write_at.ensures ∙ cell-stored-whole _ c.args.c refl
