-- Word by word.
use mathlib.Core.Path.{◌∙◌, ap}
use mathlib.Core.List.{List}
use Prim.Native.Nat.{ℕ, ◌+◌}
use Rattle.words.specs.Word.{big, stored}
use Rattle.cell.specs.Inner.Bytes.{cell_stored}
use Rattle.cell.proofs.write_at.Goals as goal

pub returns : goal.returns
unfolding cell_stored
returns c =
    let s = c.args in
    c.write64_big-2.ensures
    ∙ ap (λ (l : List ℕ). stored big 8 l (s.at + 8) s.c.low) c.write64_big.ensures
