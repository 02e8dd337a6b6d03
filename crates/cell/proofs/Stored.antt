-- A cell stored in a list is its 16 bytes in place of those that stood there.
use mathlib.Core.Path.{◌≡◌, sym, ap, ◌∙◌}
use mathlib.Core.List.{List}
use Prim.Native.Nat.{ℕ, ◌+◌}
use lib.ListN.{length, length-append}
use lib.Seq.{sets}
use Rattle.refusal.specs.declared.Cell.{Cell}
use Rattle.words.specs.Word.{big, bytes_of, stored}
use Rattle.words.proofs.Laws.{length-bytes_of, sets-append}
use Rattle.cell.specs.Bytes.{cell_bytes}
use Rattle.cell.specs.Inner.Bytes.{cell_stored}

pub length-cell_bytes : (c : Cell) → length (cell_bytes c) ≡ 16
unfolding cell_bytes
length-cell_bytes c = rw (length-append, length-bytes_of, length-bytes_of)

pub cell-stored-sets : (l : List ℕ) (p : ℕ) (c : Cell) → cell_stored l p c ≡ sets l p (cell_bytes c)
unfolding cell_stored cell_bytes stored
cell-stored-sets l p c =
    let high = bytes_of big 8 c.high in
    let low = bytes_of big 8 c.low in
    sym (sets-append l p high low ∙ ap (λ (n : ℕ). sets (sets l p high) (p + n) low) (length-bytes_of big 8 c.high))
