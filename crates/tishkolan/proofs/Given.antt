-- What C hands over as a cell, or as two, once its bytes are read: what is told is told of the cells, or of the refusal.
use Rattle.std.specs.Prelude.{Result}
use mathlib.Core.Path.{◌≡◌, sym, ap, ◌∙◌}
use mathlib.Core.List.{List}
use Prim.Native.Nat.{ℕ}
use Rattle.refusal.specs.declared.Cell.{Cell}
use Rattle.refusal.specs.declared.Refusal.{Refusal}
use Rattle.cell.specs.Bytes.{from_bytes_of, by_cell, on_cell}

pub on-cell : {A : Type 0} (f : Refusal → A) (g : Cell → A) (l : List ℕ) {a b : Result Cell Refusal} → a ≡ from_bytes_of l → a ≡ b → by_cell f g b ≡ on_cell f g l
on-cell f g l read known = ap (by_cell f g) (sym known ∙ read)
