-- A list of cells as bytes, 16 for each: "a cell list's length is no multiple of 16" is BadList. Definitions only.
use Rattle.std.specs.Prelude.{Bool, List, [], ◌∷◌, ℕ, zero, suc, ◌*◌, ◌/◌, ◌%◌, eqb, length}
use Rattle.refusal.specs.declared.Cell.{Cell}
use Rattle.cell.specs.Bytes.{cell_at, cell_width}

-- whole cells and nothing after them
abbrev pub is_list : List ℕ → Bool
is_list l = eqb (length l % cell_width) 0

-- n cells, from index i on
unfoldable pub cells_from : List ℕ → ℕ → ℕ → List Cell
unfolding cell_at
cells_from l i zero = []
cells_from l i (suc n) = cell_at l (cell_width * i) ∷ cells_from l (suc i) n

-- all cells of a list
unfoldable pub cells_of : List ℕ → List Cell
unfolding cells_from
cells_of l = cells_from l 0 (length l / cell_width)
