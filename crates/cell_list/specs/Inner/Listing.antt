-- A cell that is put at an index of a buffer, for contracts inside. Definitions only.
use Rattle.std.specs.Prelude.{List, ◌++◌, ℕ, ◌+◌, ◌*◌, take, drop}
use Rattle.refusal.specs.declared.Cell.{Cell}
use Rattle.cell.specs.Bytes.{cell_bytes, cell_width}

-- the buffer after a cell's bytes are put at index i
unfoldable pub cell_put : List ℕ → ℕ → Cell → List ℕ
unfolding cell_bytes
cell_put l i c = take (cell_width * i) l ++ (cell_bytes c ++ drop (cell_width * (i + 1)) l)
