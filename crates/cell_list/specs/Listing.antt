-- A list of cells as an answer: "Successful output fills the front of its buffer; the rest is unchanged." "Any answer longer than its buffer, in lines, listings and the writer too,
-- is NoRoom 3." "A refusal changes no output." Definitions only.
use mathlib.Core.List.{List, ◌++◌, flat_map}
use Rattle.std.specs.Prelude.{ℕ, ◌*◌, ◌/◌, leb, length, drop, Result, Ok, Err}
use Rattle.refusal.specs.declared.Cell.{Cell}
use Rattle.refusal.specs.declared.Room.TheVariants as room
use Rattle.refusal.specs.declared.Refusal.{Refusal}
use Rattle.refusal.specs.declared.Refusal.TheVariants.{NoRoom}
use Rattle.cell.specs.Bytes.{cell_bytes, cell_width}
use Rattle.general.specs.Changed.{Changed, changed}
use Rattle.general.specs.Refuse.{refuse_unless}

-- the cells, or why there are none
pub data Listing : Type 0 where
  cells : List Cell → Listing
  refused : Refusal → Listing

-- how many cells a buffer holds
abbrev pub room_in : List ℕ → ℕ
room_in l = length l / cell_width

-- the cells' bytes at the front of a buffer
unfoldable pub cells_laid : List Cell → List ℕ → List ℕ
unfolding cell_bytes
cells_laid cs l = flat_map cell_bytes cs ++ drop (cell_width * length cs) l

-- the number of cells and the buffer that holds them; or the refusal and the buffer as it was
abbrev pub listed_in : Listing → List ℕ → Changed (Result ℕ Refusal)
listed_in (refused r) l = changed (Err r) l
listed_in (cells cs) l = refuse_unless (leb (length cs) (room_in l)) (changed (Err (NoRoom room.Output)) l) (changed (Ok (length cs)) (cells_laid cs l))
