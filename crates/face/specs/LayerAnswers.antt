-- What C is told of a set and of a remove in each case that there is: the cell has not 16 bytes; the layer is not sound; the cell is new, and the layer has room or is full; the cell
-- is kept. The numbers are document 01's: 0 answered, 10 NoRoom (its 4 is a layer's), 13 BadList, 14 BadLayer. Definitions only.
use Rattle.std.specs.Prelude.{◌≡◌, true, false, List, ℕ, ◌+◌, ◌-◌, ◌<◌, length, Option, Some, None, Ok}
use Rattle.refusal.specs.declared.Cell.{Cell}
use Rattle.cell.specs.Bytes.{from_bytes_of, cell_width}
use Rattle.table.specs.Records.{room_for, rows_of, held_of, is_sound}
use Rattle.face.specs.declared.CountTold.{CountTold}
use Rattle.face.specs.declared.KeptTold.{KeptTold}
use Rattle.face.specs.Told.{telling}
use Rattle.refusal.specs.Refusals.{no_coord}

-- a number of a refusal and its room, and the count
abbrev pub telling_count : ℕ → ℕ → ℕ → CountTold
telling_count number room n = record { refusal = telling number room no_coord; count = n }

-- a number of a refusal, whether the cell was found, what was kept of it, and the count
abbrev pub telling_kept : ℕ → ℕ → ℕ → ℕ → KeptTold
telling_kept number found k n = record { refusal = telling number 0 no_coord; found = found; kept = k; count = n }

-- what C is told of a get: what is kept of the cell, if anything, and the count
abbrev pub held_told : Option ℕ → ℕ → KeptTold
held_told (Some k) n = telling_kept 0 1 k n
held_told None n = telling_kept 0 0 0 n

-- the cases of a set or a remove: n of the table's records of w bytes are in use, and id are the cell's bytes. There are no others: `layer-case` of tishkolan/proofs/Theorems.antt
pub data LayerCase (w : ℕ) (table : List ℕ) (n : ℕ) (id : List ℕ) : Type 0 where
  no_cell : (length id ≡ cell_width → ⊥) → LayerCase w table n id
  no-layer : (c : Cell) → from_bytes_of id ≡ Ok c → is_sound w table n ≡ false → LayerCase w table n id
  new-cell : (c : Cell) → from_bytes_of id ≡ Ok c → is_sound w table n ≡ true → held_of c (rows_of w table n) ≡ None → n < room_for w table → LayerCase w table n id
  full-layer : (c : Cell) → from_bytes_of id ≡ Ok c → is_sound w table n ≡ true → held_of c (rows_of w table n) ≡ None → n ≡ room_for w table → LayerCase w table n id
  kept-cell : (c : Cell) (v : ℕ) → from_bytes_of id ≡ Ok c → is_sound w table n ≡ true → held_of c (rows_of w table n) ≡ Some v → LayerCase w table n id

-- what C is told of a set: "A new cell in a full layer is NoRoom 4; replacing is not"
abbrev pub set_told : {w : ℕ} {table : List ℕ} {n : ℕ} {id : List ℕ} → LayerCase w table n id → CountTold
set_told {n = n} (no_cell other) = telling_count 13 0 n
set_told {n = n} (no-layer c read broken) = telling_count 14 0 n
set_told {n = n} (new-cell c read sound new room) = telling_count 0 0 (n + 1)
set_told {n = n} (full-layer c read sound new full) = telling_count 10 4 n
set_told {n = n} (kept-cell c v read sound again) = telling_count 0 0 n

-- what C is told of a remove
abbrev pub remove_told : {w : ℕ} {table : List ℕ} {n : ℕ} {id : List ℕ} → LayerCase w table n id → KeptTold
remove_told {n = n} (no_cell other) = telling_kept 13 0 0 n
remove_told {n = n} (no-layer c read broken) = telling_kept 14 0 0 n
remove_told {n = n} (new-cell c read sound new room) = telling_kept 0 0 0 n
remove_told {n = n} (full-layer c read sound new full) = telling_kept 0 0 0 n
remove_told {n = n} (kept-cell c v read sound again) = telling_kept 0 1 v (n - 1)
