-- Known points of set and remove: a table with room for one flag record, one with room for two, one with room for none, and records that do not ascend.
use mathlib.Core.Path.{◌≡◌, refl}
use mathlib.Core.List.{List, [], ◌∷◌, ◌++◌, flat_map}
use Prim.Native.Nat.{ℕ}
use lib.ListN.{replicate}
use Rattle.std.specs.Prelude.{Ok, Err, Some, None}
use Rattle.refusal.specs.Refusals.{raw_of}
use Rattle.refusal.specs.declared.Room.TheVariants.{Layer}
use Rattle.refusal.specs.declared.Refusal.TheVariants.{NoRoom, BadLayer, BadList}
use Rattle.words.specs.Word.{number, ordered, word, low_digits, bytes_of}
use Rattle.cell.specs.Bytes.{cell_at, cell_bytes, from_bytes_of}
use Rattle.table.specs.Records.{row_at, rows_from, rows_of, row_bytes, ascending, is_sound, held_of, with_row, without_cell, laid, refilled}
use Rattle.general.specs.Changed.{changed}
use Rattle.layer.specs.Changes.{set_in, remove_in}

-- the cell whose 16 bytes are all b
abbrev cell : ℕ → List ℕ
cell b = replicate 16 b

-- and a flag record of it
abbrev flagged : ℕ → ℕ → List ℕ
flagged b bits = replicate 16 b ++ (0 ∷ 0 ∷ 0 ∷ bits ∷ [])

-- ---- a table of 20 bytes

-- the first cell is answered
pub first-answered : set_in 20 (replicate 20 0) 0 (cell 7) 1 ≡ changed (Ok 1) (flagged 7 1)
unfolding set_in from_bytes_of is_sound ascending rows_of rows_from row_at with_row raw_of cell_at cell_bytes row_bytes bytes_of low_digits laid flat_map word number ordered
first-answered = refl

-- another has no room
pub second-refused : set_in 20 (flagged 7 1) 1 (cell 8) 1 ≡ changed (Err (NoRoom Layer)) (flagged 7 1)
unfolding set_in from_bytes_of is_sound ascending rows_of rows_from row_at with_row raw_of cell_at cell_bytes row_bytes bytes_of low_digits laid flat_map word number ordered
second-refused = refl

-- the same is replaced
pub same-replaced : set_in 20 (flagged 7 1) 1 (cell 7) 2 ≡ changed (Ok 1) (flagged 7 2)
unfolding set_in from_bytes_of is_sound ascending rows_of rows_from row_at with_row raw_of cell_at cell_bytes row_bytes bytes_of low_digits laid flat_map word number ordered
same-replaced = refl

-- and removed
pub same-removed : remove_in 20 (flagged 7 1) 1 (cell 7) ≡ changed (Ok (Some 1)) (replicate 20 0)
unfolding remove_in from_bytes_of is_sound ascending rows_of rows_from row_at held_of without_cell raw_of cell_at cell_bytes row_bytes bytes_of low_digits refilled flat_map word number ordered
same-removed = refl

-- of another there is nothing to remove
pub other-not-removed : remove_in 20 (flagged 7 1) 1 (cell 8) ≡ changed (Ok None) (flagged 7 1)
unfolding remove_in from_bytes_of is_sound ascending rows_of rows_from row_at held_of without_cell raw_of cell_at cell_bytes row_bytes bytes_of low_digits refilled flat_map word number ordered
other-not-removed = refl

-- removed room serves another cell
pub removed-room-taken : set_in 20 (remove_in 20 (flagged 7 1) 1 (cell 7)).bytes 0 (cell 8) 3 ≡ changed (Ok 1) (flagged 8 3)
unfolding set_in remove_in from_bytes_of is_sound ascending rows_of rows_from row_at held_of with_row without_cell raw_of cell_at cell_bytes row_bytes bytes_of low_digits laid refilled flat_map word number ordered
removed-room-taken = refl

-- ---- a table of 40 bytes

-- the second cell is answered too, and stands in its place
pub second-answered : set_in 20 (flagged 7 1 ++ replicate 20 0) 1 (cell 5) 9 ≡ changed (Ok 2) (flagged 5 9 ++ flagged 7 1)
unfolding set_in from_bytes_of is_sound ascending rows_of rows_from row_at with_row raw_of cell_at cell_bytes row_bytes bytes_of low_digits laid flat_map word number ordered
second-answered = refl

-- records that do not ascend are no layer
pub falling-refused : set_in 20 (flagged 7 1 ++ flagged 5 9) 2 (cell 5) 1 ≡ changed (Err BadLayer) (flagged 7 1 ++ flagged 5 9)
unfolding set_in from_bytes_of is_sound ascending rows_of rows_from row_at with_row raw_of cell_at cell_bytes row_bytes bytes_of low_digits laid flat_map word number ordered
falling-refused = refl

-- nor are more than there is room for; a cell of 15 bytes comes first
pub too-many-refused : set_in 20 (flagged 7 1) 2 (cell 7) 1 ≡ changed (Err BadLayer) (flagged 7 1)
unfolding set_in from_bytes_of is_sound ascending rows_of rows_from row_at with_row raw_of cell_at cell_bytes row_bytes bytes_of low_digits laid flat_map word number ordered
too-many-refused = refl

pub short-cell-refused : set_in 20 (flagged 7 1) 2 (replicate 15 7) 1 ≡ changed (Err BadList) (flagged 7 1)
unfolding set_in from_bytes_of
short-cell-refused = refl

-- ---- other tables

-- one that is shorter than a record has room for none
pub short-table-refused : set_in 20 (replicate 19 0) 0 (cell 7) 1 ≡ changed (Err (NoRoom Layer)) (replicate 19 0)
unfolding set_in from_bytes_of is_sound ascending rows_of rows_from row_at with_row raw_of cell_at cell_bytes row_bytes bytes_of low_digits laid flat_map word number ordered
short-table-refused = refl
