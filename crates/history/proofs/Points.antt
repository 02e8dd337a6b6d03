-- A history, computed: a flag table with room for one record is set, refused another cell, set again, emptied, set with the other cell, refused a cell of 15 bytes, and loaded. A value table is
-- set and rolled up into.
use mathlib.Core.Path.{◌≡◌, refl}
use mathlib.Core.List.{List, [], ◌∷◌, ◌++◌, flat_map, map}
use Prim.Native.Nat.{ℕ}
use lib.Ieee.{of_int, to_bits}
use lib.ListN.{replicate}
use Rattle.std.specs.Prelude.{Some, None}
use Rattle.refusal.specs.Refusals.{raw_of}
use Rattle.refusal.specs.declared.Cell.{Cell}
use Rattle.words.specs.Word.{number, ordered, word, low_digits, bytes_of}
use Rattle.lattice.specs.Lattice as lattice
use Rattle.lattice.specs.Lattice.{is_lattice_point, parity_of}
use Rattle.cell.specs.Cell.{coord_of, packed, parent_of}
use Rattle.cell.specs.Bytes.{cell_at, cell_bytes, from_bytes_of}
use Rattle.table.specs.Records.{row_at, rows_from, rows_of, row_bytes, ascending, is_sound, held_of, with_row, without_cell, laid, refilled, Layer, layer}
use Rattle.layer.specs.Changes.{set_in, remove_in, clear_in}
use Rattle.sorting.specs.Groups.{with_first, groups_of}
use Rattle.aggregate.specs.declared.Aggregation.TheVariants.{Count}
use Rattle.aggregate.specs.Aggregate.{any_nan, count_of, aggregate_of}
use Rattle.rollup.specs.Rollup.{parent_rows, rolled_of, rollup_in}
use Rattle.file.specs.File.{header_of, records_in, flag_rows, value_rows, accepted_of}
use Rattle.survey.specs.Survey.{load_of}
use Rattle.history.specs.History.{flag_layer, Step, set, remove, clear, load, rollup, after, after_all, left, along, last_left}

-- the cell whose 16 bytes are all b, these bytes, and a flag record of it
abbrev id : ℕ → List ℕ
id b = replicate 16 b

abbrev cell : ℕ → Cell
cell b = cell_at (id b) 0

abbrev flagged : ℕ → ℕ → List ℕ
flagged b bits = id b ++ (0 ∷ 0 ∷ 0 ∷ bits ∷ [])

-- a file that has one flag record
abbrev file : List ℕ
file = (0 ∷ 1 ∷ 0 ∷ 1 ∷ 0 ∷ 0 ∷ 0 ∷ 0 ∷ 0 ∷ 0 ∷ 0 ∷ 16 ∷ 0 ∷ 0 ∷ 0 ∷ 36 ∷ []) ++ flagged 9 5

abbrev steps : List (Step flag_layer)
steps = set (id 7) 1 ∷ set (id 8) 1 ∷ set (id 7) 2 ∷ remove (id 7) ∷ set (id 8) 3 ∷ set (replicate 15 8) 4 ∷ []

abbrev start : Layer
start = layer (replicate 20 0) 0

-- the second cell is kept at last, as the set after the remove left it
pub sets-after : after_all steps start ≡ layer (flagged 8 3) 1
unfolding after after_all set_in remove_in from_bytes_of is_sound ascending rows_of rows_from row_at held_of with_row without_cell raw_of cell_at cell_bytes row_bytes bytes_of low_digits laid refilled flat_map word number ordered
sets-after = refl

pub sets-left : map (λ (b : ℕ). last_left (cell b) steps start) (7 ∷ 8 ∷ 9 ∷ []) ≡ None ∷ Some 3 ∷ None ∷ []
unfolding last_left along left after set_in remove_in from_bytes_of is_sound ascending rows_of rows_from row_at held_of with_row without_cell raw_of cell_at cell_bytes row_bytes bytes_of low_digits laid refilled flat_map word number ordered
sets-left = refl

-- a load after them leaves what its file has, and of other cells nothing; a file that is cut short leaves all as it was
pub load-left : map (λ (b : ℕ). last_left {kind = flag_layer} (cell b) (set (id 8) 3 ∷ load file [] ∷ load [] [] ∷ []) start) (8 ∷ 9 ∷ []) ≡ None ∷ Some 5 ∷ []
unfolding last_left along left after set_in load_of accepted_of header_of flag_rows value_rows records_in from_bytes_of is_sound ascending rows_of rows_from row_at held_of with_row raw_of cell_at cell_bytes row_bytes bytes_of low_digits laid refilled flat_map word number ordered
load-left = refl

-- a clear leaves nothing
pub clear-left : last_left {kind = flag_layer} (cell 8) (set (id 8) 3 ∷ clear ∷ []) start ≡ None
unfolding last_left along left after set_in clear_in from_bytes_of is_sound ascending rows_of rows_from row_at held_of with_row raw_of cell_at cell_bytes row_bytes bytes_of low_digits laid refilled flat_map word number ordered
clear-left = refl

-- a rollup leaves the parents of its fine layer's cells, here the cell 0 with the bits of 1.0, which is the count of one value
abbrev fine : List ℕ
fine = (replicate 14 0 ++ (1 ∷ 0 ∷ [])) ++ replicate 8 0

pub rollup-left : map (λ (b : ℕ). last_left (cell b) (set (id 9) 4 ∷ rollup Count fine 1 ∷ []) (layer (replicate 24 0) 0)) (0 ∷ 9 ∷ []) ≡ Some 0x3FF0000000000000 ∷ None ∷ []
unfolding last_left along left after set_in rollup_in parent_rows parent_of coord_of lattice.parent_of is_lattice_point parity_of packed groups_of with_first rolled_of aggregate_of any_nan count_of of_int to_bits from_bytes_of is_sound ascending rows_of rows_from row_at held_of with_row raw_of cell_at cell_bytes row_bytes bytes_of low_digits laid refilled flat_map word number ordered
rollup-left = refl
