-- Known points of what C is told, by computation: a distance, a search beyond its limit, a cell that is made and read, its label, a parent's children, and files that
-- are refused and written back.
use Rattle.std.specs.Prelude.{Ok}
use mathlib.Core.Bool.{false}
use mathlib.Core.List.{List, [], ◌∷◌, ◌++◌, flat_map}
use mathlib.Core.Path.{refl, ◌≡◌}
use Prim.Native.Nat.{ℕ}
use borrow.Fn.Kinds.{ended_of}
use lib.IntN.{pos, negsuc}
use lib.Ieee.{fin, binary64, of_bits, to_bits}
use lib.ListN.{replicate, take, drop}
use contract.Lifetimes.{Lfts}
use denote.Triple.Clauses.{AtExit}
use Rattle.refusal.specs.Refusals.{raw_of, no_coord}
use Rattle.refusal.specs.declared.Coord.{Coord}
use Rattle.words.specs.Word.{word, number, ordered, low_digits, bytes_of}
use Rattle.lattice.specs.Lattice.{at, is_lattice_point, parity_of, child_steps, child_places, has_child_room, children_of, parent_of}
use Rattle.distance.specs.Distance.{squared_distance, distance_of}
use Rattle.distance.specs.Nearest.{NearestRoot}
use Rattle.cell.specs.Cell.{packed, new_of}
use Rattle.cell.specs.Bytes.{cell_at, cell_bytes, from_bytes_of}
use Rattle.bech32m.specs.Text.{first_from}
use Rattle.bech32m.specs.Checksum.{index_of, value_of, digits, number_from, step, sum_from, created}
use Rattle.label.specs.Label.{data_of, label_of, unlike_from, mixed_at, unknown_at, bits_in, read_values, read_of}
use Rattle.general.specs.Changed.{changed, saying}
use Rattle.table.specs.Records.{layer, row_at, rows_from, rows_of, row_bytes, ascending, first_fall, is_sound, refilled}
use Rattle.file.specs.File.{header_of, records_in, flag_rows, value_rows, accepted_of, header_bytes, file_of}
use Rattle.survey.specs.Survey.{load_of, write_of}
use Rattle.face.specs.Surveys.{loading_told, of_loading, of_write}
use Rattle.search.specs.Plan.{search_of}
use Rattle.known.specs.Workspace.{in_rooms}
use Rattle.astar.specs.Call.{has_rooms, search_in, asking, buffers}
use Rattle.face.specs.declared.BitsTold.{BitsTold}
use Rattle.face.specs.Told.{bits_told, telling, answered, filled, of_coord}
use Rattle.face.specs.declared.SearchTold.{SearchTold}
use Rattle.face.specs.Searches.{of_searched}
use Rattle.face.specs.Cells.{new_told, fields_told}
use Rattle.face.specs.Labels.{label_told, place_filled, cell_told}
use Rattle.face.specs.Terms.{fields_given, no_mistake}
use Rattle.face.specs.Points.{children_told}
use Rattle.tishkolan.proofs as here
use Rattle.tishkolan.proofs.Calls.{LatticeDistance}
use Rattle.tishkolan.proofs.Distances.{lattice-distance-nearest}

abbrev corner : BitsTold
corner = bits_told 0x3FFB_B67A_E858_4CAA

module _ (κs : Lfts 0) (e : AtExit (ended_of 0 here.points.tishkolan_lattice_distance.Kinds.ps here.points.tishkolan_lattice_distance.Kinds.r) κs) where
  pub corner-told : LatticeDistance
  unfolding distance_of to_bits
  corner-told = record { lifetimes = κs; arguments = (pos 0, (pos 0, (pos 0, (pos 1, (pos 1, (pos 1, tt)))))); told = corner; exit = e; meets = refl }

  pub corner-told-nearest : NearestRoot (fin false 3 (pos 0)) (of_bits binary64 0x3FFB_B67A_E858_4CAA)
  unfolding squared_distance corner-told
  corner-told-nearest = lattice-distance-nearest corner-told refl

-- from (0, 0, 0) to (2, 2, 0) with a limit of 0, in rooms of 1 and 1: the bytes of the call tell 7, one expansion and the limit 0
abbrev told-at-nought : SearchTold
told-at-nought =
    (of_searched (search_in (asking (replicate 16 0) (0 ∷ 0 ∷ 0 ∷ 2 ∷ 0 ∷ 0 ∷ 0 ∷ 2 ∷ replicate 8 0) (in_rooms 1 1) 0 0 (layer [] 0)) (buffers (replicate 108 9) (replicate 32 9) []))).told

pub nought-told : (told-at-nought.refusal.number ≡ 7) × (told-at-nought.expansions ≡ 1) × (told-at-nought.limit ≡ 0)
unfolding search_in has_rooms word number ordered search_of packed raw_of
nought-told = (refl, refl, refl)

abbrev document-place : Coord
document-place = at (pos 1) (negsuc 0) (pos 1)

pub document-cell : fields_told (take 16 (new_told 0 3 document-place 28 165 (replicate 16 0)).out) ≡ fields_given 0 3 document-place 12 165
unfolding new_told new_of packed parity_of is_lattice_point cell_bytes bytes_of low_digits fields_told from_bytes_of cell_at word number ordered
document-cell = refl

pub document-cell-made : (new_told 0 3 document-place 28 165 (replicate 16 0)).told ≡ answered
unfolding new_told new_of packed parity_of is_lattice_point cell_bytes bytes_of low_digits ordered
document-cell-made = refl

-- its label, "cx3d1qqqqqq0lllll7qqqqqqs5hqrqq75s4gn", and a byte behind it
abbrev document-label : List ℕ
document-label = 99 ∷ 120 ∷ 51 ∷ 100 ∷ 49 ∷ 113 ∷ 113 ∷ 113 ∷ 113 ∷ 113 ∷ 113 ∷ 48 ∷ 108 ∷ 108 ∷ 108 ∷ 108 ∷ 108 ∷ 55 ∷ 113 ∷ 113 ∷ 113 ∷ 113 ∷ 113 ∷ 113 ∷ 115 ∷ 53 ∷ 104 ∷ 113 ∷ 114 ∷ 113 ∷ 113 ∷ 55 ∷ 53 ∷ 115 ∷ 52 ∷ 103 ∷ 110 ∷ 9 ∷ []

pub document-label-told : label_told (take 16 (new_told 0 3 document-place 28 165 (replicate 16 0)).out) (replicate 38 9) ≡ filled answered document-label
unfolding new_told new_of packed parity_of is_lattice_point cell_bytes bytes_of low_digits label_told from_bytes_of cell_at word number ordered label_of data_of raw_of digits created sum_from step
document-label-told = refl

-- the label is read, and the byte behind the cell stays
pub document-label-read : cell_told (take 37 document-label) (replicate 17 9) ≡ place_filled no_mistake (new_told 0 3 document-place 28 165 (replicate 17 9)).out
unfolding new_told new_of packed parity_of is_lattice_point cell_bytes bytes_of low_digits ordered cell_told read_of unlike_from mixed_at unknown_at read_values bits_in number_from value_of index_of first_from sum_from step
document-label-read = refl

-- with a b at place 20, which no label has
pub document-label-mistyped : cell_told (take 20 document-label ++ 98 ∷ take 16 (drop 21 document-label)) (replicate 16 9) ≡ place_filled (record { refusal = telling 32 0 no_coord; place = 20 }) (replicate 16 9)
unfolding cell_told read_of unlike_from mixed_at unknown_at value_of index_of first_from
document-label-mistyped = refl

-- the parent of (3, 3, 1) is told as (1, 1, 1), and (3, 3, 1) is the sixth place that is listed for it
pub sixth-listed : (of_coord (parent_of (at (pos 3) (pos 3) (pos 1))) ≡ of_coord (Ok (at (pos 1) (pos 1) (pos 1))))
    × (take 3 (drop 15 (children_told (at (pos 1) (pos 1) (pos 1)) (replicate 24 (pos 0))).out) ≡ pos 3 ∷ pos 3 ∷ pos 1 ∷ [])
unfolding children_told children_of parent_of parity_of is_lattice_point has_child_room child_places child_steps flat_map
sixth-listed = (refl, refl)

-- a file of two flag records, of cells whose bytes are all these
abbrev two-flags : ℕ → ℕ → List ℕ
two-flags first second = 0 ∷ 1 ∷ 0 ∷ 2 ∷ 0 ∷ 0 ∷ 0 ∷ 0 ∷ 0 ∷ 0 ∷ 0 ∷ 16 ∷ 0 ∷ 0 ∷ 0 ∷ 56 ∷ (replicate 16 first ++ (0 ∷ 0 ∷ 0 ∷ 1 ∷ (replicate 16 second ++ (0 ∷ 0 ∷ 0 ∷ 2 ∷ []))))

-- twice the same cell: 12 is told, the place of the second record, and the counts that were given; both tables stay
pub one-cell-twice-told :
    of_loading 1 1 (load_of (two-flags 7 7) (replicate 40 9) (replicate 24 9))
    ≡ loading_told (record { refusal = telling 12 0 no_coord; place = 36; flags = 1; values = 1 }) (replicate 40 9) (replicate 24 9)
unfolding load_of accepted_of header_of flag_rows value_rows records_in rows_of rows_from row_at ascending first_fall raw_of cell_at word number ordered
one-cell-twice-told = refl

-- two cells, loaded and written into an output of one byte more: the very file
pub two-cells-written-back :
    saying of_write (write_of (load_of (two-flags 6 7) (replicate 41 9) (replicate 24 9)).flags 2 (load_of (two-flags 6 7) (replicate 41 9) (replicate 24 9)).values 0 (replicate 57 9))
    ≡ changed (record { refusal = answered; length = 56 }) (two-flags 6 7 ++ (9 ∷ []))
unfolding load_of accepted_of header_of flag_rows value_rows records_in rows_of rows_from row_at ascending raw_of cell_at cell_bytes row_bytes bytes_of low_digits refilled write_of is_sound file_of header_bytes flat_map word number ordered
two-cells-written-back = refl
