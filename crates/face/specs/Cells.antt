-- The calls of the C face on cells: each takes a cell as its 16 bytes, refuses another length by BadList, and is then the definition of `cell`, told to C.
-- Definitions only.
use Rattle.std.specs.declared.cmp.Ordering.{Ordering}
use Rattle.std.specs.declared.cmp.Ordering.TheVariants.{Less, Equal, Greater}
use Rattle.std.specs.Prelude.{cond, ℕ, ℤ, pos, negsuc, Result, Ok, Err}
use mathlib.Core.List.{List, flat_map}
use Rattle.refusal.specs.declared.Coord.{Coord}
use Rattle.refusal.specs.declared.Cell.{Cell}
use Rattle.refusal.specs.declared.Refusal.{Refusal}
use Rattle.cell.specs.Cell.{frame_of, resolution_of, exponent_of, flags_of, reserved_of, x_of, y_of, z_of, coord_of, lattice_coord_of, new_of, is_plain, order_of, neighbors_of, children_of, parent_of, ancestor_of, between_of, manhattan_cells, distance_cells}
use Rattle.cell.specs.Bytes.{cell_bytes, from_bytes_of, on_cell, on_cells}
use Rattle.distance.specs.Distance.{distance_of}
use Rattle.face.specs.declared.RefusalTold.{RefusalTold}
use Rattle.face.specs.declared.NumberTold.{NumberTold}
use Rattle.face.specs.declared.BitsTold.{BitsTold}
use Rattle.face.specs.declared.CoordTold.{CoordTold}
use Rattle.face.specs.declared.FieldsTold.{FieldsTold}
use Rattle.face.specs.Told.{Filled, filled, fill_by, answered, told_of, number_told, no_number, of_number, no_bits, of_distance, of_coord}

-- ---- cells into a lent buffer

-- the bytes of each cell in turn
abbrev pub cells_bytes : List Cell → List ℕ
cells_bytes cs = flat_map cell_bytes cs

-- a refusal leaves the buffer as it was
abbrev pub unfilled : List ℕ → Refusal → Filled ℕ
unfilled out r = filled (told_of r) out

-- an answered cell's bytes at the front of a buffer
abbrev pub fill_cell : List ℕ → Result Cell Refusal → Filled ℕ
fill_cell out a = fill_by cell_bytes a out

-- a new cell of these fields, into a buffer
unfoldable pub new_told : ℕ → ℕ → Coord → ℕ → ℕ → List ℕ → Filled ℕ
unfolding new_of cell_bytes
new_told frame resolution c exponent flags out = fill_cell out (new_of frame resolution c exponent flags)

-- the 14 neighbours of a cell, into a buffer
unfoldable pub neighbors_told : List ℕ → List ℕ → Filled ℕ
unfolding from_bytes_of neighbors_of flat_map cell_bytes
neighbors_told cell out = on_cell (unfilled out) (λ c. fill_by cells_bytes (neighbors_of c) out) cell

-- the 8 children of a cell, into a buffer
unfoldable pub children_told : List ℕ → List ℕ → Filled ℕ
unfolding from_bytes_of children_of flat_map cell_bytes
children_told cell out = on_cell (unfilled out) (λ c. fill_by cells_bytes (children_of c) out) cell

-- the parent of a cell, into a buffer
unfoldable pub parent_told : List ℕ → List ℕ → Filled ℕ
unfolding from_bytes_of parent_of cell_bytes
parent_told cell out = on_cell (unfilled out) (λ c. fill_cell out (parent_of c)) cell

-- the ancestor of a cell, into a buffer
unfoldable pub ancestor_told : List ℕ → ℕ → List ℕ → Filled ℕ
unfolding from_bytes_of ancestor_of cell_bytes
ancestor_told cell target out = on_cell (unfilled out) (λ c. fill_cell out (ancestor_of c target)) cell

-- ---- what is read off a cell

-- refused: every field is zero
abbrev pub no_fields : Refusal → FieldsTold
no_fields r = record { refusal = told_of r; frame = 0; resolution = 0; exponent = 0; flags = 0; reserved = 0; x = pos 0; y = pos 0; z = pos 0 }

-- all fields of a cell
abbrev pub fields_of : Cell → FieldsTold
fields_of c =
    record {
      refusal = answered;
      frame = frame_of c;
      resolution = resolution_of c;
      exponent = exponent_of c;
      flags = flags_of c;
      reserved = reserved_of c;
      x = x_of c;
      y = y_of c;
      z = z_of c;
    }

-- the fields of a cell's bytes
unfoldable pub fields_told : List ℕ → FieldsTold
unfolding from_bytes_of
fields_told cell = on_cell no_fields fields_of cell

-- a cell's place where it is a lattice point
unfoldable pub lattice_coord_told : List ℕ → CoordTold
unfolding from_bytes_of lattice_coord_of
lattice_coord_told cell = on_cell (λ r. of_coord (Err r)) (λ c. of_coord (lattice_coord_of c)) cell

-- whether a cell is plain: 1 for true, 0 for false
unfoldable pub is_plain_told : List ℕ → NumberTold
unfolding from_bytes_of is_plain
is_plain_told cell = on_cell no_number (λ c. number_told (cond (is_plain c) (pos 1) (pos 0))) cell

-- ---- two cells

-- below -1, the same 0, above 1
abbrev pub order_number : Ordering → ℤ
order_number Less = negsuc 0
order_number Equal = pos 0
order_number Greater = pos 1

-- how the first cell stands to the second
unfoldable pub compare_told : List ℕ → List ℕ → NumberTold
unfolding from_bytes_of order_of
compare_told first second = on_cells no_number (λ a b. number_told (order_number (order_of a b))) first second

-- where `cell_between` says nothing, C is told of no refusal
abbrev pub of_between : Result (Unit {0}) Refusal → RefusalTold
of_between (Ok tt) = answered
of_between (Err r) = told_of r

-- what `cell_between` says of two cells
unfoldable pub between_told : List ℕ → List ℕ → RefusalTold
unfolding from_bytes_of between_of
between_told first second = on_cells told_of (λ a b. of_between (between_of a b)) first second

-- the distance of two cells, by its bits
unfoldable pub distance_told : List ℕ → List ℕ → BitsTold
unfolding from_bytes_of coord_of distance_of
distance_told first second = on_cells no_bits (λ a b. of_distance (distance_cells a b)) first second

-- the Manhattan distance of two cells
unfoldable pub manhattan_told : List ℕ → List ℕ → NumberTold
unfolding from_bytes_of
manhattan_told first second = on_cells no_number (λ a b. of_number (manhattan_cells a b)) first second
