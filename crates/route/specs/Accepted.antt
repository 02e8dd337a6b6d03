-- What an accepted route is, in words of the domain and apart from the checker's own definition: demand 3, of cells and of the bytes that a call is handed. Definitions only.
use Rattle.std.specs.Prelude.{◌≡◌, true, false, ℕ, ◌%◌, ◌<◌, pos, Float, length, Ok}
use mathlib.Core.List.{List, [], ◌∷◌, Memᴰ}
use Rattle.std.specs.Float.{fin, binary64}
use Rattle.std.specs.Float.Ieee.{add, to_bits}
use Rattle.refusal.specs.declared.Cell.{Cell}
use Rattle.lattice.specs.Lattice.{is_lattice_point, neighbor_places}
use Rattle.distance.specs.Distance.{distance_of}
use Rattle.cell.specs.Cell.{frame_of, resolution_of, coord_of, is_plain}
use Rattle.cell.specs.Bytes.{cell_at, cell_width}
use Rattle.cell.specs.Lists.{cells_of}
use Rattle.table.specs.Records.{Row, held, held_of, rows_of, is_sound, flag_width, Layer}
use Rattle.route.specs.Route.{Claim}

-- a step goes from a cell of one parity to a plain cell of the same frame and resolution that stands at one of the 14 places around it
pub record Step (a b : Cell) : Type 0 where
  pub one-parity : is_lattice_point (coord_of a) ≡ true
  pub near : Memᴰ (coord_of b) (neighbor_places (coord_of a))
  pub plain : is_plain b ≡ true
  pub same-frame : frame_of b ≡ frame_of a
  pub same-resolution : resolution_of b ≡ resolution_of a

-- a cell is blocked in a layer where the flags that are kept of it have bit 0
pub record Blocked (rows : List Row) (c : Cell) : Type 0 where
  pub flags : ℕ
  pub kept : held_of c rows ≡ held flags
  pub bit-zero : flags % 2 ≡ 1

-- a route of one cell, or a route that begins with a step; each step adds its distance to what was paid so far, rounded once
pub data Leads (avoiding : Type 0) (rows : List Row) : Cell → Float → List Cell → Cell → Float → Type 0 where
  here : {a : Cell} {s : Float} → Leads avoiding rows a s [] a s
  onward : {a b goal : Cell} {s stretch total : Float} {cells : List Cell} → Step a b → (avoiding → Blocked rows b → ⊥) → distance_of (coord_of a) (coord_of b) ≡ Ok stretch
      → Leads avoiding rows b (add binary64 s stretch) cells goal total → Leads avoiding rows a s (b ∷ cells) goal total

-- a list that begins at the start and leads to the goal, and whose claimed bits are those of its cost from 0.0
pub record Accepted (avoiding : Type 0) (rows : List Row) (start goal : Cell) (cost : ℕ) (cells : List Cell) : Type 0 where
  pub later : List Cell
  pub begins : cells ≡ start ∷ later
  pub total : Float
  pub leads : Leads avoiding rows start (fin false 0 (pos 0)) later goal total
  pub claimed : to_bits binary64 total ≡ cost

-- demand 3 of bytes: whole cells from one start to one goal, a sound layer, a rule that there is, and an accepted route in that layer
pub record Demand3 (c : Claim) (flags : Layer) (rule : ℕ) : Type 0 where
  pub whole_cells : length c.cells % cell_width ≡ 0
  pub one-start : length c.start ≡ cell_width
  pub one-goal : length c.goal ≡ cell_width
  pub sound : is_sound flag_width flags.table flags.count ≡ true
  pub free-or-avoiding : rule < 2
  pub accepted : Accepted (rule ≡ 1) (rows_of flag_width flags.table flags.count) (cell_at c.start 0) (cell_at c.goal 0) c.cost (cells_of c.cells)
