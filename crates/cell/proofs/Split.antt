-- What the calls on a cell answer by the parities and the rooms that were tested, with that answer as an argument: a proof goes by its cases. Definitions only.
use Rattle.std.specs.Prelude.{List, Result, Ok, Err}
use Rattle.lattice.specs.declared.Parity.{Parity}
use Rattle.refusal.specs.declared.Refusal.{Refusal}
use mathlib.Core.Bool.{Bool, cond}
use Prim.Native.Nat.{ℕ}
use lib.Dec.{leb}
use Rattle.refusal.specs.declared.Coord.{Coord}
use Rattle.refusal.specs.declared.Cell.{Cell}
use Rattle.refusal.specs.declared.Refusal.TheVariants.{CoordOverflow}
use Rattle.lattice.specs.Lattice.{has_neighbor_room, has_child_room, on_parity, on_parities}
use Rattle.general.specs.Refuse.{refuse_unless}
use Rattle.cell.specs.Cell.{coord_of, near_cells, child_cells, alike}

abbrev pub new_by : Result Parity Refusal → Cell → Result Cell Refusal
new_by a c = on_parity Err (λ p. Ok c) a

-- a cell's coordinates, tested
abbrev pub coord_by : Result Parity Refusal → Coord → Result Coord Refusal
coord_by a c = on_parity Err (λ p. Ok c) a

abbrev pub neighbors_in : Bool → Cell → Result (List Cell) Refusal
neighbors_in room c = refuse_unless room (Err CoordOverflow) (Ok (near_cells c))

abbrev pub neighbors_by : Result Parity Refusal → Cell → Result (List Cell) Refusal
neighbors_by a c = on_parity Err (λ p. neighbors_in (has_neighbor_room (coord_of c)) c) a

abbrev pub children_in : Bool → Cell → Result (List Cell) Refusal
children_in room c = refuse_unless room (Err CoordOverflow) (Ok (child_cells c))

abbrev pub children_by : Result Parity Refusal → Cell → Result (List Cell) Refusal
children_by a c = on_parity Err (λ p. children_in (has_child_room (coord_of c)) c) a

abbrev pub between_by : Result Parity Refusal → Result Parity Refusal → ℕ → Result (Unit {0}) Refusal
between_by a b n = on_parities Err (λ p q. cond (alike p q) (refuse_unless (leb n 2147483647) (Err CoordOverflow) (Ok tt)) (Ok tt)) a b
