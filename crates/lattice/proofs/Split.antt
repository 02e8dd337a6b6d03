-- What the lattice's calls answer by the parities and the rooms that were tested, with that answer as an argument: a proof goes by its cases. Definitions only.
use Rattle.std.specs.Prelude.{List, ℤ, Result, Ok, Err}
use Rattle.lattice.specs.declared.Parity.{Parity}
use Rattle.refusal.specs.declared.Refusal.{Refusal}
use mathlib.Core.Bool.{Bool}
use Prim.Native.Nat.{ℕ}
use lib.Dec.{leb}
use lib.IntN.{pos}
use Rattle.refusal.specs.declared.Coord.{Coord}
use Rattle.refusal.specs.declared.Refusal.TheVariants.{CoordOverflow}
use Rattle.general.specs.Refuse.{refuse_unless}
use Rattle.lattice.specs.Lattice.{neighbor_places, has_neighbor_room, child_places, has_child_room, halves, on_parity, on_parities, parent_as}

abbrev pub neighbors_in : Bool → Coord → Result (List Coord) Refusal
neighbors_in room c = refuse_unless room (Err CoordOverflow) (Ok (neighbor_places c))

abbrev pub neighbors_by : Result Parity Refusal → Coord → Result (List Coord) Refusal
neighbors_by a c = on_parity Err (λ p. neighbors_in (has_neighbor_room c) c) a

abbrev pub children_in : Bool → Coord → Result (List Coord) Refusal
children_in room c = refuse_unless room (Err CoordOverflow) (Ok (child_places c))

abbrev pub children_by : Result Parity Refusal → Coord → Result (List Coord) Refusal
children_by a c = on_parity Err (λ p. children_in (has_child_room c) c) a

abbrev pub parent_by : Result Parity Refusal → Coord → Result Coord Refusal
parent_by a c = on_parity Err (λ p. Ok (parent_as p (halves c))) a

abbrev pub manhattan_by : Result Parity Refusal → Result Parity Refusal → ℕ → Result ℤ Refusal
manhattan_by a b n = on_parities Err (λ p q. refuse_unless (leb n 2147483647) (Err CoordOverflow) (Ok (pos n))) a b
