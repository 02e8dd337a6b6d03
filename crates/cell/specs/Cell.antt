-- "Cell and lattice" of the scope document, as far as it speaks of packed cells: the bits, `new`, the plain cell, neighbours, parent, children, ancestor, `cell_between`
-- and the order. A cell is two words, `high` and `low`; what the coordinates do is `lattice`'s. Definitions only.
use Rattle.std.specs.declared.cmp.Ordering.{Ordering}
use Rattle.std.specs.declared.cmp.Ordering.TheVariants.{Less, Equal, Greater}
use Rattle.std.specs.Prelude.{Bool, true, false, cond, ◌&&◌, List, map, ℕ, zero, suc, ◌+◌, ◌-◌, ◌*◌, ◌/◌, ◌%◌, eqb, ltb, leb, ℤ, Float, Result, Ok, Err}
use Rattle.std.specs.Int.{w32}
use Rattle.std.proofs.Common.{to_z, of_z}
use Rattle.refusal.specs.declared.Coord.{Coord}
use Rattle.refusal.specs.declared.Cell.{Cell}
use Rattle.refusal.specs.declared.Refusal.{Refusal}
use Rattle.refusal.specs.declared.Refusal.TheVariants.{NoParent, NoChildren, CoordOverflow}
use Rattle.refusal.specs.Refusals.{raw_of}
use Rattle.lattice.specs.declared.Parity.{Parity}
use Rattle.lattice.specs.declared.Parity.TheVariants.{Even, Odd}
use Rattle.lattice.specs.Lattice as lattice
use Rattle.lattice.specs.Lattice.{at, parity_of, neighbor_places, child_places, has_neighbor_room, has_child_room, manhattan, manhattan_of, on_parity, on_parities, spread, most_number}
use Rattle.distance.specs.Distance.{distance_of}
use Rattle.general.specs.Refuse.{refuse_if, refuse_unless}

-- ---- the bits: frame 0-7, resolution 8-15, exponent 16-19, flags 20-27, reserved 28-31, x 32-63, y 64-95, z 96-127

-- bits 0-7
abbrev pub frame_of : Cell → ℕ
frame_of c = c.low % 256

-- bits 8-15
abbrev pub resolution_of : Cell → ℕ
resolution_of c = c.low / 256 % 256

-- bits 16-19
abbrev pub exponent_of : Cell → ℕ
exponent_of c = c.low / 65536 % 16

-- bits 20-27
abbrev pub flags_of : Cell → ℕ
flags_of c = c.low / 1048576 % 256

-- bits 28-31
abbrev pub reserved_of : Cell → ℕ
reserved_of c = c.low / 268435456 % 16

-- bits 32-63, in two's complement
abbrev pub x_of : Cell → ℤ
x_of c = to_z w32 (c.low / 4294967296)

-- bits 64-95, in two's complement
abbrev pub y_of : Cell → ℤ
y_of c = to_z w32 (c.high % 4294967296)

-- bits 96-127, in two's complement
abbrev pub z_of : Cell → ℤ
z_of c = to_z w32 (c.high / 4294967296)

-- a cell's place, whether it is a lattice point or not
unfoldable pub coord_of : Cell → Coord
coord_of c = at (x_of c) (y_of c) (z_of c)

-- the cell of these fields: "keeps exponent mod 16, clears reserved"
unfoldable pub packed : ℕ → ℕ → Coord → ℕ → ℕ → Cell
packed frame resolution c exponent flags =
    record {
      high = of_z w32 c.z * 4294967296 + of_z w32 c.y;
      low = (((of_z w32 c.x * 16 * 256 + flags) * 16 + exponent % 16) * 256 + resolution) * 256 + frame;
    }

-- "refuses mixed parity"
unfoldable pub new_of : ℕ → ℕ → Coord → ℕ → ℕ → Result Cell Refusal
unfolding parity_of packed
new_of frame resolution c exponent flags = on_parity Err (λ p. Ok (packed frame resolution c exponent flags)) (parity_of c)

-- ---- plain cells: "exponent, flags and reserved zero"

-- "A *plain* cell has exponent, flags and reserved zero"
unfoldable pub is_plain : Cell → Bool
is_plain c = eqb (exponent_of c) 0 && (eqb (flags_of c) 0 && eqb (reserved_of c) 0)

-- the plain cell at a place
abbrev pub plain_at : ℕ → ℕ → Coord → Cell
plain_at frame resolution c = packed frame resolution c 0 0

-- a cell's plain twin: the same frame, resolution and place
unfoldable pub plain_twin : Cell → Cell
unfolding coord_of packed
plain_twin c = plain_at (frame_of c) (resolution_of c) (coord_of c)

-- a cell's place where it is a lattice point, else the refusal of its parity
unfoldable pub lattice_coord_of : Cell → Result Coord Refusal
unfolding coord_of parity_of
lattice_coord_of c = on_parity Err (λ p. Ok (coord_of c)) (parity_of (coord_of c))

-- ---- order and equality, over all 128 bits

-- the same in all 128 bits
abbrev pub same_cell : Cell → Cell → Bool
same_cell a b = eqb (raw_of a) (raw_of b)

-- the lesser as a number of 128 bits
abbrev pub less_cell : Cell → Cell → Bool
less_cell a b = ltb (raw_of a) (raw_of b)

-- below, the same or above
unfoldable pub order_of : Cell → Cell → Ordering
unfolding raw_of
order_of a b = cond (less_cell a b) Less (cond (same_cell a b) Equal Greater)

-- ---- neighbours: "14 cells at once, plain, same frame and resolution. Parity first, then CoordOverflow"

-- the plain cells of the same frame and resolution at the neighbouring places
unfoldable pub near_cells : Cell → List Cell
unfolding coord_of neighbor_places packed
near_cells c = map (plain_at (frame_of c) (resolution_of c)) (neighbor_places (coord_of c))

-- a cell's 14 neighbours, or the refusal
unfoldable pub neighbors_of : Cell → Result (List Cell) Refusal
unfolding coord_of parity_of has_neighbor_room near_cells
neighbors_of c = spread Err (coord_of c) (has_neighbor_room (coord_of c)) (Ok (near_cells c))

-- ---- children: "255 is NoChildren, then parity, then CoordOverflow [...] Always 8"

-- the plain cells of the same frame, one resolution finer, at the child places
unfoldable pub child_cells : Cell → List Cell
unfolding coord_of child_places packed
child_cells c = map (plain_at (frame_of c) (resolution_of c + 1)) (child_places (coord_of c))

-- a cell's 8 children, or the refusal
unfoldable pub children_of : Cell → Result (List Cell) Refusal
unfolding coord_of parity_of has_child_room child_cells
children_of c =
    refuse_if (eqb (resolution_of c) 255) (Err NoChildren)
    (spread Err (coord_of c) (has_child_room (coord_of c)) (Ok (child_cells c)))

-- ---- parent: "resolution 0 is NoParent, then parity. It never overflows"

-- the plain cell of the same frame, one resolution coarser, at the parent's place, if that was found
abbrev pub parent_at : Result Coord Refusal → Cell → Result Cell Refusal
parent_at (Err r) c = Err r
parent_at (Ok p) c = Ok (plain_at (frame_of c) (resolution_of c - 1) p)

-- a cell's parent, or the refusal
unfoldable pub parent_of : Cell → Result Cell Refusal
unfolding coord_of lattice.parent_of packed
parent_of c = refuse_if (eqb (resolution_of c) 0) (Err NoParent) (parent_at (lattice.parent_of (coord_of c)) c)

-- ---- ancestor: "target finer than the cell is NoParent; the cell's own resolution gives the cell unchanged; else parity, then parents"

-- the parent of the parent, so often
unfoldable pub climbed : ℕ → Result Cell Refusal → Result Cell Refusal
unfolding parent_of
climbed zero a = a
climbed (suc k) (Err r) = Err r
climbed (suc k) (Ok c) = climbed k (parent_of c)

-- a cell's ancestor at the target's resolution, or the refusal
unfoldable pub ancestor_of : Cell → ℕ → Result Cell Refusal
unfolding climbed
ancestor_of c target = refuse_if (ltb (resolution_of c) target) (Err NoParent) (climbed (resolution_of c - target) (Ok c))

-- ---- cell_between: "nothing when resolutions differ; parity of self, then other; nothing when parities differ; CoordOverflow as for Manhattan; else nothing"

-- two points of one parity
abbrev pub alike : Parity → Parity → Bool
alike Even Even = true
alike Odd Odd = true
alike Even Odd = false
alike Odd Even = false

-- nothing or a refusal: "It never finds a cell"
unfoldable pub between_of : Cell → Cell → Result (Unit {0}) Refusal
unfolding coord_of parity_of manhattan
between_of a b =
    refuse_unless (eqb (resolution_of a) (resolution_of b)) (Ok tt)
    (on_parities Err
    (λ p q. refuse_unless (alike p q) (Ok tt)
    (refuse_unless (leb (manhattan (coord_of b) (coord_of a)) most_number) (Err CoordOverflow)
    (Ok tt)))
    (parity_of (coord_of a)) (parity_of (coord_of b)))

-- ---- distances: those of the coordinates

-- the Manhattan distance of two cells' places
abbrev pub manhattan_cells : Cell → Cell → Result ℤ Refusal
manhattan_cells a b = manhattan_of (coord_of a) (coord_of b)

-- the distance of two cells' places
abbrev pub distance_cells : Cell → Cell → Result Float Refusal
distance_cells a b = distance_of (coord_of a) (coord_of b)
