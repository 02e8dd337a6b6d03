-- What is shown in this crate beside the contracts of src/: the theorems that docs/PROMISES.md names, in words of specs/. The law behind each is the one that its proof names.
use Rattle.std.specs.Prelude.{Ok, Err}
use mathlib.Core.Path.{◌≡◌}
use mathlib.Core.List.{List, Memᴰ}
use mathlib.Core.Bool.{true, false}
use mathlib.Core.Logic.{◌↔◌}
use Prim.Native.Nat.{ℕ, ◌<◌}
use lib.ListN.{length}
use Rattle.refusal.specs.declared.Cell.{Cell}
use Rattle.refusal.specs.declared.Coord.{Coord}
use Rattle.refusal.specs.declared.Refusal.TheVariants.{InvalidParity}
use Rattle.words.specs.Word.{Bytes}
use Rattle.lattice.specs.Lattice.{Fitting, parity_of, has_neighbor_room, is_lattice_point, manhattan}
use Rattle.lattice.specs.Middle.{middle}
use Rattle.lattice.specs.declared.Parity.{Parity}
use Rattle.cell.specs.Bytes.{cell_bytes, from_bytes_of, cell_at, bytes_less, cell_width}
use Rattle.cell.specs.Cell.{packed, frame_of, resolution_of, exponent_of, flags_of, reserved_of, coord_of, new_of, less_cell, same_cell, is_plain, plain_twin, near_cells, child_cells, parent_of, children_of, ancestor_of, between_of}
use Rattle.cell.specs.Terms.{ReadsBack, Words, Standing, HasChildren, Found, both_between}
use Rattle.cell.proofs as laws

-- Fields that are packed into a cell are read back from it, the exponent modulo 16, and nothing is reserved.
pub fields-packed :
    (frame resolution : ℕ) (c : Coord) (exponent flags : ℕ) → frame < 256 → resolution < 256 → flags < 256 → Fitting c
    → ReadsBack frame resolution c exponent flags (packed frame resolution c exponent flags)
fields-packed = laws.Laws.fields-packed

-- A cell with nothing reserved is the cell that its own fields pack.
pub packed-fields : (c : Cell) → Words c → reserved_of c ≡ 0 → packed (frame_of c) (resolution_of c) (coord_of c) (exponent_of c) (flags_of c) ≡ c
packed-fields = laws.Laws.packed-fields

-- Where a cell has nothing reserved and its place is a lattice point, `new` makes that cell again from its fields.
pub new-fields :
    (c : Cell) (p : Parity) → Words c → reserved_of c ≡ 0 → parity_of (coord_of c) ≡ Ok p
    → new_of (frame_of c) (resolution_of c) (coord_of c) (exponent_of c) (flags_of c) ≡ Ok c
new-fields = laws.Laws.new-fields

-- The cell that `new` answers has the fields that it was given, the exponent modulo 16, and nothing reserved.
pub new-reads-back :
    (frame resolution : ℕ) (c : Coord) (exponent flags : ℕ) (k : Cell) → frame < 256 → resolution < 256 → flags < 256 → Fitting c
    → new_of frame resolution c exponent flags ≡ Ok k → ReadsBack frame resolution c exponent flags k
new-reads-back = laws.Laws.new-reads-back

-- A cell's 16 bytes are read as that cell.
pub bytes-read-back : (c : Cell) → Words c → from_bytes_of (cell_bytes c) ≡ Ok c
bytes-read-back = laws.BytesLaws.bytes-read-back

-- 16 bytes that are read as a cell are the bytes of that cell.
pub read-bytes-back : (l : List ℕ) → length l ≡ cell_width → Bytes l → cell_bytes (cell_at l 0) ≡ l
read-bytes-back = laws.BytesLaws.read-bytes-back

-- Cells are ordered as their 16 bytes are, lexicographically.
pub order-bytes : (l m : List ℕ) → length l ≡ cell_width → length m ≡ cell_width → Bytes l → Bytes m → less_cell (cell_at l 0) (cell_at m 0) ≡ bytes_less l m
order-bytes = laws.BytesLaws.order-bytes

-- Cells with the same 128 bits are the same cell.
pub same-cell : (a b : Cell) → Words a → Words b → same_cell a b ≡ true → a ≡ b
same-cell = laws.Laws.same-cell

-- Two cells stand to each other in exactly one way: the first is below the second, or they are the same, or it is above.
pub less-total : (a b : Cell) → Words a → Words b → Standing a b
less-total = laws.Laws.less-total

-- A plain cell is its own plain twin.
pub plain-twin : (c : Cell) → Words c → is_plain c ≡ true → plain_twin c ≡ c
plain-twin = laws.Laws.plain-twin

-- Of two plain cells with room for neighbours, each is a neighbour of the other or neither is.
pub neighborhood :
    (c n : Cell) → Words c → Words n → is_plain c ≡ true → is_plain n ≡ true → has_neighbor_room (coord_of c) ≡ true → has_neighbor_room (coord_of n) ≡ true
    → Memᴰ n (near_cells c) ↔ Memᴰ c (near_cells n)
neighborhood = laws.Laws.neighborhood

-- The parent of each child is the plain twin of the cell that has these children.
pub child-parent : (c k : Cell) → HasChildren c → Memᴰ k (child_cells c) → parent_of k ≡ Ok (plain_twin c)
child-parent = laws.Laws.child-parent

-- The parent of each child of a plain cell is the cell itself.
pub plain-child-parent : (c k : Cell) → Words c → is_plain c ≡ true → HasChildren c → Memᴰ k (child_cells c) → parent_of k ≡ Ok c
plain-child-parent = laws.Laws.plain-child-parent

-- The parent of each child that is answered is the plain twin of the cell that was asked about.
pub answered-child-parent : (c k : Cell) (l : List Cell) → children_of c ≡ Ok l → Memᴰ k l → parent_of k ≡ Ok (plain_twin c)
answered-child-parent = laws.Laws.answered-child-parent

-- "else parity, then parents": for a coarser target, a cell at no lattice point is refused for its parity, and one at a lattice point is answered with a plain cell of its frame
-- and of the target's resolution, at a lattice point.
pub ancestor-parity :
    (c : Cell) (target : ℕ) → Words c → target < resolution_of c
    → (is_lattice_point (coord_of c) ≡ false → ancestor_of c target ≡ Err (InvalidParity (coord_of c)))
    × (is_lattice_point (coord_of c) ≡ true → Found (frame_of c) target (ancestor_of c target))
ancestor-parity = laws.Ancestors.ancestor-parity

-- Half way between two cells of one parity at Manhattan distance 2 there is no lattice point, which is why `cell_between` never finds a cell.
pub between-is-mixed :
    (a b : Cell) (p : Parity) → parity_of (coord_of a) ≡ Ok p → parity_of (coord_of b) ≡ Ok p → manhattan (coord_of a) (coord_of b) ≡ 2
    → is_lattice_point (middle (coord_of a) (coord_of b)) ≡ false
between-is-mixed = laws.Laws.between-is-mixed

-- Document 01's tests one by one give the same answer about `cell_between` as the calls' definition, which tests the sum alone.
pub both-between : (a b : Cell) → both_between a b ≡ between_of a b
both-between = laws.Differences.both-between
