-- What theorems say of cells: two words, fields that read back, children, the order, plain cells at lattice points, and `cell_between` with document 01's tests one by one.
-- Definitions only.
use Rattle.lattice.specs.declared.Parity.{Parity}
use Rattle.refusal.specs.declared.Refusal.{Refusal}
use Rattle.std.specs.Prelude.{Bool, cond, true, false, ◌≡◌, ℕ, ◌%◌, ◌^◌, ◌<◌, eqb, leb, Result, Ok, Err}
use Rattle.refusal.specs.declared.Cell.{Cell}
use Rattle.refusal.specs.declared.Refusal.TheVariants.{CoordOverflow}
use Rattle.refusal.specs.declared.Coord.{Coord}
use Rattle.lattice.specs.Lattice.{parity_of, manhattan, is_lattice_point, has_child_room, most_number}
use Rattle.distance.specs.Distance.{differences_fit}
use Rattle.cell.specs.Cell.{resolution_of, coord_of, alike, frame_of, exponent_of, flags_of, reserved_of, less_cell, is_plain}

-- the tests after the resolutions, in document 01's order: the parities, whether they are one, then each difference, then the sum
abbrev pub both_between_by : Result Parity Refusal → Result Parity Refusal → Bool → ℕ → Result (Unit {0}) Refusal
both_between_by (Err r) q fits n = Err r
both_between_by (Ok p) (Err r) fits n = Err r
both_between_by (Ok p) (Ok q) fits n =
    cond (alike p q) (cond fits (cond (leb n most_number) (Ok tt) (Err CoordOverflow)) (Err CoordOverflow)) (Ok tt)

-- what `cell_between` answers by document 01's tests, the resolutions first
abbrev pub both_between : Cell → Cell → Result (Unit {0}) Refusal
both_between a b =
    cond (eqb (resolution_of a) (resolution_of b))
    (both_between_by (parity_of (coord_of a)) (parity_of (coord_of b)) (differences_fit (coord_of b) (coord_of a)) (manhattan (coord_of b) (coord_of a)))
    (Ok tt)

-- a cell as the code holds it: two words of 64 bits; other crates' theorems about cells begin with it
pub record Words (c : Cell) : Type 0 where
  pub high_word : c.high < 2 ^ 64
  pub low-word : c.low < 2 ^ 64

-- a cell whose fields are these, with the exponent modulo 16 and nothing reserved
pub record ReadsBack (frame resolution : ℕ) (c : Coord) (exponent flags : ℕ) (k : Cell) : Type 0 where
  pub frame_back : frame_of k ≡ frame
  pub resolution-back : resolution_of k ≡ resolution
  pub coord-back : coord_of k ≡ c
  pub exponent-back : exponent_of k ≡ exponent % 16
  pub flags-back : flags_of k ≡ flags
  pub reserved-back : reserved_of k ≡ 0
  pub words : Words k

-- a cell that has children: it is not of the finest resolution, its place is a lattice point, and there is room
pub record HasChildren (c : Cell) : Type 0 where
  pub coarser : resolution_of c < 255
  pub point : is_lattice_point (coord_of c) ≡ true
  pub room : has_child_room (coord_of c) ≡ true

-- how two cells stand to each other: one way, and not the other two
pub data Standing (a b : Cell) : Type 0 where
  is_below : less_cell a b ≡ true → (a ≡ b → ⊥) → less_cell b a ≡ false → Standing a b
  is-equal : less_cell a b ≡ false → a ≡ b → less_cell b a ≡ false → Standing a b
  is-above : less_cell a b ≡ false → (a ≡ b → ⊥) → less_cell b a ≡ true → Standing a b

-- a plain cell of this frame and resolution at a lattice point
pub record PlainPoint (frame resolution : ℕ) (k : Cell) : Type 0 where
  pub words : Words k
  pub frame_is : frame_of k ≡ frame
  pub resolution-is : resolution_of k ≡ resolution
  pub plain : is_plain k ≡ true
  pub point : is_lattice_point (coord_of k) ≡ true

-- an answer that is a plain cell of this frame and resolution at a lattice point
pub record Found (frame resolution : ℕ) (a : Result Cell Refusal) : Type 0 where
  pub cell : Cell
  pub answered : a ≡ Ok cell
  pub found : PlainPoint frame resolution cell
