-- Points of the packed cell, by computation. The known points of the scope document stand in one table, in the top crate.
use Rattle.std.specs.Prelude.{Ok, Err}
use mathlib.Core.Bool.{false}
use mathlib.Core.Path.{◌≡◌, refl}
use lib.IntN.{ℤ, pos, negsuc}
use Rattle.refusal.specs.declared.Cell.{Cell}
use Rattle.refusal.specs.declared.Refusal.TheVariants.{CoordOverflow, NoParent}
use Rattle.lattice.specs.Lattice.{at, is_lattice_point, parity_of, manhattan}
use Rattle.lattice.specs.Lattice as lattice
use Rattle.distance.specs.Distance.{differences_fit}
use Rattle.cell.specs.Cell.{packed, plain_at, coord_of, between_of, exponent_of, new_of, parent_of, climbed, ancestor_of}
use Rattle.cell.specs.Terms.{both_between}

-- the cell of the document's fields (0,3), (1,-1,1), exponent 28, flags 165, as words
abbrev known : Cell
known = record { high = 0x00000001_FFFFFFFF; low = 0x00000001_0A5C0300 }

pub packs : new_of 0 3 (at (pos 1) (negsuc 0) (pos 1)) 28 165 ≡ Ok known
unfolding new_of is_lattice_point parity_of packed
packs = refl

-- of the exponent 28 is kept
pub keeps : exponent_of known ≡ 12
keeps = refl

-- the parent of a cell with exponent and flags is plain
pub up_one : parent_of (packed 7 3 (at (negsuc 2) (pos 1) (negsuc 0)) 5 6) ≡ Ok (plain_at 7 2 (at (negsuc 1) (pos 0) (pos 0)))
unfolding parent_of coord_of lattice.parent_of is_lattice_point parity_of packed
up_one = refl

-- three up: (20,10,10), (9,5,5), (4,2,2), (1,1,1)
pub up-three : ancestor_of (packed 7 5 (at (pos 20) (pos 10) (pos 10)) 5 6) 2 ≡ Ok (plain_at 7 2 (at (pos 1) (pos 1) (pos 1)))
unfolding ancestor_of climbed parent_of coord_of lattice.parent_of is_lattice_point parity_of packed
up-three = refl

-- "the cell's own resolution gives the cell unchanged", its flags and a mixed place with it; a finer target is refused
pub unchanged : ancestor_of (packed 7 5 (at (pos 0) (pos 1) (pos 0)) 5 6) 5 ≡ Ok (packed 7 5 (at (pos 0) (pos 1) (pos 0)) 5 6)
unfolding ancestor_of climbed packed
unchanged = refl

pub too_fine : ancestor_of known 4 ≡ Err NoParent
unfolding ancestor_of climbed
too_fine = refl

abbrev along : ℤ → Cell
along x = plain_at 0 0 (at x (pos 0) (pos 0))

-- from (-2, 0, 0) to (2147483646, 0, 0) the difference of x leaves i32, and both refuse
pub between-refused : (differences_fit (coord_of (along (pos 2147483646))) (coord_of (along (negsuc 1))) ≡ false)
    × (both_between (along (negsuc 1)) (along (pos 2147483646)) ≡ Err CoordOverflow)
    × (between_of (along (negsuc 1)) (along (pos 2147483646)) ≡ Err CoordOverflow)
unfolding between_of packed is_lattice_point parity_of manhattan differences_fit
between-refused = (refl, refl, refl)
