-- The calls of the C face on points: the square root, the lattice, snap and the distances, each the definition of its crate, told to C. Definitions only.
use Rattle.std.specs.Prelude.{cond, ℕ, eqb, ℤ}
use mathlib.Core.List.{List, [], ◌∷◌, flat_map}
use Rattle.refusal.specs.declared.Coord.{Coord}
use Rattle.refusal.specs.declared.Refusal.TheVariants.{OutOfRange}
use Rattle.lattice.specs.declared.Parity.TheVariants.{Even, Odd}
use Rattle.lattice.specs.Lattice.{opposite_of, neighbors_of, children_of}
use Rattle.face.specs.declared.NumberTold.{NumberTold}
use Rattle.face.specs.Told.{Filled, fill_by, number_told, no_number, parity_number}

-- the other parity than the one that a number stands for; a number that stands for none is out of range
abbrev pub opposite_told : ℕ → NumberTold
opposite_told n = cond (eqb n 0) (number_told (parity_number (opposite_of Even))) (cond (eqb n 1) (number_told (parity_number (opposite_of Odd))) (no_number OutOfRange))

-- x, y, z of a place
abbrev pub triple : Coord → List ℤ
triple c = c.x ∷ c.y ∷ c.z ∷ []

-- x, y, z of each place in turn
abbrev pub triples : List Coord → List ℤ
triples cs = flat_map triple cs

-- x, y, z of the 14 neighbours of a point, into a buffer
unfoldable pub neighbors_told : Coord → List ℤ → Filled ℤ
unfolding neighbors_of flat_map
neighbors_told c out = fill_by triples (neighbors_of c) out

-- x, y, z of the 8 children of a point, into a buffer
unfoldable pub children_told : Coord → List ℤ → Filled ℤ
unfolding children_of flat_map
children_told c out = fill_by triples (children_of c) out
