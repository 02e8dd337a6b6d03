-- Points of the distance, each by computation.
use Rattle.std.specs.Prelude.{Ok, Err}
use mathlib.Core.Bool.{true, false}
use mathlib.Core.Path.{◌≡◌, refl}
use lib.IntN.{pos, negsuc}
use lib.Ieee.{fin, binary64, of_bits}
use Rattle.refusal.specs.declared.Refusal.TheVariants.{CoordOverflow, InvalidParity}
use Rattle.lattice.specs.Lattice.{at, is_lattice_point, parity_of, manhattan}
use Rattle.lattice.proofs.Origin.{origin}
use Rattle.distance.specs.Distance.{differences_fit, squared_distance, distance_of}
use Rattle.distance.specs.Terms.{both_tests}
use Rattle.distance.specs.Nearest.{NearestRoot}
use Rattle.distance.proofs.Nearest.{distance-nearest}

-- the root of 3
pub to-a-corner : distance_of origin (at (pos 1) (pos 1) (pos 1)) ≡ Ok (of_bits binary64 0x3FFB_B67A_E858_4CAA)
unfolding distance_of of_bits
to-a-corner = refl

-- the root of 8
across : distance_of origin (at (pos 2) (pos 2) (pos 0)) ≡ Ok (of_bits binary64 0x4006_A09E_667F_3BCD)
unfolding distance_of of_bits
across = refl

-- a difference of +2147483648 leaves the 32-bit numbers
too_far : distance_of origin (at (negsuc 2147483647) (pos 0) (pos 0)) ≡ Err CoordOverflow
unfolding distance_of
too_far = refl

-- and one of -2147483648 does not
just-fits : distance_of (at (negsuc 2147483647) (pos 0) (pos 0)) origin ≡ Ok (of_bits binary64 0x41E0_0000_0000_0000)
unfolding distance_of of_bits
just-fits = refl

-- the first end's parity comes before the second's, and both before the differences
first-refused : distance_of (at (pos 1) (pos 0) (pos 0)) (at (negsuc 2147483647) (pos 1) (pos 0)) ≡ Err (InvalidParity (at (pos 1) (pos 0) (pos 0)))
unfolding distance_of
first-refused = refl

second-refused : distance_of origin (at (negsuc 2147483647) (pos 1) (pos 0)) ≡ Err (InvalidParity (at (negsuc 2147483647) (pos 1) (pos 0)))
unfolding distance_of
second-refused = refl

-- a difference of 2147483648 leaves i32, one of -2147483648 does not; the sum refuses both
pub ends-refused : (both_tests (at (pos 2147483646) (pos 0) (pos 0)) (at (negsuc 1) (pos 0) (pos 0)) ≡ Err CoordOverflow)
    × (differences_fit (at (pos 2147483646) (pos 0) (pos 0)) (at (negsuc 1) (pos 0) (pos 0)) ≡ false)
    × (both_tests (at (negsuc 2147483647) (pos 0) (pos 0)) origin ≡ Err CoordOverflow)
    × (differences_fit (at (negsuc 2147483647) (pos 0) (pos 0)) origin ≡ true)
unfolding manhattan parity_of is_lattice_point differences_fit
ends-refused = (refl, refl, refl, refl)

-- and there are such: from (0,0,0) to (1,1,1) the sum is 3.0, and what is answered has the bits that document 01 names for its root
pub corner-nearest : NearestRoot (fin false 3 (pos 0)) (of_bits binary64 0x3FFB_B67A_E858_4CAA)
unfolding squared_distance
corner-nearest = distance-nearest origin (at (pos 1) (pos 1) (pos 1)) (of_bits binary64 0x3FFB_B67A_E858_4CAA) to-a-corner
