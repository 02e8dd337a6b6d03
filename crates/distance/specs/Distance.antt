-- "Distance of two cells: parity of the first, of the second; CoordOverflow when a difference leaves i32; else squares and sums rounded in source order, then the root."
-- The scope document's sentence, of two places of the lattice, over IEEE 754's operations. Definitions only.
use Rattle.refusal.specs.declared.Refusal.{Refusal}
use Rattle.std.specs.Prelude.{Bool, ◌&&◌, ℤ, ◌-ℤ◌, Float, Result, Ok, Err}
use Rattle.std.specs.Float.{binary64}
use Rattle.std.specs.Float.Ieee.{of_int, add, mul}
use Rattle.refusal.specs.declared.Coord.{Coord}
use Rattle.lattice.specs.Lattice.{parity_of, on_parities, fits32}
use Rattle.root.specs.Root.{root_of}
use Rattle.general.specs.Refuse.{refuse_unless}
use Rattle.refusal.specs.declared.Refusal.TheVariants.{CoordOverflow}

-- the first less the second, on one axis, is a 32-bit number
abbrev pub difference_fits : ℤ → ℤ → Bool
difference_fits a b = fits32 (a -ℤ b)

-- the differences on all three axes are 32-bit numbers
unfoldable pub differences_fit : Coord → Coord → Bool
differences_fit a b = difference_fits a.x b.x && (difference_fits a.y b.y && difference_fits a.z b.z)

-- the square of the difference on one axis: one product
unfoldable pub square_apart : ℤ → ℤ → Float
unfolding of_int mul
square_apart a b = let d = of_int binary64 (a -ℤ b) in mul binary64 d d

-- the squares of x and y added, then that of z
unfoldable pub squared_distance : Coord → Coord → Float
unfolding square_apart add
squared_distance a b = add binary64 (add binary64 (square_apart a.x b.x) (square_apart a.y b.y)) (square_apart a.z b.z)

-- the distance of two places: "parity of the first, of the second; CoordOverflow when a difference leaves i32; else" the root of the squares' sum,
-- which is never a refusal here: `distance-answers` of proofs/Theorems.antt
unfoldable pub distance_of : Coord → Coord → Result Float Refusal
unfolding parity_of differences_fit squared_distance root_of
distance_of a b =
    on_parities Err (λ p q. refuse_unless (differences_fit a b) (Err CoordOverflow) (root_of (squared_distance a b))) (parity_of a) (parity_of b)
