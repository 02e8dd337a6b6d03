-- "Snap takes a physical point of three f64 coordinates and a resolution. Each is multiplied by 2^resolution. NaN, infinite, or above 2147483646 in magnitude is OutOfRange.
-- Candidates: even, round(v/2)*2; odd, round((v-1)/2)*2+1, halves away from zero. Squared distances add x, y, z in order, a square being one product; the even point wins a tie."
-- The scope document's sentences, in their order, over IEEE 754's operations, each rounded once. Definitions only.
use Rattle.refusal.specs.declared.Refusal.{Refusal}
use Rattle.std.specs.Prelude.{Bool, true, false, cond, ◌&&◌, ℕ, ℤ, pos, ◌+ℤ◌, Float, Result, Ok, Err}
use Rattle.std.specs.Float.{fin, binary64}
use Rattle.std.specs.Float.Ieee.{of_int, add, sub, mul, div, le, to_bits}
use Rattle.refusal.specs.declared.Coord.{Coord}
use Rattle.refusal.specs.declared.Refusal.TheVariants.{OutOfRange}
use Rattle.float.specs.Round.{whole_away}
use Rattle.lattice.specs.Lattice.{at, parity_of, on_parity}
use Rattle.snap.specs.declared.Point.{Point}
use Rattle.snap.specs.declared.BitsOfPoint.{BitsOfPoint}

-- the physical point with these coordinates
abbrev pub point : Float → Float → Float → Point
point x y z = record { x = x; y = y; z = z }

-- ---- the scaled point

-- each coordinate times 2^resolution
unfoldable pub scaled : Point → ℕ → Point
unfolding mul
scaled p resolution = let s = fin false 1 (pos resolution) in point (mul binary64 p.x s) (mul binary64 p.y s) (mul binary64 p.z s)

-- from -2147483646 to 2147483646, which is 1073741823 times two; a NaN is not, and no infinity is
abbrev pub in_range : Float → Bool
in_range v = le (fin true 1073741823 (pos 1)) v && le v (fin false 1073741823 (pos 1))

-- all three coordinates are in that range
unfoldable pub all_in_range : Point → Bool
unfolding le
all_in_range p = in_range p.x && (in_range p.y && in_range p.z)

-- ---- the two candidates

-- 2.0
abbrev pub float_two : Float
float_two = fin false 1 (pos 1)

-- 1.0
abbrev pub float_one : Float
float_one = fin false 1 (pos 0)

-- round(v/2)*2
unfoldable pub even_near : Float → ℤ
unfolding div whole_away
even_near v = let n = whole_away (div binary64 v float_two) in n +ℤ n

-- round((v-1)/2)*2+1
unfoldable pub odd_near : Float → ℤ
unfolding sub div whole_away
odd_near v = let n = whole_away (div binary64 (sub binary64 v float_one) float_two) in n +ℤ n +ℤ pos 1

-- the even candidate
abbrev pub even_point : Point → Coord
even_point p = at (even_near p.x) (even_near p.y) (even_near p.z)

-- the odd candidate
abbrev pub odd_point : Point → Coord
odd_point p = at (odd_near p.x) (odd_near p.y) (odd_near p.z)

-- ---- the nearer of them

-- the square of a candidate's coordinate less the scaled one: one product
unfoldable pub square_off : ℤ → Float → Float
unfolding of_int sub mul
square_off n v = let d = sub binary64 (of_int binary64 n) v in mul binary64 d d

-- the squares of x and y added, then that of z
unfoldable pub squares_off : Coord → Point → Float
unfolding square_off add
squares_off c p = add binary64 (add binary64 (square_off c.x p.x) (square_off c.y p.y)) (square_off c.z p.z)

-- the even candidate where its squares are at most the odd one's
unfoldable pub nearer : Point → Coord
unfolding even_near odd_near squares_off le
nearer p = cond (le (squares_off (even_point p) p) (squares_off (odd_point p) p)) (even_point p) (odd_point p)

-- the nearer candidate of a scaled point that is in range, else OutOfRange
abbrev pub snap_in : Bool → Point → Result Coord Refusal
snap_in true p = Ok (nearer p)
snap_in false p = Err OutOfRange

-- the lattice point that a physical point snaps to at a resolution: scaled, tested, and the nearer candidate taken
unfoldable pub snap_of : Point → ℕ → Result Coord Refusal
unfolding scaled all_in_range nearer
snap_of p resolution = let s = scaled p resolution in snap_in (all_in_range s) s

-- ---- and back: a lattice point's coordinates as floats, each exact

-- a lattice point as a physical one; other places are refused for their parity
unfoldable pub physical_of : Coord → Result Point Refusal
unfolding parity_of of_int
physical_of c = on_parity Err (λ p. Ok (point (of_int binary64 c.x) (of_int binary64 c.y) (of_int binary64 c.z))) (parity_of c)

-- ---- a physical point by its coordinates' bit patterns

-- each coordinate by its 64 bits
abbrev pub bits_of : Point → BitsOfPoint
bits_of p = record { x = to_bits binary64 p.x; y = to_bits binary64 p.y; z = to_bits binary64 p.z }

-- an answer by its bits
abbrev pub bits_by : Result Point Refusal → Result BitsOfPoint Refusal
bits_by (Ok p) = Ok (bits_of p)
bits_by (Err r) = Err r

-- a lattice point as a physical one, by its bits
unfoldable pub physical_bits_of : Coord → Result BitsOfPoint Refusal
unfolding physical_of
physical_bits_of c = bits_by (physical_of c)
