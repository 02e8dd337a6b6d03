-- The test by which the code knows a neighbour: squares of short differences. For contracts inside. Definitions only.
use Rattle.std.specs.Prelude.{Bool, ◌&&◌, ℕ, zero, suc, ◌+◌, leb, nat_abs}
use Rattle.refusal.specs.declared.Coord.{Coord}
use Rattle.distance.specs.Inner.Differences.{difference}

-- the square of a difference of at most 2; any other is too far for a neighbour, and 5 stands for its square
abbrev pub short_square : ℕ → ℕ
short_square zero = 0
short_square (suc zero) = 1
short_square (suc (suc zero)) = 4
short_square (suc (suc (suc n))) = 5

-- the squares of a step on the three axes, added
abbrev pub square_of : Coord → ℕ
square_of s = short_square (nat_abs s.x) + short_square (nat_abs s.y) + short_square (nat_abs s.z)

-- such a sum is 3 or 4, as it is for the 14 steps
abbrev pub is_short : Coord → Bool
is_short s = leb 3 (square_of s) && leb (square_of s) 4

-- the step from one place to another is so short
unfoldable pub is_near : Coord → Coord → Bool
is_near c d = is_short (difference d c)
