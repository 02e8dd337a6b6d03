-- The middle of two points, as `cell_between` of the Rust takes it: a + (b - a) / 2 on each axis, the division towards zero. Definitions only.
use Rattle.std.specs.Prelude.{ℤ, pos, ◌+ℤ◌, ◌-ℤ◌}
use Rattle.std.specs.Int.Signed.{quot_z}
use Rattle.refusal.specs.declared.Coord.{Coord}
use Rattle.lattice.specs.Lattice.{at}

-- half way from a to b on one axis; where no whole number is, the next one towards a
abbrev pub halfway : ℤ → ℤ → ℤ
halfway a b = a +ℤ quot_z (b -ℤ a) (pos 2)

-- the place half way from one to the other on each axis
abbrev pub middle : Coord → Coord → Coord
middle a b = at (halfway a.x b.x) (halfway a.y b.y) (halfway a.z b.z)
