-- The difference of two points, axis by axis, for contracts inside. Definitions only.
use Rattle.std.specs.Prelude.{◌-ℤ◌}
use Rattle.refusal.specs.declared.Coord.{Coord}
use Rattle.lattice.specs.Lattice.{at}

-- the first less the second, on each axis
abbrev pub difference : Coord → Coord → Coord
difference a b = at (a.x -ℤ b.x) (a.y -ℤ b.y) (a.z -ℤ b.z)
