-- The place with all three zero.
use Rattle.std.specs.Prelude.{pos}
use Rattle.refusal.specs.declared.Coord.{Coord}
use Rattle.lattice.specs.Lattice.{at}

abbrev pub origin : Coord
origin = at (pos 0) (pos 0) (pos 0)
