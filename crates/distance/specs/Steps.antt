-- What a step to a neighbour costs. Definitions only.
use Rattle.std.specs.Prelude.{false, cond, pos, Float}
use Rattle.std.specs.Float.{fin, binary64}
use Rattle.std.specs.Float.Ieee.{of_bits}
use Rattle.refusal.specs.declared.Coord.{Coord}
use Rattle.lattice.specs.Lattice.{is_odd}

-- the root of 3, rounded to an f64
abbrev pub root_three : Float
root_three = of_bits binary64 0x3FFB_B67A_E858_4CAA

-- 2.0
abbrev pub two_float : Float
two_float = fin false 1 (pos 1)

-- the root of 3 where the step changes the parity, 2.0 where it keeps it
abbrev pub step_cost : Coord → Float
step_cost d = cond (is_odd d.x) root_three two_float
