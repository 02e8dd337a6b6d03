-- The two lengths of a step are numbers.
use mathlib.Core.Path.{refl}
use Rattle.std.proofs.Common.{rules}
use lib.Ieee.{nan_bits, of_bits}
use Rattle.route.specs.Route.{cost_between}
use Rattle.route.proofs.step_cost.Goals as goal

pub value-requires : goal.value-requires
unfolding nan_bits
value-requires c = refl

pub returns-then-first-second : goal.returns-then-first-second
unfolding of_bits cost_between
returns-then-first-second c = search rules
