-- The three tests of the code are the three of the definition.
use Rattle.std.proofs.Common.{◌≡◌, Bool, true, arith, rules}
use mathlib.Core.Bool.{◌&&◌}
use Rattle.std.proofs.lemmas.Grind.{common_steps}
use Rattle.distance.specs.Distance.{differences_fit}
use Rattle.distance.proofs.differences_fit.Goals as goal
use Rattle.distance.proofs.differences_fit.Goals.{then-difference_fits, else-difference_fits}

last : (x y z r : Bool) → x ≡ true → y ≡ true → r ≡ z → r ≡ x && (y && z)
last x y z r e f g = rw (e, f) g

pub returns-then-difference_fits-2 : goal.returns-then-difference_fits-2
unfolding differences_fit
returns-then-difference_fits-2 c =
    elim c.if-difference_fits.branch [ then-difference_fits w ↦ search (rules, last) | else-difference_fits w ↦ absurd (search rules) ]

pub returns-else-difference_fits-2 : goal.returns-else-difference_fits-2
unfolding differences_fit
returns-else-difference_fits-2 c = grind (arith, common_steps)
