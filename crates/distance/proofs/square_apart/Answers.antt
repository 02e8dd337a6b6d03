-- The difference fits, so that it is read back from its bits as it is.
use mathlib.Core.Path.{ap, ◌∙◌}
use lib.IntN.{ℤ, ◌-ℤ◌}
use lib.Ieee.{binary64, of_int, mul}
use mir.Syntax.{w32}
use mir.Val.{to_z, of_z}
use mir.Facts.{to_z-of_z}
use Rattle.distance.specs.Distance.{square_apart}
use Rattle.distance.proofs.square_apart.Goals as goal

pub returns : goal.returns
unfolding square_apart
returns c =
    let d = (λ i. to_z w32 (of_z w32 (to_z-of_z c.ranges.a i -ℤ to_z-of_z c.ranges.b i))) ∙ to_z-of_z c.requires in
    ap (λ (z : ℤ). mul binary64 (of_int binary64 z) (of_int binary64 z)) d
