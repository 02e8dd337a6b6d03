-- Half of a coordinate in range is within 2 ^ 30, and twice its nearest whole number fits.
use mathlib.Core.Path.{◌≡◌, ap, subst⁻¹}
use lib.Dec.{lit≤}
use lib.IntN.{ℤ, ◌+ℤ◌}
use lib.Ieee.{binary64, of_bits, div}
use mir.Syntax.{w32}
use mir.Val.{SFits, of_z, to_z}
use Rattle.float.specs.Round.{whole_away}
use Rattle.snap.specs.Snap.{float_two, even_near}
use Rattle.snap.proofs.Ranges.{near, even-halved, even-whole}
use Rattle.snap.proofs.Fields.{kept, range-fits, even-fits}
use Rattle.snap.proofs.even_near.Goals as goal
use Rattle.snap.proofs.even_near.Goals.{After-nearest_whole-n}

whole : (c : After-nearest_whole-n) → to_z w32 (of_z w32 c.nearest_whole-n.result) ≡ whole_away (div binary64 c.args.v float_two)
unfolding of_bits
whole c =
    let v = c.args.v in
    kept c.nearest_whole-n.ensures
    (range-fits 1073741823 1073741823 (lit≤ tt) (lit≤ tt) (whole_away (div binary64 v float_two)) (even-whole v c.requires))

twice : (c : After-nearest_whole-n) → to_z w32 (of_z w32 c.nearest_whole-n.result) +ℤ to_z w32 (of_z w32 c.nearest_whole-n.result) ≡ even_near c.args.v
unfolding even_near
twice c = ap (λ (n : ℤ). n +ℤ n) (whole c)

pub nearest_whole-n-requires : goal.nearest_whole-n-requires
unfolding of_bits
nearest_whole-n-requires c =
    let v = c.args.v in
    let n = near 1073741823 1073741823 (lit≤ tt) (lit≤ tt) (div binary64 v float_two) (even-halved v c.requires) in
    (n.low, n.high)

pub overflow_add-result : goal.overflow_add-result
overflow_add-result c = subst⁻¹ (SFits w32) (twice c) (even-fits c.args.v c.requires)

pub returns : goal.returns
returns c = kept (twice c) (even-fits c.args.v c.requires)
