-- Half of one less than a coordinate in range is within 2 ^ 30, and twice its nearest whole number fits, and one more.
use mathlib.Core.Path.{◌≡◌, ap, subst⁻¹}
use lib.Dec.{lit≤}
use lib.IntN.{ℤ, pos, ◌+ℤ◌}
use lib.Ieee.{Float, binary64, of_bits, sub, div}
use mir.Syntax.{w32}
use mir.Val.{SFits, of_z, to_z}
use Rattle.float.specs.Round.{whole_away}
use Rattle.snap.specs.Snap.{float_one, float_two, odd_near}
use Rattle.snap.proofs.Ranges.{near, odd-halved, odd-whole, odd-twice}
use Rattle.snap.proofs.Fields.{kept, range-fits, odd-fits}
use Rattle.snap.proofs.odd_near.Goals as goal
use Rattle.snap.proofs.odd_near.Goals.{After-nearest_whole-n}

abbrev half : Float → Float
half v = div binary64 (sub binary64 v float_one) float_two

abbrev nearest : After-nearest_whole-n → ℤ
nearest c = whole_away (half c.args.v)

abbrev answer : After-nearest_whole-n → ℤ
answer c = to_z w32 (of_z w32 c.nearest_whole-n.result)

whole : (c : After-nearest_whole-n) → answer c ≡ nearest c
unfolding of_bits
whole c =
    kept c.nearest_whole-n.ensures
    (range-fits 1073741824 1073741823 (lit≤ tt) (lit≤ tt) (nearest c) (odd-whole c.args.v c.requires))

twice : (c : After-nearest_whole-n) → answer c +ℤ answer c ≡ nearest c +ℤ nearest c
twice c = ap (λ (n : ℤ). n +ℤ n) (whole c)

twice-fits : (c : After-nearest_whole-n) → SFits w32 (nearest c +ℤ nearest c)
twice-fits c =
    range-fits 2147483648 2147483646 (lit≤ tt) (lit≤ tt) (nearest c +ℤ nearest c) (odd-twice (nearest c) (odd-whole c.args.v c.requires))

more : (c : After-nearest_whole-n) → to_z w32 (of_z w32 (answer c +ℤ answer c)) +ℤ pos 1 ≡ odd_near c.args.v
unfolding odd_near
more c = ap (λ (n : ℤ). n +ℤ pos 1) (kept (twice c) (twice-fits c))

pub nearest_whole-n-requires : goal.nearest_whole-n-requires
unfolding of_bits
nearest_whole-n-requires c =
    let v = c.args.v in
    let n = near 1073741824 1073741823 (lit≤ tt) (lit≤ tt) (half v) (odd-halved v c.requires) in
    (n.low, n.high)

pub overflow_add-result : goal.overflow_add-result
overflow_add-result c = subst⁻¹ (SFits w32) (twice c) (twice-fits c)

pub returns : goal.returns
returns c = kept (more c) (odd-fits c.args.v c.requires)
