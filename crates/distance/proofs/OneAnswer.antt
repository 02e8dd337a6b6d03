-- Two answers that meet a public function's contract agree.
use mathlib.Core.Path.{sym, ◌∙◌}
use Rattle.general.specs.OneAnswer.{OneAnswer}
use Rattle.distance.proofs as here

pub differences-fit-one : OneAnswer 0 here.differences_fit.Kinds.ps here.differences_fit.Kinds.r here.differences_fit.Reads.Post
differences-fit-one κs a z z' e e' p q = p ∙ sym q

pub distance-one : OneAnswer 0 here.distance_to.Kinds.ps here.distance_to.Kinds.r here.distance_to.Reads.Post
distance-one κs a z z' e e' p q = p ∙ sym q
