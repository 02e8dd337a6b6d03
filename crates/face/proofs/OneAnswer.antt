-- Two answers that meet a contract agree.
use mathlib.Core.Path.{sym, ◌∙◌}
use Rattle.general.specs.OneAnswer.{OneAnswer}
use Rattle.face.proofs as here

pub answered-one : OneAnswer 0 here.answered.Kinds.ps here.answered.Kinds.r here.answered.Reads.Post
answered-one κs a z z' e e' p q = p ∙ sym q

pub told-one : OneAnswer 0 here.RefusalToldFromRefusal.from.Kinds.ps here.RefusalToldFromRefusal.from.Kinds.r here.RefusalToldFromRefusal.from.Reads.Post
told-one κs a z z' e e' p q = p ∙ sym q

pub number-one : OneAnswer 0 here.number.Kinds.ps here.number.Kinds.r here.number.Reads.Post
number-one κs a z z' e e' p q = p ∙ sym q

pub no-number-one : OneAnswer 0 here.no_number.Kinds.ps here.no_number.Kinds.r here.no_number.Reads.Post
no-number-one κs a z z' e e' p q = p ∙ sym q

pub of-number-one : OneAnswer 0 here.NumberToldFromResultI32Refusal.from.Kinds.ps here.NumberToldFromResultI32Refusal.from.Kinds.r here.NumberToldFromResultI32Refusal.from.Reads.Post
of-number-one κs a z z' e e' p q = p ∙ sym q

pub of-parity-one : OneAnswer 0 here.NumberToldFromResultParityRefusal.from.Kinds.ps here.NumberToldFromResultParityRefusal.from.Kinds.r here.NumberToldFromResultParityRefusal.from.Reads.Post
of-parity-one κs a z z' e e' p q = p ∙ sym q

pub of-truth-one : OneAnswer 0 here.NumberToldFromResultBoolRefusal.from.Kinds.ps here.NumberToldFromResultBoolRefusal.from.Kinds.r here.NumberToldFromResultBoolRefusal.from.Reads.Post
of-truth-one κs a z z' e e' p q = p ∙ sym q

pub bits-one : OneAnswer 0 here.bits.Kinds.ps here.bits.Kinds.r here.bits.Reads.Post
bits-one κs a z z' e e' p q = p ∙ sym q

pub no-bits-one : OneAnswer 0 here.no_bits.Kinds.ps here.no_bits.Kinds.r here.no_bits.Reads.Post
no-bits-one κs a z z' e e' p q = p ∙ sym q

pub of-root-one : OneAnswer 0 here.BitsToldFromResultU64Refusal.from.Kinds.ps here.BitsToldFromResultU64Refusal.from.Kinds.r here.BitsToldFromResultU64Refusal.from.Reads.Post
of-root-one κs a z z' e e' p q = p ∙ sym q

pub of-distance-one : OneAnswer 0 here.BitsToldFromResultF64Refusal.from.Kinds.ps here.BitsToldFromResultF64Refusal.from.Kinds.r here.BitsToldFromResultF64Refusal.from.Reads.Post
of-distance-one κs a z z' e e' p q = p ∙ sym q

pub of-coord-one : OneAnswer 0 here.CoordToldFromResultCoordRefusal.from.Kinds.ps here.CoordToldFromResultCoordRefusal.from.Kinds.r here.CoordToldFromResultCoordRefusal.from.Reads.Post
of-coord-one κs a z z' e e' p q = p ∙ sym q

pub of-point-one : OneAnswer 0 here.PointToldFromResultBitsOfPointRefusal.from.Kinds.ps here.PointToldFromResultBitsOfPointRefusal.from.Kinds.r here.PointToldFromResultBitsOfPointRefusal.from.Reads.Post
of-point-one κs a z z' e e' p q = p ∙ sym q

pub of-count-one : OneAnswer 0 here.layers.of_count.Kinds.ps here.layers.of_count.Kinds.r here.layers.of_count.Reads.Post
of-count-one κs a z z' e e' p q = p ∙ sym q

pub of-kept-one : OneAnswer 0 here.layers.of_kept.Kinds.ps here.layers.of_kept.Kinds.r here.layers.of_kept.Reads.Post
of-kept-one κs a z z' e e' p q = p ∙ sym q

pub of-search-one : OneAnswer 0 here.searches.SearchToldFromResultRouteRefusal.from.Kinds.ps here.searches.SearchToldFromResultRouteRefusal.from.Kinds.r here.searches.SearchToldFromResultRouteRefusal.from.Reads.Post
of-search-one κs a z z' e e' p q = p ∙ sym q

pub of-load-one : OneAnswer 0 here.surveys.of_load.Kinds.ps here.surveys.of_load.Kinds.r here.surveys.of_load.Reads.Post
of-load-one κs a z z' e e' p q = p ∙ sym q

pub of-write-one : OneAnswer 0 here.surveys.LengthToldFromResultUsizeRefusal.from.Kinds.ps here.surveys.LengthToldFromResultUsizeRefusal.from.Kinds.r here.surveys.LengthToldFromResultUsizeRefusal.from.Reads.Post
of-write-one κs a z z' e e' p q = p ∙ sym q
