-- Two answers that meet a public function's contract agree.
use Rattle.std.proofs.Common.{sym, ◌∙◌}
use Rattle.general.specs.OneAnswer.{OneAnswer}
use Rattle.root.proofs as here

pub square-root-one : OneAnswer 0 here.square_root.Kinds.ps here.square_root.Kinds.r here.square_root.Reads.Post
square-root-one κs a z z' e e' p q = p ∙ sym q

pub square-root-bits-one : OneAnswer 0 here.square_root_bits.Kinds.ps here.square_root_bits.Kinds.r here.square_root_bits.Reads.Post
square-root-bits-one κs a z z' e e' p q = p ∙ sym q
