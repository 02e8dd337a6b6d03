-- Two answers that meet a public function's contract agree.
use mathlib.Core.Path.{sym, ◌∙◌}
use Rattle.general.specs.OneAnswer.{OneAnswer}
use Rattle.refusal.proofs as here

pub row-of-one : OneAnswer 0 here.row_of.Kinds.ps here.row_of.Kinds.r here.row_of.Reads.Post
row-of-one κs a z z' e e' p q = p ∙ sym q

pub number-one : OneAnswer 0 here.number.Kinds.ps here.number.Kinds.r here.number.Reads.Post
number-one κs a z z' e e' p q = p ∙ sym q

pub room-number-one : OneAnswer 0 here.U32FromRoom.from.Kinds.ps here.U32FromRoom.from.Kinds.r here.U32FromRoom.from.Reads.Post
room-number-one κs a z z' e e' p q = p ∙ sym q

pub fault-number-one : OneAnswer 0 here.U32FromLabelFault.from.Kinds.ps here.U32FromLabelFault.from.Kinds.r here.U32FromLabelFault.from.Reads.Post
fault-number-one κs a z z' e e' p q = p ∙ sym q
