-- Two answers that meet a contract agree, and so do the bytes that they leave.
use mathlib.Core.Path.{sym, ◌∙◌}
use denote.Ref.{at_last}
use Rattle.general.specs.OneAnswer.{OneAnswer, OneExit}
use Rattle.cell_list.proofs as here

pub room-one : OneAnswer 1 here.room.Kinds.ps here.room.Kinds.r here.room.Reads.Post
room-one κs a z z' e e' p q = p ∙ sym q

pub put-exit : OneExit 1 here.put.Kinds.ps here.put.Kinds.r here.put.Reads.Post
put-exit κs a z z' last last' p q = λ i. (at_last a.0 ((p ∙ sym q) i), a.1)
