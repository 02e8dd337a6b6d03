-- Two answers that meet the contract of `trace_line` agree, and so does what they leave in the buffer.
use denote.Ref.{at_last}
use Rattle.general.specs.OneAnswer.{OneAnswer, OneExit}
use Rattle.general.proofs.ChangedLaws.{same-said, same_bytes}
use Rattle.line.proofs as here

pub trace-line-one : OneAnswer 3 here.trace_line.Kinds.ps here.trace_line.Kinds.r here.trace_line.Reads.Post
trace-line-one κs a z z' e e' p q = same-said p q

pub trace-line-exit : OneExit 3 here.trace_line.Kinds.ps here.trace_line.Kinds.r here.trace_line.Reads.Post
trace-line-exit κs a z z' last last' p q = λ i. (a.0, (a.1.0, (at_last a.1.1.0 (same_bytes p q i), tt)))
