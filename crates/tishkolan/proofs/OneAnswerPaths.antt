-- Two answers that meet a call's contract agree, and so does what they leave in the memory that was lent to them: the calls that list cells.
use denote.Ref.{at_last}
use Rattle.tishkolan.proofs as here
use Rattle.general.specs.OneAnswer.{OneAnswer, OneExit}
use Rattle.general.proofs.ChangedLaws.{same-said, same_bytes}

pub trace-line-one : OneAnswer 3 here.paths.tishkolan_trace_line.Kinds.ps here.paths.tishkolan_trace_line.Kinds.r here.paths.tishkolan_trace_line.Reads.Post
trace-line-one κs a z z' e e' p q = same-said p q

pub trace-line-exit : OneExit 3 here.paths.tishkolan_trace_line.Kinds.ps here.paths.tishkolan_trace_line.Kinds.r here.paths.tishkolan_trace_line.Reads.Post
trace-line-exit κs a z z' last last' p q = λ i. (a.0, (a.1.0, (at_last a.1.1.0 (same_bytes p q i), tt)))
