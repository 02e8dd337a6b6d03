-- Two answers that meet a contract of the way back agree, and so do the outputs that they leave, whatever the bytes were.
use Rattle.std.specs.Prelude.{Result}
use Rattle.search.specs.declared.Route.{Route}
use Rattle.refusal.specs.declared.Refusal.{Refusal}
use mathlib.Core.Path.{ap, sym, ◌∙◌}
use denote.Ref.{at_last}
use Rattle.general.specs.OneAnswer.{OneAnswer, OneExit}
use Rattle.general.specs.Changed.{Changed}
use Rattle.astar.proofs.way as here

pub cells-to-one : OneAnswer 1 here.cells_to.Kinds.ps here.cells_to.Kinds.r here.cells_to.Reads.Post
cells-to-one κs a z z' e e' p q = p ∙ sym q

pub write-exit : OneExit 2 here.write.Kinds.ps here.write.Kinds.r here.write.Reads.Post
write-exit κs a z z' last last' p q = let same = p ∙ sym q in λ i. (a.0, (a.1.0, (a.1.1.0, (a.1.1.1.0, (a.1.1.1.1.0, (at_last a.1.1.1.1.1.0 (same i), tt))))))

pub answer-one : OneAnswer 2 here.answer.Kinds.ps here.answer.Kinds.r here.answer.Reads.Post
answer-one κs a z z' e e' p q = ap (λ (r : Changed (Result Route Refusal)). r.said) (p ∙ sym q)

pub answer-exit : OneExit 2 here.answer.Kinds.ps here.answer.Kinds.r here.answer.Reads.Post
answer-exit κs a z z' last last' p q = let same = p ∙ sym q in λ i. (a.0, (a.1.0, (a.1.1.0, (a.1.1.1.0, (at_last a.1.1.1.1.0 (same i).bytes, tt)))))
