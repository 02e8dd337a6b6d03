-- Two answers that meet the contract of the search agree, and so does what they leave in the memory that was lent to them.
use mathlib.Core.Path.{ap, sym, ◌∙◌}
use denote.Ref.{at_last}
use Rattle.general.specs.OneAnswer.{OneAnswer, OneExit}
use Rattle.search.specs.SearchOutcome.{Searched}
use Rattle.astar.proofs as here

pub astar-with-limit-one : OneAnswer 6 here.call.astar_with_limit.Kinds.ps here.call.astar_with_limit.Kinds.r here.call.astar_with_limit.Reads.Post
astar-with-limit-one κs a z z' e e' p q = ap (λ (r : Searched). r.said) (p ∙ sym q)

pub astar-with-limit-exit : OneExit 6 here.call.astar_with_limit.Kinds.ps here.call.astar_with_limit.Kinds.r here.call.astar_with_limit.Reads.Post
astar-with-limit-exit κs a z z' last last' p q =
    let same = p ∙ sym q in
    λ i. (a.0, (a.1.0, (a.1.1.0, (a.1.1.1.0, (a.1.1.1.1.0, (a.1.1.1.1.1.0, (a.1.1.1.1.1.1.0, (a.1.1.1.1.1.1.1.0, (at_last a.1.1.1.1.1.1.1.1.0 (same i).known, (at_last a.1.1.1.1.1.1.1.1.1.0 (same i).waiting, (at_last a.1.1.1.1.1.1.1.1.1.1.0 (same i).output, tt)))))))))))

pub astar-one : OneAnswer 6 here.call.astar.Kinds.ps here.call.astar.Kinds.r here.call.astar.Reads.Post
astar-one κs a z z' e e' p q = ap (λ (r : Searched). r.said) (p ∙ sym q)

pub astar-exit : OneExit 6 here.call.astar.Kinds.ps here.call.astar.Kinds.r here.call.astar.Reads.Post
astar-exit κs a z z' last last' p q =
    let same = p ∙ sym q in
    λ i. (a.0, (a.1.0, (a.1.1.0, (a.1.1.1.0, (a.1.1.1.1.0, (a.1.1.1.1.1.0, (a.1.1.1.1.1.1.0, (at_last a.1.1.1.1.1.1.1.0 (same i).known, (at_last a.1.1.1.1.1.1.1.1.0 (same i).waiting, (at_last a.1.1.1.1.1.1.1.1.1.0 (same i).output, tt))))))))))
