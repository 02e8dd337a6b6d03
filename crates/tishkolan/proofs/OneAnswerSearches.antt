-- Two answers that meet a call's contract agree, and so does what they leave in the memory that was lent to them: the search.
use mathlib.Core.Path.{sym, ap, ◌∙◌}
use denote.Ref.{at_last}
use Rattle.tishkolan.proofs as here
use Rattle.general.specs.OneAnswer.{OneAnswer, OneExit}
use Rattle.face.specs.Searches.{SearchingTold}

pub astar-one : OneAnswer 6 here.searches.tishkolan_astar.Kinds.ps here.searches.tishkolan_astar.Kinds.r here.searches.tishkolan_astar.Reads.Post
astar-one κs a z z' e e' p q = ap (λ (s : SearchingTold). s.told) (p ∙ sym q)

pub astar-exit : OneExit 6 here.searches.tishkolan_astar.Kinds.ps here.searches.tishkolan_astar.Kinds.r here.searches.tishkolan_astar.Reads.Post
astar-exit κs a z z' last last' p q =
    let same = p ∙ sym q in
    λ i. (a.0, (a.1.0, (a.1.1.0, (a.1.1.1.0, (a.1.1.1.1.0, (a.1.1.1.1.1.0, (a.1.1.1.1.1.1.0, (at_last a.1.1.1.1.1.1.1.0 (same i).known, (at_last a.1.1.1.1.1.1.1.1.0 (same i).waiting, (at_last a.1.1.1.1.1.1.1.1.1.0 (same i).output, tt))))))))))

pub astar-with-limit-one : OneAnswer 6 here.searches.tishkolan_astar_with_limit.Kinds.ps here.searches.tishkolan_astar_with_limit.Kinds.r here.searches.tishkolan_astar_with_limit.Reads.Post
astar-with-limit-one κs a z z' e e' p q = ap (λ (s : SearchingTold). s.told) (p ∙ sym q)

pub astar-with-limit-exit : OneExit 6 here.searches.tishkolan_astar_with_limit.Kinds.ps here.searches.tishkolan_astar_with_limit.Kinds.r here.searches.tishkolan_astar_with_limit.Reads.Post
astar-with-limit-exit κs a z z' last last' p q =
    let same = p ∙ sym q in
    λ i. (a.0, (a.1.0, (a.1.1.0, (a.1.1.1.0, (a.1.1.1.1.0, (a.1.1.1.1.1.0, (a.1.1.1.1.1.1.0, (a.1.1.1.1.1.1.1.0, (at_last a.1.1.1.1.1.1.1.1.0 (same i).known, (at_last a.1.1.1.1.1.1.1.1.1.0 (same i).waiting, (at_last a.1.1.1.1.1.1.1.1.1.1.0 (same i).output, tt)))))))))))
