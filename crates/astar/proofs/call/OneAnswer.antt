-- Two answers that meet the contract of the start, of the run or of the end agree, and so do the bytes that they leave, whatever the bytes were.
use Rattle.expansion.specs.declared.Step.{Step}
use Rattle.std.specs.Prelude.{Result}
use Rattle.search.specs.declared.Route.{Route}
use Rattle.refusal.specs.declared.Refusal.{Refusal}
use mathlib.Core.Path.{ap, sym, ◌∙◌}
use denote.Ref.{at_last}
use Rattle.general.specs.OneAnswer.{OneAnswer, OneExit}
use Rattle.general.specs.Changed.{Changed}
use Rattle.expansion.specs.declared.Sizes.{Sizes}
use Rattle.expansion.specs.Inner.Bytes.{After}
use Rattle.astar.proofs.call as here

pub begin-one : OneAnswer 2 here.begin.Kinds.ps here.begin.Kinds.r here.begin.Reads.Post
begin-one κs a z z' e e' p q = ap (λ (x : After Sizes). x.2) (p ∙ sym q)

pub begin-exit : OneExit 2 here.begin.Kinds.ps here.begin.Kinds.r here.begin.Reads.Post
begin-exit κs a z z' last last' p q = let same = p ∙ sym q in λ i. (at_last a.0 (same i).0, (at_last a.1.0 (same i).1, a.1.1))

pub run-from-start-one : OneAnswer 3 here.run_from_start.Kinds.ps here.run_from_start.Kinds.r here.run_from_start.Reads.Post
run-from-start-one κs a z z' e e' p q = ap (λ (x : After Step). x.2) (p ∙ sym q)

pub run-from-start-exit : OneExit 3 here.run_from_start.Kinds.ps here.run_from_start.Kinds.r here.run_from_start.Reads.Post
run-from-start-exit κs a z z' last last' p q = let same = p ∙ sym q in λ i. (at_last a.0 (same i).0, (at_last a.1.0 (same i).1, a.1.1))

pub end-one : OneAnswer 2 here.end.Kinds.ps here.end.Kinds.r here.end.Reads.Post
end-one κs a z z' e e' p q = ap (λ (r : Changed (Result Route Refusal)). r.said) (p ∙ sym q)

pub end-exit : OneExit 2 here.end.Kinds.ps here.end.Kinds.r here.end.Reads.Post
end-exit κs a z z' last last' p q = let same = p ∙ sym q in λ i. (a.0, (a.1.0, (a.1.1.0, (at_last a.1.1.1.0 (same i).bytes, tt))))
