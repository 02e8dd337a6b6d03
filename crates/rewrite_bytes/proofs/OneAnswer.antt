-- Two answers that meet the contract of the rewrite agree, and so does what they leave in the output.
use Rattle.std.specs.Prelude.{ℕ, Result}
use Rattle.refusal.specs.declared.Refusal.{Refusal}
use mathlib.Core.Path.{sym, ap, ◌∙◌}
use denote.Ref.{at_last}
use Rattle.general.specs.OneAnswer.{OneAnswer, OneExit}
use Rattle.general.specs.Changed.{Changed}
use Rattle.rewrite_bytes.proofs as here

pub rewrite-one : OneAnswer 2 here.rewrite.Kinds.ps here.rewrite.Kinds.r here.rewrite.Reads.Post
rewrite-one κs a z z' e e' p q = ap (λ (g : Changed (Result ℕ Refusal)). g.said) (p ∙ sym q)

pub rewrite-exit : OneExit 2 here.rewrite.Kinds.ps here.rewrite.Kinds.r here.rewrite.Reads.Post
rewrite-exit κs a z z' last last' p q = λ i. (a.0, (at_last a.1.0 (ap (λ (g : Changed (Result ℕ Refusal)). g.bytes) (p ∙ sym q) i), tt))
