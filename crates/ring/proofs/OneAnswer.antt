-- Two answers that meet the contract of a ring or a shell agree, and so does what they leave in the memory that was lent to them.
use mathlib.Core.Path.{ap, sym, ◌∙◌}
use denote.Ref.{at_last}
use Rattle.general.specs.OneAnswer.{OneAnswer, OneExit}
use Rattle.ring.specs.Ring.{Ringed}
use Rattle.ring.proofs as here

pub k-ring-one : OneAnswer 3 here.k_ring.Kinds.ps here.k_ring.Kinds.r here.k_ring.Reads.Post
k-ring-one κs a z z' e e' p q = ap (λ (r : Ringed). r.said) (p ∙ sym q)

pub k-ring-exit : OneExit 3 here.k_ring.Kinds.ps here.k_ring.Kinds.r here.k_ring.Reads.Post
k-ring-exit κs a z z' last last' p q =
    let same = p ∙ sym q in
    λ i. (a.0, (a.1.0, (a.1.1.0, (a.1.1.1.0, (at_last a.1.1.1.1.0 (same i).workspace, (at_last a.1.1.1.1.1.0 (same i).output, tt))))))

pub k-shell-one : OneAnswer 3 here.k_shell.Kinds.ps here.k_shell.Kinds.r here.k_shell.Reads.Post
k-shell-one κs a z z' e e' p q = ap (λ (r : Ringed). r.said) (p ∙ sym q)

pub k-shell-exit : OneExit 3 here.k_shell.Kinds.ps here.k_shell.Kinds.r here.k_shell.Reads.Post
k-shell-exit κs a z z' last last' p q =
    let same = p ∙ sym q in
    λ i. (a.0, (a.1.0, (a.1.1.0, (a.1.1.1.0, (at_last a.1.1.1.1.0 (same i).workspace, (at_last a.1.1.1.1.1.0 (same i).output, tt))))))
