-- Two answers that meet a call's contract agree, and so does what they leave in the memory that was lent to them: rings and shells.
use mathlib.Core.Path.{sym, ap, ◌∙◌}
use denote.Ref.{at_last}
use Rattle.tishkolan.proofs as here
use Rattle.general.specs.OneAnswer.{OneAnswer, OneExit}
use Rattle.face.specs.Rings.{RingTold}

pub ring-one : OneAnswer 3 here.rings.tishkolan_k_ring.Kinds.ps here.rings.tishkolan_k_ring.Kinds.r here.rings.tishkolan_k_ring.Reads.Post
ring-one κs a z z' e e' p q = ap (λ (g : RingTold). g.told) (p ∙ sym q)

pub ring-exit : OneExit 3 here.rings.tishkolan_k_ring.Kinds.ps here.rings.tishkolan_k_ring.Kinds.r here.rings.tishkolan_k_ring.Reads.Post
ring-exit κs a z z' last last' p q =
    λ i. (a.0, (a.1.0, (a.1.1.0, (a.1.1.1.0, (at_last a.1.1.1.1.0 (ap (λ (g : RingTold). g.workspace) (p ∙ sym q) i), (at_last a.1.1.1.1.1.0 (ap (λ (g : RingTold). g.output) (p ∙ sym q) i), tt))))))

pub shell-one : OneAnswer 3 here.rings.tishkolan_k_shell.Kinds.ps here.rings.tishkolan_k_shell.Kinds.r here.rings.tishkolan_k_shell.Reads.Post
shell-one κs a z z' e e' p q = ap (λ (g : RingTold). g.told) (p ∙ sym q)

pub shell-exit : OneExit 3 here.rings.tishkolan_k_shell.Kinds.ps here.rings.tishkolan_k_shell.Kinds.r here.rings.tishkolan_k_shell.Reads.Post
shell-exit κs a z z' last last' p q =
    λ i. (a.0, (a.1.0, (a.1.1.0, (a.1.1.1.0, (at_last a.1.1.1.1.0 (ap (λ (g : RingTold). g.workspace) (p ∙ sym q) i), (at_last a.1.1.1.1.1.0 (ap (λ (g : RingTold). g.output) (p ∙ sym q) i), tt))))))
