-- Two answers that meet a call's contract agree, and so does what they leave in the memory that was lent to them: the calls on labels.
use mathlib.Core.Path.{sym, ap, ◌∙◌}
use denote.Ref.{at_last}
use Rattle.general.specs.OneAnswer.{OneAnswer, OneExit}
use Rattle.face.specs.Labels.{PlaceFilled}
use Rattle.tishkolan.proofs as here
use Rattle.tishkolan.proofs.OneAnswer.{same-told, same_out}

pub to-bech32m-one : OneAnswer 2 here.labels.tishkolan_cell_to_bech32m.Kinds.ps here.labels.tishkolan_cell_to_bech32m.Kinds.r here.labels.tishkolan_cell_to_bech32m.Reads.Post
to-bech32m-one κs a z z' e e' p q = same-told p q

pub to-bech32m-exit : OneExit 2 here.labels.tishkolan_cell_to_bech32m.Kinds.ps here.labels.tishkolan_cell_to_bech32m.Kinds.r here.labels.tishkolan_cell_to_bech32m.Reads.Post
to-bech32m-exit κs a z z' last last' p q = λ i. (a.0, (at_last a.1.0 (same_out p q i), tt))

pub from-bech32m-one : OneAnswer 2 here.labels.tishkolan_cell_from_bech32m.Kinds.ps here.labels.tishkolan_cell_from_bech32m.Kinds.r here.labels.tishkolan_cell_from_bech32m.Reads.Post
from-bech32m-one κs a z z' e e' p q = ap (λ (f : PlaceFilled). f.told) (p ∙ sym q)

pub from-bech32m-exit : OneExit 2 here.labels.tishkolan_cell_from_bech32m.Kinds.ps here.labels.tishkolan_cell_from_bech32m.Kinds.r here.labels.tishkolan_cell_from_bech32m.Reads.Post
from-bech32m-exit κs a z z' last last' p q = λ i. (a.0, (at_last a.1.0 (ap (λ (f : PlaceFilled). f.out) (p ∙ sym q) i), tt))
