-- Two answers that meet a public function's contract agree.
use mathlib.Core.Path.{sym, ◌∙◌}
use Rattle.general.specs.OneAnswer.{OneAnswer}
use Rattle.label.proofs as here

pub to-bech32m-one : OneAnswer 0 here.to_bech32m.Kinds.ps here.to_bech32m.Kinds.r here.to_bech32m.Reads.Post
to-bech32m-one κs a z z' e e' p q = p ∙ sym q

pub from-bech32m-one : OneAnswer 1 here.from_bech32m.Kinds.ps here.from_bech32m.Kinds.r here.from_bech32m.Reads.Post
from-bech32m-one κs a z z' e e' p q = p ∙ sym q
