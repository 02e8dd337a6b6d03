-- Two answers that meet a public function's contract agree.
use mathlib.Core.Path.{sym, ◌∙◌}
use Rattle.general.specs.OneAnswer.{OneAnswer}
use Rattle.std.specs.Prelude.{ℕ, Bool}
use denote.RattleType.{RattleType}
use denote.Param.Laws.{Laws}
use mir.Syntax.{Dict}
use Rattle.bech32m.specs.Text.{Tests}
use Rattle.bech32m.specs.contracts.first_from.F-Fn.{Ghosts, words}
use Rattle.bech32m.proofs as here

pub character-of-one : OneAnswer 0 here.charset.character_of.Kinds.ps here.charset.character_of.Kinds.r here.charset.character_of.Reads.Post
character-of-one κs a z z' e e' p q = p ∙ sym q

pub value-of-one : OneAnswer 0 here.charset.value_of.Kinds.ps here.charset.value_of.Kinds.r here.charset.value_of.Reads.Post
value-of-one κs a z z' e e' p q = p ∙ sym q

pub lowered-one : OneAnswer 0 here.lowered.Kinds.ps here.lowered.Kinds.r here.lowered.Reads.Post
lowered-one κs a z z' e e' p q = p ∙ sym q

pub is-lower-one : OneAnswer 0 here.is_lower.Kinds.ps here.is_lower.Kinds.r here.is_lower.Reads.Post
is-lower-one κs a z z' e e' p q = p ∙ sym q

pub is-upper-one : OneAnswer 0 here.is_upper.Kinds.ps here.is_upper.Kinds.r here.is_upper.Reads.Post
is-upper-one κs a z z' e e' p q = p ∙ sym q

pub is-unprintable-one : OneAnswer 0 here.is_unprintable.Kinds.ps here.is_unprintable.Kinds.r here.is_unprintable.Reads.Post
is-unprintable-one κs a z z' e e' p q = p ∙ sym q

pub is-unknown-one : OneAnswer 0 here.is_unknown.Kinds.ps here.is_unknown.Kinds.r here.is_unknown.Reads.Post
is-unknown-one κs a z z' e e' p q = p ∙ sym q

pub is-of-one : OneAnswer 0 here.is_of.Kinds.ps here.is_of.Kinds.r here.is_of.Reads.Post
is-of-one κs a z z' e e' p q = p ∙ sym q

-- where the test that a caller passes answers by a definition
pub first-from-one : (F : RattleType) (laws : Laws F) (says : Ghosts F) (d₁ d₂ d₃ d₄ : Dict) → OneAnswer 2 (here.first_from.Kinds.ps F laws) (here.first_from.Kinds.r F laws)
    (λ κs a z e. ((test : ℕ → Bool) × Tests ((words F says).post a.0) test) × here.first_from.Reads.Post F laws says d₁ d₂ d₃ d₄ κs a z e)
first-from-one F laws says d₁ d₂ d₃ d₄ κs a z z' e e' p q = p.1 p.0.0 p.0.1 ∙ sym (q.1 p.0.0 p.0.1)

pub first-of-kind-one : OneAnswer 1 here.first_of_kind.Kinds.ps here.first_of_kind.Kinds.r here.first_of_kind.Reads.Post
first-of-kind-one κs a z z' e e' p q = p ∙ sym q

pub verify-characters-one : OneAnswer 2 here.verify_characters.Kinds.ps here.verify_characters.Kinds.r here.verify_characters.Reads.Post
verify-characters-one κs a z z' e e' p q = p ∙ sym q

pub create-checksum-one : OneAnswer 2 here.create_checksum.Kinds.ps here.create_checksum.Kinds.r here.create_checksum.Reads.Post
create-checksum-one κs a z z' e e' p q = p ∙ sym q

pub is-valid-one : OneAnswer 1 here.is_valid.Kinds.ps here.is_valid.Kinds.r here.is_valid.Reads.Post
is-valid-one κs a z z' e e' p q = p ∙ sym q
