-- What theorems say of labels: letters in upper case, and what BIP 350 has to say of a label. Definitions only.
use Rattle.refusal.specs.declared.Refusal.{Refusal}
use Rattle.std.specs.Prelude.{true, cond, List, map, Some, ◌⊎◌, ◌≡◌, ℕ, ◌-◌, length, take, Result, Ok}
use Rattle.refusal.specs.declared.Cell.{Cell}
use Rattle.refusal.specs.declared.LabelFault.TheVariants.{Padding}
use Rattle.bech32m.specs.Text.{is_lower, lowered}
use Rattle.bech32m.specs.Valid.{separator_of, is_valid}
use Rattle.label.specs.Label.{prefix, label_width, mistyped}

-- a letter in upper case; what is no letter stays
abbrev pub uppered : ℕ → ℕ
uppered b = cond (is_lower b) (b - 32) b

-- an answer that is past all tests but that of the padding, which is not BIP 350's: a cell, or the refusal for the padding
abbrev pub IsPast : Result Cell Refusal → Type 0
IsPast a = ((c : Cell) × (a ≡ Ok c)) ⊎ (a ≡ mistyped Padding 30)

-- a valid string of BIP 350 with a label's length and prefix
pub record IsLabel (s : List ℕ) : Type 0 where
  pub long : length s ≡ label_width
  pub valid : is_valid s ≡ true
  pub separated : separator_of s ≡ Some 4
  pub prefixed : map lowered (take 4 s) ≡ prefix
