-- Computed examples: four cells and their labels, and strings for each refusal of a label.
use mathlib.Core.Bool.{true}
use mathlib.Core.List.{List, [], ◌∷◌}
use mathlib.Core.Path.{◌≡◌, refl}
use Prim.Native.Nat.{ℕ}
use Rattle.refusal.specs.declared.Cell.{Cell}
use Rattle.refusal.specs.declared.LabelFault.TheVariants.{Prefix, MixedCase, Character, Length, Checksum, Padding}
use Rattle.refusal.specs.Refusals.{raw_of}
use Rattle.bech32m.specs.Text.{first_from, last_from}
use Rattle.bech32m.specs.Checksum.{index_of, value_of, digits, number_from, step, sum_from, created}
use Rattle.bech32m.specs.Valid.{separator_of, is_mixed, is_valid_at, is_valid}
use Rattle.label.specs.Label.{data_of, label_of, unlike_from, mixed_at, unknown_at, bits_in, mistyped, read_values, read_of}

-- ---- cells and their labels

abbrev cell : ℕ → ℕ → Cell
cell high low = record { high = high; low = low }

-- "cx3d1qqqqqqqqqqqqqqqqqqqqqqqqqqchrr7t"
pub written-zero : label_of (cell 0x0 0x0) ≡ 99 ∷ 120 ∷ 51 ∷ 100 ∷ 49 ∷ 113 ∷ 113 ∷ 113 ∷ 113 ∷ 113 ∷ 113 ∷ 113 ∷ 113 ∷ 113 ∷ 113 ∷ 113 ∷ 113 ∷ 113 ∷ 113 ∷ 113 ∷ 113 ∷ 113 ∷ 113 ∷ 113 ∷ 113 ∷ 113 ∷ 113 ∷ 113 ∷ 113 ∷ 113 ∷ 113 ∷ 99 ∷ 104 ∷ 114 ∷ 114 ∷ 55 ∷ 116 ∷ []
unfolding label_of data_of raw_of digits created sum_from step
written-zero = refl

-- "cx3d1llllllllllllllllllllllllluzkm08t"
pub written-ones : label_of (cell 0xFFFFFFFFFFFFFFFF 0xFFFFFFFFFFFFFFFF) ≡ 99 ∷ 120 ∷ 51 ∷ 100 ∷ 49 ∷ 108 ∷ 108 ∷ 108 ∷ 108 ∷ 108 ∷ 108 ∷ 108 ∷ 108 ∷ 108 ∷ 108 ∷ 108 ∷ 108 ∷ 108 ∷ 108 ∷ 108 ∷ 108 ∷ 108 ∷ 108 ∷ 108 ∷ 108 ∷ 108 ∷ 108 ∷ 108 ∷ 108 ∷ 108 ∷ 117 ∷ 122 ∷ 107 ∷ 109 ∷ 48 ∷ 56 ∷ 116 ∷ []
unfolding label_of data_of raw_of digits created sum_from step
written-ones = refl

-- "cx3d1qqqqqq0lllll7qqqqqqs5hqrqq75s4gn", of document 01's first known cell
pub written_known : label_of (cell 0x00000001FFFFFFFF 0x000000010A5C0300) ≡ 99 ∷ 120 ∷ 51 ∷ 100 ∷ 49 ∷ 113 ∷ 113 ∷ 113 ∷ 113 ∷ 113 ∷ 113 ∷ 48 ∷ 108 ∷ 108 ∷ 108 ∷ 108 ∷ 108 ∷ 55 ∷ 113 ∷ 113 ∷ 113 ∷ 113 ∷ 113 ∷ 113 ∷ 115 ∷ 53 ∷ 104 ∷ 113 ∷ 114 ∷ 113 ∷ 113 ∷ 55 ∷ 53 ∷ 115 ∷ 52 ∷ 103 ∷ 110 ∷ []
unfolding label_of data_of raw_of digits created sum_from step
written_known = refl

-- "cx3d1qqqqqqqqqqqqqqqqqqqqqqqrqq73cnu2"
pub written_low : label_of (cell 0x0 0x300) ≡ 99 ∷ 120 ∷ 51 ∷ 100 ∷ 49 ∷ 113 ∷ 113 ∷ 113 ∷ 113 ∷ 113 ∷ 113 ∷ 113 ∷ 113 ∷ 113 ∷ 113 ∷ 113 ∷ 113 ∷ 113 ∷ 113 ∷ 113 ∷ 113 ∷ 113 ∷ 113 ∷ 113 ∷ 113 ∷ 113 ∷ 113 ∷ 113 ∷ 114 ∷ 113 ∷ 113 ∷ 55 ∷ 51 ∷ 99 ∷ 110 ∷ 117 ∷ 50 ∷ []
unfolding label_of data_of raw_of digits created sum_from step
written_low = refl

-- ---- refusals

-- ""
pub refused-empty : read_of ([]) ≡ mistyped Prefix 0
unfolding read_of unlike_from mixed_at unknown_at read_values bits_in number_from value_of index_of first_from sum_from step
refused-empty = refl

-- "cy"
pub refused-second : read_of (99 ∷ 121 ∷ []) ≡ mistyped Prefix 1
unfolding read_of unlike_from mixed_at unknown_at read_values bits_in number_from value_of index_of first_from sum_from step
refused-second = refl

-- "cX4d1"
pub refused-third : read_of (99 ∷ 88 ∷ 52 ∷ 100 ∷ 49 ∷ []) ≡ mistyped Prefix 2
unfolding read_of unlike_from mixed_at unknown_at read_values bits_in number_from value_of index_of first_from sum_from step
refused-third = refl

-- "cX3d1"
pub refused-mixed : read_of (99 ∷ 88 ∷ 51 ∷ 100 ∷ 49 ∷ []) ≡ mistyped MixedCase 1
unfolding read_of unlike_from mixed_at unknown_at read_values bits_in number_from value_of index_of first_from sum_from step
refused-mixed = refl

-- "cx3d1"
pub refused-length : read_of (99 ∷ 120 ∷ 51 ∷ 100 ∷ 49 ∷ []) ≡ mistyped Length 5
unfolding read_of unlike_from mixed_at unknown_at read_values bits_in number_from value_of index_of first_from sum_from step
refused-length = refl

-- the zero cell with the checksum of BIP 173: "cx3d1qqqqqqqqqqqqqqqqqqqqqqqqqqdtn0mf"
pub refused-bech32-twin : read_of (99 ∷ 120 ∷ 51 ∷ 100 ∷ 49 ∷ 113 ∷ 113 ∷ 113 ∷ 113 ∷ 113 ∷ 113 ∷ 113 ∷ 113 ∷ 113 ∷ 113 ∷ 113 ∷ 113 ∷ 113 ∷ 113 ∷ 113 ∷ 113 ∷ 113 ∷ 113 ∷ 113 ∷ 113 ∷ 113 ∷ 113 ∷ 113 ∷ 113 ∷ 113 ∷ 113 ∷ 100 ∷ 116 ∷ 110 ∷ 48 ∷ 109 ∷ 102 ∷ []) ≡ mistyped Checksum 37
unfolding read_of unlike_from mixed_at unknown_at read_values bits_in number_from value_of index_of first_from sum_from step
refused-bech32-twin = refl

-- "cx3d1qqqqqqqqqqqqqqqqqqqqqqqqqp9phkre"
pub refused-padding : read_of (99 ∷ 120 ∷ 51 ∷ 100 ∷ 49 ∷ 113 ∷ 113 ∷ 113 ∷ 113 ∷ 113 ∷ 113 ∷ 113 ∷ 113 ∷ 113 ∷ 113 ∷ 113 ∷ 113 ∷ 113 ∷ 113 ∷ 113 ∷ 113 ∷ 113 ∷ 113 ∷ 113 ∷ 113 ∷ 113 ∷ 113 ∷ 113 ∷ 113 ∷ 113 ∷ 112 ∷ 57 ∷ 112 ∷ 104 ∷ 107 ∷ 114 ∷ 101 ∷ []) ≡ mistyped Padding 30
unfolding read_of unlike_from mixed_at unknown_at read_values bits_in number_from value_of index_of first_from sum_from step
refused-padding = refl

-- "cx3d11qqqqqqqqqqqqqqqqqqqqqqqqqyssm7c", which BIP 350 calls valid: its separator is the last `1`
abbrev later : List ℕ
later = 99 ∷ 120 ∷ 51 ∷ 100 ∷ 49 ∷ 49 ∷ 113 ∷ 113 ∷ 113 ∷ 113 ∷ 113 ∷ 113 ∷ 113 ∷ 113 ∷ 113 ∷ 113 ∷ 113 ∷ 113 ∷ 113 ∷ 113 ∷ 113 ∷ 113 ∷ 113 ∷ 113 ∷ 113 ∷ 113 ∷ 113 ∷ 113 ∷ 113 ∷ 113 ∷ 113 ∷ 121 ∷ 115 ∷ 115 ∷ 109 ∷ 55 ∷ 99 ∷ []

pub refused-later : read_of later ≡ mistyped Character 5
unfolding read_of unlike_from mixed_at unknown_at read_values bits_in number_from value_of index_of first_from sum_from step
refused-later = refl

pub valid-later : is_valid later ≡ true
unfolding is_valid is_mixed is_valid_at separator_of value_of index_of first_from last_from sum_from step
valid-later = refl
