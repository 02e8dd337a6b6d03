-- Cell labels on paper, document 02, [1]: "the `cx3d` strings of `to_bech32m` and `from_bech32m` in id.rs, by BIP 350 over the 16 big-endian bytes. A label is 37 characters, `cx3d1`
-- first, compared without regard to case." Definitions only.
use Rattle.refusal.specs.declared.Refusal.{Refusal}
use Rattle.std.specs.Prelude.{Bool, cond, List, [], ◌∷◌, ◌++◌, map, Option, Some, None, ℕ, ◌+◌, ◌*◌, ◌/◌, ◌%◌, eqb, length, get_or, take, drop, Result, Ok, Err}
use Rattle.general.specs.Refuse.{refuse_unless}
use Rattle.refusal.specs.declared.Cell.{Cell}
use Rattle.refusal.specs.declared.LabelFault.{LabelFault}
use Rattle.refusal.specs.declared.LabelFault.TheVariants.{Prefix, MixedCase, Character, Length, Checksum, Padding}
use Rattle.refusal.specs.declared.Refusal.TheVariants.{BadLabel}
use Rattle.refusal.specs.Refusals.{raw_of, cell_of}
use Rattle.bech32m.specs.Text.{is_lower, is_upper, lowered, first_from}
use Rattle.bech32m.specs.Checksum.{character_of, value_of, digits, number_from, created, verified, sum_from}
use Rattle.bech32m.specs.Valid.{is_unknown}

-- "cx3d"
abbrev pub prefix : List ℕ
prefix = 99 ∷ 120 ∷ 51 ∷ 100 ∷ []

-- "`cx3d1` first"
abbrev pub beginning : List ℕ
beginning = prefix ++ 49 ∷ []

-- how many characters a label has
abbrev pub label_width : ℕ
label_width = 37

-- how many of them are data: 26 values of five bits, and six of checksum behind them
abbrev pub data_width : ℕ
data_width = 26

-- ---- writing

-- the 128 bits of the 16 big-endian bytes and two zero bits behind them, five bits a value
unfoldable pub data_of : Cell → List ℕ
unfolding raw_of digits
data_of c = digits data_width (raw_of c * 4)

-- a cell's label, in lower case
unfoldable pub label_of : Cell → List ℕ
unfolding data_of created
label_of c = beginning ++ map character_of (data_of c ++ created prefix (data_of c))

-- ---- reading

-- "30 for the prefix": the first character that is not the one expected, case aside, or the end of a string that ends before; the first of both stands at place i
unfoldable pub unlike_from : ℕ → List ℕ → List ℕ → Option ℕ
unlike_from i [] s = None
unlike_from i (e ∷ expected) [] = Some i
unlike_from i (e ∷ expected) (b ∷ s) = cond (eqb (lowered b) e) (unlike_from (i + 1) expected s) (Some i)

-- the case that a first letter is not of
abbrev pub other_case : ℕ → ℕ → Bool
other_case b = cond (is_lower b) is_upper is_lower

-- "31: the first letter unlike those before it": behind a right prefix the first character is a letter, and all letters before this one are of its case
unfoldable pub mixed_at : List ℕ → Option ℕ
unfolding first_from
mixed_at s = first_from (other_case (get_or s 0 0)) 0 s

-- "32 character": the first behind the prefix that has no value
unfoldable pub unknown_at : List ℕ → Option ℕ
unfolding first_from
unknown_at s = first_from is_unknown 5 (drop 5 s)

-- the values behind the prefix
abbrev pub values_in : List ℕ → List ℕ
values_in s = map value_of (drop 5 s)

-- the 130 bits of the data
unfoldable pub bits_in : List ℕ → ℕ
unfolding number_from value_of
bits_in s = number_from 0 (take data_width (values_in s))

-- refused for this, at this place
abbrev pub mistyped : LabelFault → ℕ → Result Cell Refusal
mistyped fault place = Err (BadLabel (record { fault = fault; place = place }))

-- refused where there is such a place
abbrev pub refuse_at : LabelFault → Option ℕ → Result Cell Refusal → Result Cell Refusal
refuse_at fault (Some place) rest = mistyped fault place
refuse_at fault None rest = rest

-- "33 length, 34 checksum, 35 non-zero padding, in that order"; "the string's length for 33, 34", "35: place 30"
unfoldable pub read_values : List ℕ → Result Cell Refusal
unfolding bits_in sum_from value_of
read_values s =
    refuse_unless (eqb (length s) label_width) (mistyped Length (length s))
    (refuse_unless (verified prefix (values_in s)) (mistyped Checksum (length s))
    (refuse_unless (eqb (bits_in s % 4) 0) (mistyped Padding 30)
    (Ok (cell_of (bits_in s / 4)))))

-- the cell of a label, or the first refusal
unfoldable pub read_of : List ℕ → Result Cell Refusal
unfolding unlike_from mixed_at unknown_at read_values
read_of s =
    refuse_at Prefix (unlike_from 0 beginning s)
    (refuse_at MixedCase (mixed_at s)
    (refuse_at Character (unknown_at s)
    (read_values s)))
