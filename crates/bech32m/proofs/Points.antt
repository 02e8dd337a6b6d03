-- Points that compute: strings that BIP 350 lists as valid and as invalid, and one in both cases; the sum behind the prefix "cx3d"; characters of values.
use mathlib.Core.Bool.{true, false}
use mathlib.Core.Path.{◌≡◌, refl}
use mathlib.Core.List.{[], ◌∷◌}
use Rattle.bech32m.specs.Text.{first_from, last_from}
use Rattle.bech32m.specs.Checksum.{character_of, index_of, value_of, step, sum_from, polymod, expanded}
use Rattle.bech32m.specs.Valid.{separator_of, is_mixed, is_valid_at, is_valid}

-- "A1LQFN3A"
upper-valid : is_valid (65 ∷ 49 ∷ 76 ∷ 81 ∷ 70 ∷ 78 ∷ 51 ∷ 65 ∷ []) ≡ true
unfolding is_valid is_valid_at is_mixed separator_of first_from last_from value_of index_of sum_from step
upper-valid = refl

-- "a1lqfn3a"
lower-valid : is_valid (97 ∷ 49 ∷ 108 ∷ 113 ∷ 102 ∷ 110 ∷ 51 ∷ 97 ∷ []) ≡ true
unfolding is_valid is_valid_at is_mixed separator_of first_from last_from value_of index_of sum_from step
lower-valid = refl

-- the checksum of the prefix in upper case: "M1VUXWEZ"
wrong-prefix-sum : is_valid (77 ∷ 49 ∷ 86 ∷ 85 ∷ 88 ∷ 87 ∷ 69 ∷ 90 ∷ []) ≡ false
unfolding is_valid is_valid_at is_mixed separator_of first_from last_from value_of index_of sum_from step
wrong-prefix-sum = refl

-- no prefix: "16plkw9"
no-prefix : is_valid (49 ∷ 54 ∷ 112 ∷ 108 ∷ 107 ∷ 119 ∷ 57 ∷ []) ≡ false
unfolding is_valid is_valid_at is_mixed separator_of first_from last_from value_of index_of sum_from step
no-prefix = refl

-- too short a checksum: "in1muywd"
short-checksum : is_valid (105 ∷ 110 ∷ 49 ∷ 109 ∷ 117 ∷ 121 ∷ 119 ∷ 100 ∷ []) ≡ false
unfolding is_valid is_valid_at is_mixed separator_of first_from last_from value_of index_of sum_from step
short-checksum = refl

-- no separator: "qyrz8wqd2c9m"
no-separator : is_valid (113 ∷ 121 ∷ 114 ∷ 122 ∷ 56 ∷ 119 ∷ 113 ∷ 100 ∷ 50 ∷ 99 ∷ 57 ∷ 109 ∷ []) ≡ false
unfolding is_valid is_valid_at is_mixed separator_of first_from last_from value_of index_of sum_from step
no-separator = refl

-- both cases: "a1lqfn3A"
two_cases : is_valid (97 ∷ 49 ∷ 108 ∷ 113 ∷ 102 ∷ 110 ∷ 51 ∷ 65 ∷ []) ≡ false
unfolding is_valid is_valid_at is_mixed separator_of first_from last_from value_of index_of sum_from step
two_cases = refl

-- "cx3d"
prefix-sum : polymod (expanded (99 ∷ 120 ∷ 51 ∷ 100 ∷ [])) ≡ 0x31258350
unfolding sum_from step
prefix-sum = refl

first-value : value_of (character_of 0) ≡ 0
unfolding value_of index_of
first-value = refl

middle-value : value_of (character_of 15) ≡ 15
unfolding value_of index_of
middle-value = refl

last-value : value_of (character_of 31) ≡ 31
unfolding value_of index_of
last-value = refl
