-- What BIP 350 calls a valid string, by the rules of BIP 173: a prefix, which it calls the human-readable part, a separator, and a data part that ends with the checksum. Definitions only.
use Rattle.std.specs.Prelude.{Bool, false, not, ◌&&◌, List, map, Option, None, Some, ℕ, ◌+◌, eqb, leb, length, take, drop}
use Rattle.bech32m.specs.declared.Kind.{Kind}
use Rattle.bech32m.specs.declared.Kind.TheVariants.{Lower, Upper, Unprintable, Unknown}
use Rattle.bech32m.specs.Text.{is_lower, is_upper, lowered, first_from, last_from, some_is}
use Rattle.bech32m.specs.Checksum.{value_of, verified, sum_from}

-- no character from 33 to 126
abbrev pub is_unprintable : ℕ → Bool
is_unprintable b = not (leb 33 b && leb b 126)

-- a character that stands for no value
abbrev pub is_unknown : ℕ → Bool
is_unknown b = eqb (value_of b) 32

-- a character of this kind
unfoldable pub is_of : Kind → ℕ → Bool
unfolding value_of
is_of Lower b = is_lower b
is_of Upper b = is_upper b
is_of Unprintable b = is_unprintable b
is_of Unknown b = is_unknown b

-- "the separator, which is always "1""
abbrev pub is_separator : ℕ → Bool
is_separator b = eqb b 49

-- "In case "1" is allowed inside the human-readable part, the last one in the string is the separator"
unfoldable pub separator_of : List ℕ → Option ℕ
unfolding last_from
separator_of s = last_from is_separator 0 s

-- "Decoders MUST NOT accept strings where some characters are uppercase and some are lowercase"
unfoldable pub is_mixed : List ℕ → Bool
unfolding first_from
is_mixed s = some_is is_lower s && some_is is_upper s

-- with the separator at p: 1 character or more before it (no more than 83, by the length of the whole), "at least 6 characters" behind it, each in the charset, and the checksum is right; "The lowercase form is used when determining a
-- character's value for checksum purposes"
unfoldable pub is_valid_at : List ℕ → Option ℕ → Bool
unfolding value_of sum_from first_from
is_valid_at s None = false
is_valid_at s (Some p) =
    leb 1 p && leb (p + 7) (length s) && not (some_is is_unknown (drop (p + 1) s)) && verified (map lowered (take p s)) (map value_of (drop (p + 1) s))

-- "at most 90 characters long", each "in the range [33-126]", in one case
unfoldable pub is_valid : List ℕ → Bool
unfolding first_from is_mixed is_valid_at separator_of
is_valid s = not (some_is is_unprintable s) && not (is_mixed s) && leb (length s) 90 && is_valid_at s (separator_of s)
