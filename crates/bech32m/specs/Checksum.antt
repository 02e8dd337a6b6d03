-- BIP 173's checksum with the constant of BIP 350, over values of five bits. The words in quotes are those of the Python in BIP 173 and BIP 350. Definitions only.
use Rattle.std.specs.Prelude.{Bool, cond, List, [], ◌∷◌, ◌++◌, map, ℕ, zero, suc, ◌+◌, ◌*◌, ◌/◌, ◌%◌, ◌^◌, eqb, get_or, replicate}
use Rattle.std.specs.Int.Bits.{bit_xor}
use Rattle.bech32m.specs.Text.{lowered}

-- ---- the charset, both ways

-- "qpzry9x8gf2tvdw0s3jn54khce6mua7l"
abbrev pub charset : List ℕ
charset =
    113 ∷ 112 ∷ 122 ∷ 114 ∷ 121 ∷ 57 ∷ 120 ∷ 56 ∷ 103 ∷ 102 ∷ 50 ∷ 116 ∷ 118 ∷ 100 ∷ 119 ∷ 48 ∷ 115 ∷ 51 ∷ 106 ∷ 110 ∷ 53 ∷ 52 ∷ 107 ∷ 104 ∷ 99 ∷ 101 ∷ 54 ∷ 109 ∷ 117 ∷ 97 ∷ 55 ∷ 108 ∷ []

-- the character of a value below 32; 0 of another number
abbrev pub character_of : ℕ → ℕ
character_of v = get_or charset v 0

-- the first place of a character in a list; the list's length where it does not stand there
unfoldable pub index_of : ℕ → List ℕ → ℕ
index_of b [] = 0
index_of b (x ∷ l) = cond (eqb b x) 0 (suc (index_of b l))

-- the value of a character in either case; 32 where it has none
unfoldable pub value_of : ℕ → ℕ
unfolding index_of
value_of b = index_of (lowered b) charset

-- ---- values of five bits and numbers

-- the k lowest digits of a number in base 32, the highest first: "[(polymod >> 5 * (5 - i)) & 31 for i in range(6)]" for k = 6
unfoldable pub digits : ℕ → ℕ → List ℕ
digits zero n = []
digits (suc k) n = n / 32 ^ k % 32 ∷ digits k n

-- the number whose digits in base 32 are those of n and behind them these
unfoldable pub number_from : ℕ → List ℕ → ℕ
number_from n [] = n
number_from n (v ∷ vs) = number_from (n * 32 + v) vs

-- ---- the checksum

-- "GEN[i] if ((b >> i) & 1) else 0", of b >> i and GEN[i]
abbrev pub chosen : ℕ → ℕ → ℕ
chosen b g = cond (eqb (b % 2) 1) g 0

-- the five of them together
abbrev pub generators : ℕ → ℕ
generators b =
    bit_xor (bit_xor (bit_xor (bit_xor (chosen b 0x3b6a57b2) (chosen (b / 2) 0x26508e6d)) (chosen (b / 4) 0x1ea119fa)) (chosen (b / 8) 0x3d4233dd)) (chosen (b / 16) 0x2a1462b3)

-- "b = (chk >> 25)", "chk = (chk & 0x1ffffff) << 5 ^ v", and the generators of b
unfoldable pub step : ℕ → ℕ → ℕ
step chk v = bit_xor (bit_xor (chk % 2 ^ 25 * 2 ^ 5) v) (generators (chk / 2 ^ 25))

-- "for v in values", from a sum that is made already
unfoldable pub sum_from : ℕ → List ℕ → ℕ
unfolding step
sum_from chk [] = chk
sum_from chk (v ∷ vs) = sum_from (step chk v) vs

-- "chk = 1"
abbrev pub polymod : List ℕ → ℕ
polymod values = sum_from 1 values

-- "[ord(x) >> 5 for x in s]"
abbrev pub highs : List ℕ → List ℕ
highs s = map (λ (x : ℕ). x / 32) s

-- "[ord(x) & 31 for x in s]"
abbrev pub lows : List ℕ → List ℕ
lows s = map (λ (x : ℕ). x % 32) s

-- "[ord(x) >> 5 for x in s] + [0] + [ord(x) & 31 for x in s]"
abbrev pub expanded : List ℕ → List ℕ
expanded s = highs s ++ 0 ∷ lows s

-- "BECH32M_CONST = 0x2bc830a3"
abbrev pub constant : ℕ
constant = 0x2bc830a3

-- "bech32m_polymod(bech32m_hrp_expand(hrp) + data) == BECH32M_CONST"
abbrev pub verified : List ℕ → List ℕ → Bool
verified hrp values = eqb (polymod (expanded hrp ++ values)) constant

-- "polymod = bech32m_polymod(values + [0,0,0,0,0,0]) ^ BECH32M_CONST", and its six digits, as above
unfoldable pub created : List ℕ → List ℕ → List ℕ
unfolding sum_from digits
created hrp values = digits 6 (bit_xor (polymod ((expanded hrp ++ values) ++ replicate 6 0)) constant)
