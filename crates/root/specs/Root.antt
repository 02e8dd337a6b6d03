-- Module 1 of the scope document, "Square root (new, f64). Correctly rounded, to nearest even, for +0.0 and whole-valued f64 from 1 to 2^64; anything else is OutOfRange.
-- Meaning over whole numbers." What `square_root` answers, as definitions that compute with whole numbers only. Definitions only.
use Rattle.refusal.specs.declared.Refusal.{Refusal}
use Rattle.std.specs.Prelude.{ℕ, zero, suc, ◌+◌, ◌-◌, ◌*◌, ◌/◌, ◌%◌, ◌^◌, true, false, cond, ◌&&◌, ◌==◌, from_bits, nat_le, to_bits, Float, Result, Ok, Err}
use Rattle.std.specs.Float.{nan, inf, fin, binary64}
use Rattle.std.specs.Float.Ieee.{up, down, size, round}
use Rattle.refusal.specs.declared.Refusal.TheVariants.{OutOfRange}

-- The largest s with s * s ≤ n, for an n of at most k digits of base 4: one binary digit of s for each.
unfoldable pub root_digits : ℕ → ℕ → ℕ
root_digits zero n = 0
root_digits (suc k) n = let s = 2 * root_digits k (n / 4) in cond (nat_le (suc s * suc s) n) (suc s) s

-- The largest s with s * s ≤ n.
unfoldable pub integer_root : ℕ → ℕ
unfolding root_digits size
integer_root n = root_digits (size n) n

-- How many binary digits the root of n is moved up by, so that its whole part has 54 of them: one more than an f64 keeps.
unfoldable pub shift : ℕ → ℕ
unfolding integer_root size
shift n = 54 - size (integer_root n)

-- The root's significand: the root at 54 digits, to the nearer at 53. No root is a tie.
unfoldable pub significand : ℕ → ℕ
unfolding integer_root shift
significand n = (integer_root (n * 4 ^ shift n) + 1) / 2

-- The f64 nearest to the root of the whole number n: `significand n` moved back down. `round` changes nothing here.
unfoldable pub root_whole : ℕ → Float
unfolding significand shift round
root_whole n = round binary64 false (significand n) (2 ^ (shift n - 1))

-- The root of +0 and of each whole number from 1 to 2 ^ 64; anything else is out of range. A finite value m * 2 ^ e is the fraction m * up e / down e.
unfoldable pub root_of : Float → Result Float Refusal
unfolding root_whole
root_of nan = Err OutOfRange
root_of (inf s) = Err OutOfRange
root_of (fin true m e) = Err OutOfRange
root_of (fin false m e) = cond (m * up e % down e == 0 && nat_le (m * up e / down e) (2 ^ 64)) (Ok (root_whole (m * up e / down e))) (Err OutOfRange)

-- An answer by its bits.
abbrev pub bits_of : Result Float Refusal → Result ℕ Refusal
bits_of (Ok r) = Ok (to_bits binary64 r)
bits_of (Err why) = Err why

-- The root of the f64 that a pattern of 64 bits stands for, by its bits. A NaN's pattern is out of range.
unfoldable pub root_bits_of : ℕ → Result ℕ Refusal
unfolding root_of
root_bits_of bits = bits_of (root_of (from_bits binary64 bits))
