-- The order of all bit patterns that IEEE 754-2019 defines in 5.10, `total_order`, clause by clause, and a key whose order as a number is that order. Definitions only.
use Rattle.std.specs.Prelude.{ℕ, ◌+◌, ◌-◌, ◌/◌, ◌%◌, ◌^◌, Bool, true, false, cond, not, ◌&&◌, ◌==◌, from_bits, nat_le, nat_lt}
use Rattle.std.specs.Bool.{beq}
use Rattle.std.specs.Float.{binary64}
use Rattle.std.specs.Float.Ieee.{nan_bits, lt}

-- The sign's bit is set.
abbrev pub negative : ℕ → Bool
negative b = nat_le (2 ^ 63) b

-- A NaN is quiet where bit 51 is set, and signalling where it is clear.
abbrev pub quiet : ℕ → Bool
quiet b = b / 2 ^ 51 % 2 == 1

-- A NaN's payload: its bits below bit 51.
abbrev pub payload : ℕ → ℕ
payload b = b % 2 ^ 51

-- c) Of two equal numbers only +0 and -0, in this order, are out of order.
unfoldable pub equals : ℕ → ℕ → Bool
equals a b = cond (a == 0 && b == 2 ^ 63) false true

-- a) x < y is in order, b) x > y is not.
unfoldable pub numbers : ℕ → ℕ → Bool
numbers a b =
    cond (lt (from_bits binary64 a) (from_bits binary64 b)) true
    (cond (lt (from_bits binary64 b) (from_bits binary64 a)) false
    (equals a b))

-- d) 3) ii) and iii), of two NaNs with a positive sign: signalling is below quiet, and within a class the lesser payload is below the greater.
unfoldable pub classes : ℕ → ℕ → Bool
classes a b = cond (beq (quiet a) (quiet b)) (nat_le (payload a) (payload b)) (quiet b)

-- d) 3) i), of two NaNs: a negative sign is below a positive. Between two of a negative sign the classes are reversed.
unfoldable pub nans : ℕ → ℕ → Bool
nans a b = cond (beq (negative a) (negative b)) (cond (negative a) (classes b a) (classes a b)) (negative a)

-- Whether x is at or below y. d) 1) A NaN with a negative sign is below every number. d) 2) One with a positive sign is above.
unfoldable pub total_order : ℕ → ℕ → Bool
total_order a b =
    cond (nan_bits binary64 a)
    (cond (nan_bits binary64 b) (nans a b) (negative a))
    (cond (nan_bits binary64 b) (not (negative b)) (numbers a b))

-- A pattern's key: a positive pattern goes to the upper half of the numbers, and a negative one, turned around, to the lower.
unfoldable pub total_key : ℕ → ℕ
total_key b = cond (nat_lt b (2 ^ 63)) (b + 2 ^ 63) (2 ^ 64 - 1 - b)

-- The pattern that has a key.
unfoldable pub bits_of_key : ℕ → ℕ
bits_of_key k = cond (nat_lt k (2 ^ 63)) (2 ^ 64 - 1 - k) (k - 2 ^ 63)
