-- The 128 bits of two words, moved by three or by five: what leaves one word stands in the other, and each is below 2 ^ 64.
use mathlib.Core.Path.{◌≡◌}
use Prim.Native.Nat.{ℕ, ◌+◌, ◌*◌, ◌/◌, ◌%◌, ◌^◌, ◌<◌}
use native.Mathlib.Omega.{arith}

pub down-three : (high low : ℕ) → low < 2 ^ 64 → high % 8 * 2305843009213693952 + low / 8 < 2 ^ 64
down-three high low l = omega arith

pub down-five : (high low : ℕ) → low < 2 ^ 64 → high % 32 * 576460752303423488 + low / 32 < 2 ^ 64
down-five high low l = omega arith

-- a higher word with room for five bits, and one with room for three
pub room-five : (high low : ℕ) → high * 2 ^ 64 + low < 2 ^ 123 → high < 2 ^ 59
room-five high low h = omega arith

pub room-three : (high low : ℕ) → high * 2 ^ 64 + low < 2 ^ 125 → high < 2 ^ 61
room-three high low h = omega arith

-- both words with three bits behind them
pub three-behind : (high low v : ℕ) → low < 2 ^ 64 → v < 8 → (high * 8 + low / 2305843009213693952 ≡ ((high * 2 ^ 64 + low) * 8 + v) / 2 ^ 64) × (low % 2305843009213693952 * 8 + v ≡ ((high * 2 ^ 64 + low) * 8 + v) % 2 ^ 64)
three-behind high low v l h = omega arith
