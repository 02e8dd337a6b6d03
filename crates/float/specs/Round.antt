-- Rounding to a whole number with halves away from zero, which is IEEE 754-2019's convertToIntegerTiesToAway (5.8) and what Rust's `f64::round` rounds to. Definitions only.
use Rattle.std.specs.Prelude.{ℕ, ◌+◌, ◌*◌, ◌/◌, cond, ℤ, pos, neg_ℤ, Float}
use Rattle.std.specs.Float.{nan, inf, fin}
use Rattle.std.specs.Float.Ieee.{up, down}

-- The whole number nearest to m * 2 ^ e, the larger of two as near: the whole part of m * 2 ^ e + 1 / 2.
abbrev pub whole_of : ℕ → ℤ → ℕ
whole_of m e = (2 * m * up e + down e) / (2 * down e)

-- A float rounded, as an integer: a number keeps its sign, and what is no number or infinite gives 0.
unfoldable pub whole_away : Float → ℤ
whole_away nan = pos 0
whole_away (inf s) = pos 0
whole_away (fin s m e) = cond s (neg_ℤ (pos (whole_of m e))) (pos (whole_of m e))
