-- Cases on two numbers, as functions.
use mathlib.Core.Path.{◌≡◌}
use mathlib.Core.Logic.{◌≢◌}
use Prim.Native.Nat.{ℕ, ◌≤◌, ◌<◌}
use native.Mathlib.Decide.{dec_lt, ℕ_discrete}
use native.Mathlib.Omega.{arith}

module _ {A : Type 0} (a b : ℕ) where
  pub by_less : (a < b → A) → (b ≤ a → A) → A
  by_less f g = decide (dec_lt a b)
    where
      decide : Dec (a < b) → A
      decide (yes h) = f h
      decide (no h) = g (omega arith)

  pub by_equal : (a ≡ b → A) → (a ≢ b → A) → A
  by_equal f g = decide (ℕ_discrete a b)
    where
      decide : Dec (a ≡ b) → A
      decide (yes h) = f h
      decide (no h) = g h
