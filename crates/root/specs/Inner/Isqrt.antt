-- The whole root of a whole number, for the contract of the loop that finds it. Definitions only.
use Rattle.std.specs.Prelude.{ℕ, suc, ◌*◌, ◌<◌, ◌≤◌}

-- s is the largest number whose square is at most n
pub record IsRoot (n s : ℕ) : Type 0 where
  pub low : s * s ≤ n
  pub high : n < suc s * suc s
