-- The heap in which the entries wait: the children of place i are at 4 * i + 1 to 4 * i + 4. For contracts inside. Definitions only.
use Rattle.std.specs.Prelude.{ℕ, ◌-◌, ◌/◌, ◌≤◌, ◌<◌}

-- among the first `size` keys none is less than its parent's
pub record Heap (key : ℕ → ℕ) (size : ℕ) : Type 0 where
  pub order : (j : ℕ) → 0 < j → j < size → key ((j - 1) / 4) ≤ key j
