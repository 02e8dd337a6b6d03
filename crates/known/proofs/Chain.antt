-- What is known on a walk along a chain: what it has passed and where it stands.
use Rattle.std.proofs.Common.{◌≡◌, ℕ, ◌-◌, ◌<◌, ◌≤◌}

-- a walk along bucket b that has come to v has passed no index with P
pub record Walk (h : ℕ → ℕ) (P : ℕ → Type 0) (b n v : ℕ) : Type 0 where
  pub bound : v ≤ n
  pub passed : (j : ℕ) → v ≤ j → j < n → P j → ⊥
  pub hit : 0 < v → h (v - 1) ≡ b
