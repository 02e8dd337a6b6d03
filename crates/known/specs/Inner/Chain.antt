-- Which records the chains of known cells have, over any functions of indices; a record is counted from 1, so that 0 is none. For contracts inside. Definitions only.
use Rattle.std.specs.Prelude.{◌≡◌, ℕ, ◌-◌, ◌<◌, ◌≤◌, ◌≢◌}

-- v is the last record of bucket b among the first m, counted from 1; it is 0 where there is none
pub record Last (h : ℕ → ℕ) (b m v : ℕ) : Type 0 where
  pub bound : v ≤ m
  pub later : (j : ℕ) → v ≤ j → j < m → h j ≢ b
  pub hit : 0 < v → h (v - 1) ≡ b

-- n records on chains: each bucket's head is its last record, and each record leads to the one before it in its bucket
pub record Chain (h head next : ℕ → ℕ) (room n : ℕ) : Type 0 where
  pub heads : (b : ℕ) → b < room → Last h b n (head b)
  pub nexts : (i : ℕ) → i < n → Last h (h i) i (next i)
