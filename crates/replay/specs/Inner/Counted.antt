-- What is counted where a list of records is replayed. Definitions only.
use Rattle.std.specs.Prelude.{ℕ, ◌≤◌, ◌<◌, ◌≡◌, IfSome}
use Rattle.replay.specs.declared.each.Tally.{Tally}

-- So many records are counted, no more of them differ than there are, and the first that does is one of them.
pub record Counted (records : ℕ) (t : Tally) : Type 0 where
  pub whole : t.answers ≡ records
  pub differing : t.differ ≤ records
  pub within : IfSome t.first (λ k. k < records)
