-- What `find` answers: a record with the cell, or that none of the known ones has it. For contracts inside. Definitions only.
use Rattle.std.specs.Prelude.{◌≡◌, ℕ, ◌<◌, List, ◌≢◌, Option, Some, None}
use Rattle.refusal.specs.declared.Cell.{Cell}
use Rattle.known.specs.Inner.Known.{cell_in}

-- the answer is right: among the n known cells that record has the cell, or none has it
abbrev pub Right : List ℕ → ℕ → ℕ → Cell → Option ℕ → Type 0
Right l room n c (Some i) = (i < n) × (cell_in l room i ≡ c)
Right l room n c None = (j : ℕ) → j < n → cell_in l room j ≢ c
