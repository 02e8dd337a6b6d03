-- The heuristic as the code hands it on: the bits of a distance, or a refusal. Definitions only.
use Rattle.refusal.specs.declared.Refusal.{Refusal}
use Rattle.std.specs.Prelude.{ℕ, Result, Ok, Err}
use Rattle.search.specs.Search.{OrRefused, is, refused}
use Rattle.search.specs.Costs.{Cost}

-- an estimate as the definition of the search has it
abbrev pub told_ahead : Result ℕ Refusal → OrRefused ℕ
told_ahead (Ok b) = is b
told_ahead (Err r) = refused r

-- the bits of an estimate are those of a cost
abbrev pub SoundAhead : Result ℕ Refusal → Type 0
SoundAhead (Ok b) = Cost b
SoundAhead (Err r) = Unit {0}
