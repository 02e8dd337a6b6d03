-- Bytes that no search left, at the end of one, computed: one known cell, the cell 0, which is the goal, with room for no other.
use Rattle.std.specs.Prelude.{Result, Ok, Err}
use Rattle.search.specs.declared.Route.{Route}
use mathlib.Core.Path.{◌≡◌, refl}
use mathlib.Core.List.{List, ◌∷◌, ◌++◌}
use Prim.Native.Nat.{ℕ}
use lib.ListN.{replicate}
use Rattle.refusal.specs.declared.Cell.{Cell}
use Rattle.refusal.specs.declared.Room.TheVariants as room
use Rattle.refusal.specs.declared.Refusal.{Refusal}
use Rattle.refusal.specs.declared.Refusal.TheVariants.{NoRoom, BadWorkspace}
use Rattle.words.specs.Word.{word, number, ordered}
use Rattle.general.specs.Changed.{Changed, changed}
use Rattle.known.specs.Inner.Known.{mixed_of, bucket_of, cell_in}
use Rattle.known.specs.Inner.Seek.{seek_in, find_in}
use Rattle.expansion.specs.declared.Plan.{Plan}
use Rattle.expansion.specs.declared.Step.TheVariants as step
use Rattle.expansion.specs.Inner.Bytes.{sizes_of}
use Rattle.astar.specs.Inner.Bytes.{way_in, end_in}

abbrev plan_from : Cell → Plan
plan_from start = record { start = start; goal = record { high = 0; low = 0 }; known = 1; waiting = 1; limit = 9; rule = 0 }

abbrev nought : Cell
nought = record { high = 0; low = 0 }

abbrev other : Cell
other = record { high = 0; low = 1 }

-- one chain whose head is so many, and one record of the cell 0, with this number of the record before it
abbrev known : ℕ → ℕ → List ℕ
known head before = (head ∷ replicate 35 0) ++ (before ∷ replicate 7 0)

-- what is said, and an output of 16 bytes, where the search has come to its goal with one cell counted
abbrev ends : Cell → ℕ → ℕ → Changed (Result Route Refusal)
ends start head before = end_in (plan_from start) (known head before) (Ok (step.Arrived (sizes_of 1 0 1))) (replicate 16 9)

abbrev refused : Refusal → Changed (Result Route Refusal)
refused r = changed (Err r) (replicate 16 9)

pub record Altered : Type 0 where
  -- the number of the record before is no known record's
  pub no-record-before : ends other 1 7 ≡ refused BadWorkspace
  -- no chain leads to the goal
  pub goal-not-found : ends other 0 0 ≡ refused BadWorkspace
  -- a way back in a circle ends after as many steps as are counted, and is then too long
  pub circle : ends other 1 0 ≡ refused (NoRoom room.Output)
  -- a way back that has come to the start asks for nothing before it
  pub start-found : (ends nought 1 7).said ≡ Ok (record { cells = 1; cost = 0; expansions = 1 })

pub altered : Altered
unfolding way_in find_in seek_in bucket_of mixed_of cell_in word number ordered
altered = record { no-record-before = refl; goal-not-found = refl; circle = refl; start-found = refl }
