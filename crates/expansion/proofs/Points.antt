-- Bytes that no search left, computed: rooms of one known cell and one waiting entry, the cell 0 and its entry. What cannot be searched on is BadWorkspace, and what can is searched on.
use Rattle.expansion.specs.declared.Step.{Step}
use Rattle.std.specs.Prelude.{Ok, Err}
use mathlib.Core.Path.{◌≡◌, refl}
use mathlib.Core.List.{List, [], ◌∷◌, ◌++◌}
use Prim.Native.Nat.{ℕ}
use lib.ListN.{replicate}
use Rattle.refusal.specs.declared.Cell.{Cell}
use Rattle.refusal.specs.declared.Refusal.TheVariants.{NoPathFound, BadWorkspace}
use Rattle.words.specs.Word.{word, number, ordered}
use Rattle.waiting.specs.Inner.Sift.{pop_in}
use Rattle.known.specs.Inner.Known.{mixed_of, bucket_of, cell_in}
use Rattle.known.specs.Inner.Seek.{seek_in, find_in}
use Rattle.search_rows.specs.Inner.Rows.{row_in}
use Rattle.expansion.specs.declared.Plan.{Plan}
use Rattle.expansion.specs.declared.Step.TheVariants as step
use Rattle.expansion.specs.Inner.Bytes.{After, sizes_of, due_in, advance_in, pops_in, run_in, resume_in}

abbrev nought : Cell
nought = record { high = 0; low = 0 }

abbrev other : Cell
other = record { high = 0; low = 1 }

abbrev plan : Plan
plan = record { start = nought; goal = other; known = 1; waiting = 1; limit = 9; rule = 0 }

-- one chain whose head is so many, one record of the cell 0 with this mark and these bytes of its g
abbrev known : ℕ → ℕ → List ℕ → List ℕ
known head mark g = (head ∷ replicate 23 0) ++ ((mark ∷ 0 ∷ 0 ∷ 0 ∷ []) ++ (g ++ replicate 8 0))

abbrev zero-cost : List ℕ
zero-cost = replicate 8 0

-- the entry of the cell 0
abbrev entry : List ℕ
entry = replicate 32 0

-- from these bytes, with so many known, waiting and counted, to so many counts
abbrev from : List ℕ → ℕ → ℕ → ℕ → ℕ → After Step
from w known waiting count until = resume_in plan [] until w entry (sizes_of known waiting count)

pub record Altered : Type 0 where
  -- sizes above their rooms, and a count above the known cells
  pub known-above : from (known 1 0 zero-cost) 2 1 0 5 ≡ (known 1 0 zero-cost, entry, Err BadWorkspace)
  pub waiting-above : from (known 1 0 zero-cost) 1 2 0 5 ≡ (known 1 0 zero-cost, entry, Err BadWorkspace)
  pub count-above : from (known 1 0 zero-cost) 1 1 2 5 ≡ (known 1 0 zero-cost, entry, Err BadWorkspace)
  -- no chain leads to the waiting cell: none has it, or its head is above the known cells
  pub not-chained : from (known 0 0 zero-cost) 1 1 0 5 ≡ (known 0 0 zero-cost, entry, Err BadWorkspace)
  pub head-above : from (known 2 0 zero-cost) 1 1 0 5 ≡ (known 2 0 zero-cost, entry, Err BadWorkspace)
  -- its g is a NaN
  pub no-cost : from (known 1 0 (replicate 8 255)) 1 1 0 5 ≡ (known 1 0 (replicate 8 255), entry, Err BadWorkspace)
  -- as many are counted as are known
  pub all-counted : from (known 1 0 zero-cost) 1 1 1 5 ≡ (known 1 0 zero-cost, entry, Err BadWorkspace)
  -- it is closed: to skip it is free, so the search ends although no count is left
  pub skipped : from (known 1 1 zero-cost) 1 1 1 0 ≡ (known 1 1 zero-cost, entry, Err (NoPathFound (record { start = nought; goal = other })))
  -- it would be counted: the search is paused
  pub paused : from (known 1 0 zero-cost) 1 1 0 0 ≡ (known 1 0 zero-cost, entry, Ok (step.Going (sizes_of 1 1 0)))

pub altered : Altered
unfolding resume_in run_in pops_in due_in advance_in pop_in find_in seek_in bucket_of mixed_of row_in cell_in word number ordered
altered =
    record {
      known-above = refl;
      waiting-above = refl;
      count-above = refl;
      not-chained = refl;
      head-above = refl;
      no-cost = refl;
      all-counted = refl;
      skipped = refl;
      paused = refl;
    }
