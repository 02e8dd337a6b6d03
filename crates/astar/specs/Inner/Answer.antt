-- The way from the start to a cell's record, and what the last step shows, for contracts inside. Definitions only.
use Rattle.refusal.specs.declared.Refusal.{Refusal}
use Rattle.std.specs.Prelude.{◌≡◌, true, List, [], ℕ, Result, Ok, Err}
use Rattle.refusal.specs.declared.Refusal.TheVariants.{BadWorkspace}
use Rattle.refusal.specs.Refusals.{raw_of}
use Rattle.known.specs.Inner.Known.{cell_in}
use Rattle.search.specs.Search.{Problem, state, SearchResult, none_found, find, is_known, traced, arrived}
use Rattle.search_rows.specs.Inner.Rows.{rows_in, Rows}
use Rattle.expansion.specs.declared.Plan.{Plan}
use Rattle.expansion.specs.declared.Sizes.{Sizes}
use Rattle.expansion.specs.declared.Step.{Step}
use Rattle.expansion.specs.declared.Step.TheVariants as step

-- the raw numbers of the cells from the start to the cell of record i, by the definition
abbrev pub way_to : Plan → List ℕ → Sizes → ℕ → List ℕ
way_to p w z i = traced (raw_of p.start) z.count (rows_in w p.known z.known) (raw_of (cell_in w p.known i)) []

-- what the last step shows: the definition's result
abbrev pub shown : Problem → Plan → List ℕ → Result Step Refusal → SearchResult
shown P p w (Err r) = none_found r
shown P p w (Ok (step.Arrived z)) = arrived P (state (rows_in w p.known z.known) [] z.count)
shown P p w (Ok (step.Going z)) = none_found BadWorkspace

-- a search that has ended: refused, or arrived with the goal among its rows
abbrev pub Ended : Plan → List ℕ → Result Step Refusal → Type 0
Ended p w (Err r) = Unit {0}
Ended p w (Ok (step.Arrived z)) = Rows w p.known z.known × (is_known (find (raw_of p.goal) (rows_in w p.known z.known)) ≡ true)
Ended p w (Ok (step.Going z)) = ⊥
