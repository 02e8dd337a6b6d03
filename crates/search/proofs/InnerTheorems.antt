-- Theorems about functions that stand between crates, which C does not call: what docs/PROMISES.md says of the search's memory, in words of specs/Inner.
-- The law behind each is the one that its proof names.
use mathlib.Core.Path.{◌≡◌}
use mathlib.Core.List.{List, map}
use Prim.Native.Nat.{ℕ}
use Rattle.general.specs.Each.{Each}
use Rattle.refusal.specs.declared.Cell.{Cell}
use Rattle.cell.specs.Terms.{Words}
use Rattle.table.specs.Records.{Row}
use Rattle.search.specs.Plan.{search_of, endpoints}
use Rattle.refusal.specs.Refusals.{cell_of}
use Rattle.known.specs.Workspace.{in_rooms}
use Rattle.search.specs.Search.{found}
use Rattle.search.proofs as laws

-- From a start of 128 bits, all cells that a search finds are of 128 bits.
pub found-words :
    (s e : Cell) (known waiting limit rule : ℕ) (rows : List Row) (cells : List ℕ) (cost expansions : ℕ) → Words s
    → search_of (endpoints s e) (in_rooms known waiting) limit rule rows ≡ found cells cost expansions → Each Words (map cell_of cells)
found-words = laws.Words.found-words
