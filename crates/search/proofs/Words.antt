-- The cells of a route that the search finds are cells of 128 bits, so that their bytes say which they are.
use mathlib.Core.Path.{◌≡◌, sym, subst}
use mathlib.Core.List.{List, map}
use Prim.Native.Nat.{ℕ}
use Rattle.refusal.specs.declared.Cell.{Cell}
use Rattle.general.specs.Each.{Each}
use Rattle.cell.specs.Terms.{Words}
use Rattle.table.specs.Records.{Row}
use Rattle.search.specs.Search.{Problem, found}
use Rattle.search.specs.Plan.{plan_of, search_of, endpoints}
use Rattle.refusal.specs.Refusals.{cell_of}
use Rattle.known.specs.Workspace.{in_rooms}
use Rattle.cell.proofs.Laws.{cell-raw}
use Rattle.search.specs.Terms.{Beside, Leads, here, onward}
use Rattle.search.proofs.Accepted.{found-leads}

-- each cell that is entered is a neighbour, and those are such cells
leads-words : (P : Problem) {c g last total : ℕ} {later : List ℕ} → Leads P Beside c g later last total → Each Words (map cell_of later)
leads-words P here = tt
leads-words P (onward beside free leads) = (beside.words, leads-words P leads)

-- and the first is the start
pub found-words : (s e : Cell) (known waiting limit rule : ℕ) (rows : List Row) (cells : List ℕ) (cost expansions : ℕ) → Words s
    → search_of (endpoints s e) (in_rooms known waiting) limit rule rows ≡ found cells cost expansions → Each Words (map cell_of cells)
unfolding plan_of
found-words s e known waiting limit rule rows cells cost expansions words f =
    let route = found-leads s e known waiting limit rule rows cells cost expansions f in
    subst (λ (l : List ℕ). Each Words (map cell_of l)) (sym route.begins) (subst Words (sym (cell-raw s words)) words, leads-words (plan_of (endpoints s e) (in_rooms known waiting) limit rule rows) route.leads)
