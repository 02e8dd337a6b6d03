-- The cases of the call: rooms that were tested, the bytes of both ends, the layer and the rule, the search; and both workspaces are zeros.
use Rattle.std.specs.Prelude.{Ok, Some, Result}
use mathlib.Core.Path.{◌≡◌, refl, sym, ap, ◌∙◌}
use mathlib.Core.Bool.{false}
use mathlib.Core.List.{List, [], ◌∷◌}
use Prim.Native.Nat.{ℕ, ◌≤◌}
use Rattle.refusal.specs.declared.Cell.{Cell}
use Rattle.refusal.specs.declared.Refusal.{Refusal}
use Rattle.refusal.specs.Refusals.{raw_of, cell_of}
use Rattle.lattice.specs.declared.Parity.{Parity}
use Rattle.lattice.specs.Lattice.{parity_of}
use Rattle.cell.specs.Cell.{coord_of, same_cell, distance_cells}
use Rattle.cell.specs.Terms.{Words}
use Rattle.table.specs.Records.{Row}
use Rattle.general.specs.Changed.{changed}
use Rattle.cell_list.specs.Listing.{room_in, cells_laid}
use Rattle.cell_list.specs.Inner.Listing.{cell_put}
use Rattle.cell_list.proofs.Laws.{cell-first}
use Rattle.known.specs.Workspace.{in_rooms}
use Rattle.search.specs.Search.{SearchResult, found, run, begin}
use Rattle.search.specs.Plan.{distance_bits, plan_of, at_end, pops_for, search_of, endpoints}
use Rattle.search.proofs.Split.{found_between}
use Rattle.cell.proofs.Laws.{cell-raw}
use Rattle.astar.specs.Answer.{answered_in}
use Rattle.astar.proofs.WayLaws.{route-found, route-answered}

-- results that are the same have the same answer
pub answers : {x y : SearchResult} (l : List ℕ) → x ≡ y → answered_in x l ≡ answered_in y l
answers l e = ap (λ (x : SearchResult). answered_in x l) e

-- a route of one cell
pub stay-found : (c : Cell) (l out : List ℕ) → Words c → 1 ≤ room_in l → out ≡ cell_put l 0 c → changed (Ok (record { cells = 1; cost = 0; expansions = 0 })) out ≡ answered_in (found (raw_of c ∷ []) 0 0) l
stay-found c l out words fits put =
    let laid = put ∙ cell-first c l ∙ ap (λ (d : Cell). cells_laid (d ∷ []) l) (sym (cell-raw c words)) in
    route-found 0 0 l (Some (cell_of (raw_of c) ∷ [])) 1 0 out refl fits refl laid ∙ route-answered (raw_of c ∷ []) 0 0 l

-- ---- the search between two cells

module _ (s e : Cell) (known waiting limit rule : ℕ) (rows : List Row) where
  module _ (elsewhere : same_cell s e ≡ false) where
    search-by : (p q : Result Parity Refusal) → parity_of (coord_of s) ≡ p → parity_of (coord_of e) ≡ q → search_of (endpoints s e) (in_rooms known waiting) limit rule rows ≡ found_between p q (plan_of (endpoints s e) (in_rooms known waiting) limit rule rows)
    unfolding search_of
    search-by p q f g = rw elsewhere (λ i. found_between (f i) (g i) (plan_of (endpoints s e) (in_rooms known waiting) limit rule rows))

    pub search-between : Words s → (p q : Parity) → parity_of (coord_of s) ≡ Ok p → parity_of (coord_of e) ≡ Ok q
        → at_end (run (plan_of (endpoints s e) (in_rooms known waiting) limit rule rows) (pops_for known waiting) (begin (plan_of (endpoints s e) (in_rooms known waiting) limit rule rows) (distance_bits (distance_cells s e)))) ≡ search_of (endpoints s e) (in_rooms known waiting) limit rule rows
    unfolding plan_of
    search-between words p q f g =
        let P = plan_of (endpoints s e) (in_rooms known waiting) limit rule rows in
        ap (λ (c : Cell). at_end (run P (pops_for known waiting) (begin P (distance_bits (distance_cells c e))))) (sym (cell-raw s words))
        ∙ sym (search-by (Ok p) (Ok q) f g)
