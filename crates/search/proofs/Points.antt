-- The known points of the scope document that are searches: "(0,0,0) to (2,2,0), plain, open: route through (1,1,1), cost 0x400BB67AE8584CAA, 3 expansions; limit 2 refuses with 3, 2;
-- limit 0 with 1, 0." No flags are kept, so both rules are open.
use mathlib.Core.Bool.{true}
use mathlib.Core.List.{List, [], ◌∷◌}
use mathlib.Core.Path.{◌≡◌, refl}
use Prim.Native.Nat.{ℕ}
use lib.Dec.{ltb}
use lib.IntN.{ℤ, pos, negsuc}
use lib.ListN.{take}
use Rattle.refusal.specs.declared.Cell.{Cell}
use Rattle.refusal.specs.declared.Refusal.TheVariants.{SearchLimitExceeded, NoRoom}
use Rattle.refusal.specs.Refusals.{raw_of}
use Rattle.refusal.specs.declared.Room.TheVariants.{Known, Waiting}
use Rattle.lattice.specs.Lattice.{at}
use Rattle.cell.specs.Cell.{packed, plain_at}
use Rattle.search.specs.Search.{Problem, SearchResult, found, none_found, Entry, Flow, going, done, waiting_key, run, begin, relax, step}
use Rattle.search.specs.Plan.{plan_of, search_of, endpoints}
use Rattle.known.specs.Workspace.{in_rooms}
use Rattle.search.specs.Costs.{equal, first_out}
use Rattle.search.specs.Reached.{at_first, opened, looked-on, OneMore, one-waiting}

abbrev pub plain : ℕ → ℕ → ℕ → Cell
plain x y z = plain_at 0 0 (at (pos x) (pos y) (pos z))

-- from (0,0,0) to (2,2,0) in full rooms, with no flags kept
abbrev pub between : ℕ → ℕ → SearchResult
between rule limit = search_of (endpoints (plain 0 0 0) (plain 2 2 0)) (in_rooms 65536 65536) limit rule []

abbrev pub beyond : ℕ → ℕ → SearchResult
beyond expansions limit = none_found (SearchLimitExceeded (record { expansions = expansions; limit = limit }))

pub record OpenSearches (rule : ℕ) : Type 0 where
  pub route : between rule 100000 ≡ found (raw_of (plain 0 0 0) ∷ raw_of (plain 1 1 1) ∷ raw_of (plain 2 2 0) ∷ []) 0x400B_B67A_E858_4CAA 3
  pub limit-two : between rule 2 ≡ beyond 3 2
  pub limit-nought : between rule 0 ≡ beyond 1 0

pub searches-free : OpenSearches 0
unfolding search_of packed raw_of
searches-free = record { route = refl; limit-two = refl; limit-nought = refl }

pub searches-avoiding : OpenSearches 1
unfolding search_of packed raw_of
searches-avoiding = record { route = refl; limit-two = refl; limit-nought = refl }

-- ---- the order of waiting entries: one pop into that search (1,1,1) and (1,1,-1) wait with one f, and the smaller cell comes out first

abbrev pub open_plan : Problem
open_plan = plan_of (endpoints (plain 0 0 0) (plain 2 2 0)) (in_rooms 65536 65536) 100000 0 []

abbrev pub waiting_in : Flow → List Entry
waiting_in (going s) = s.waiting
waiting_in (done r) = []

abbrev pub corner : ℤ → Entry
corner z = record { f = 0x400B_B67A_E858_4CAA; cell = raw_of (plain_at 0 0 (at (pos 1) (pos 1) z)); g = 0x3FFB_B67A_E858_4CAA }

pub record Tied : Type 0 where
  pub first_two : take 2 (waiting_in (run open_plan 1 (begin open_plan (open_plan.heuristic open_plan.start)))) ≡ corner (pos 1) ∷ corner (negsuc 0) ∷ []
  pub same-f : equal (corner (pos 1)).f (corner (negsuc 0)).f ≡ true
  pub first-out : first_out (corner (pos 1)) (corner (negsuc 0)) ≡ true
  pub smaller-key : ltb (waiting_key (corner (pos 1))) (waiting_key (corner (negsuc 0))) ≡ true

pub tied : Tied
unfolding plan_of run packed raw_of equal first_out waiting_key
tied = record { first_two = refl; same-f = refl; first-out = refl; smaller-key = refl }

-- from (0, 0, 0) to (2, 2, 0): with room for the start alone the first neighbour is one cell too many, though the second would be one entry too many as well; with room for three cells it is the entry
pub rooms-short : (search_of (endpoints (plain 0 0 0) (plain 2 2 0)) (in_rooms 1 1) 100 0 [] ≡ none_found (NoRoom Known)) × (search_of (endpoints (plain 0 0 0) (plain 2 2 0)) (in_rooms 3 1) 100 0 [] ≡ none_found (NoRoom Waiting))
unfolding search_of packed raw_of
rooms-short = (refl, refl)

-- in rooms of 3 and 3 that search needs both: one cell more than 1 at the first neighbour, and one entry more than 1 at the second. So of two rooms that are needed, the first place says which is named
pub entry-needed-too : OneMore (plan_of (endpoints (plain 0 0 0) (plain 2 2 0)) (in_rooms 3 3) 100 0 []) 1 1 Waiting
unfolding plan_of search_of packed raw_of relax step
entry-needed-too = one-waiting (looked-on (opened (at_first refl) refl refl refl refl refl) refl) refl refl refl
