-- What a step costs in the search is the distance of the two cells, of every cell and each of its neighbours: `step-is-distance`.
use Rattle.std.specs.Prelude.{Ok}
use mathlib.Core.Path.{◌≡◌, refl}
use mathlib.Core.List.{List, Memᴰ}
use Prim.Native.Nat.{ℕ}
use lib.Ieee.{Float, binary64, to_bits}
use Rattle.refusal.specs.declared.Cell.{Cell}
use Rattle.general.proofs.Lists.{at-member}
use Rattle.cell.specs.Cell.{distance_cells}
use Rattle.table.specs.Records as layer
use Rattle.route.specs.Route.{cost_between}
use Rattle.route.proofs.AcceptedLaws.{cost-is-distance}
use Rattle.search.specs.Search.{Problem, is}
use Rattle.search.specs.Plan.{plan_of, endpoints}
use Rattle.refusal.specs.Refusals.{cell_of}
use Rattle.known.specs.Workspace.{in_rooms}
use Rattle.search.specs.Terms.{Beside}
use Rattle.search.proofs.NeighborSteps.{near-beside}
use Rattle.table.specs.Records.{layer}

-- between any two cells, in any rooms, under any limit, rule and flags
module _ (s e : Cell) (known waiting limit rule : ℕ) (rows : List layer.Row) where
  abbrev plan : Problem
  plan = plan_of (endpoints s e) (in_rooms known waiting) limit rule rows

  -- the distance call answers there, and its bits are what the search adds
  pub step-is-distance : (n m : ℕ) (near : List ℕ) → plan.neighbors n ≡ is near → Memᴰ m near
      → (d : Float) × (distance_cells (cell_of n) (cell_of m) ≡ Ok d) × (plan.cost n m ≡ to_bits binary64 d)
  unfolding plan_of
  step-is-distance n m near e member =
      (cost_between (cell_of n) (cell_of m), cost-is-distance (cell_of n) (cell_of m) (at-member (Beside n) member (near-beside n near e)).step, refl)
