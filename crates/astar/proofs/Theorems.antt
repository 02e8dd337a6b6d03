-- What is shown in this crate beside the contracts of src/: the theorems that docs/PROMISES.md names, in words of specs/. The law behind each is the one that its proof names.
use Rattle.std.specs.Prelude.{Ok, Err}
use mathlib.Core.Path.{◌≡◌}
use mathlib.Core.List.{List}
use Prim.Native.Nat.{ℕ, ◌*◌}
use lib.ListN.{length, take}
use Rattle.refusal.specs.declared.Refusal.TheVariants.{SearchLimitExceeded}
use Rattle.refusal.specs.declared.Spent.{Spent}
use Rattle.words.specs.Word.{Bytes}
use Rattle.route.specs.Accepted.{Demand3}
use Rattle.route.specs.Route.{verdict_of, claim}
use Rattle.search.specs.Terms.{OneBeyond}
use Rattle.search.specs.declared.Route.{Route}
use Rattle.astar.specs.Call.{search_in, asking, buffers}
use Rattle.astar.proofs as laws
use Rattle.table.specs.Records.{layer}
use Rattle.known.specs.Workspace.{in_rooms}
use Rattle.cell.specs.Bytes.{cell_width}

-- Where a call answers with a route, its output is at least as long as the cells that it tells, 16 bytes each.
pub returned-size :
    (start goal : List ℕ) (known waiting limit rule : ℕ) (flags : List ℕ) (n : ℕ) (l : List ℕ) (in_start : Bytes start) (in-goal : Bytes goal) (t : Route)
    (w h : List ℕ) (said : (search_in (asking start goal (in_rooms known waiting) limit rule (layer flags n)) (buffers w h l)).said ≡ Ok t)
    → length (take (cell_width * t.cells) (search_in (asking start goal (in_rooms known waiting) limit rule (layer flags n)) (buffers w h l)).output) ≡ cell_width * t.cells
returned-size = laws.Returned.returned-size

-- The route that a call returns has verdict 0, with the same bytes for its ends, the same rule and layer, and the cost that the call tells.
pub returned-accepted :
    (start goal : List ℕ) (known waiting limit rule : ℕ) (flags : List ℕ) (n : ℕ) (l : List ℕ) (in_start : Bytes start) (in-goal : Bytes goal) (t : Route)
    (w h : List ℕ) (said : (search_in (asking start goal (in_rooms known waiting) limit rule (layer flags n)) (buffers w h l)).said ≡ Ok t)
    → verdict_of (claim (take (cell_width * t.cells) (search_in (asking start goal (in_rooms known waiting) limit rule (layer flags n)) (buffers w h l)).output) start goal t.cost) (layer flags n) rule ≡ 0
returned-accepted = laws.Returned.returned-accepted

-- Demand 3 holds of the route that a call returns, with the same bytes for its ends, the same rule and layer, and the cost that the call tells.
pub returned-right :
    (start goal : List ℕ) (known waiting limit rule : ℕ) (flags : List ℕ) (n : ℕ) (l : List ℕ) (in_start : Bytes start) (in-goal : Bytes goal) (t : Route)
    (w h : List ℕ) (said : (search_in (asking start goal (in_rooms known waiting) limit rule (layer flags n)) (buffers w h l)).said ≡ Ok t)
    → Demand3 (claim (take (cell_width * t.cells) (search_in (asking start goal (in_rooms known waiting) limit rule (layer flags n)) (buffers w h l)).output) start goal t.cost) (layer flags n) rule
returned-right = laws.Returned.returned-right

-- A call that is refused beyond its limit tells that limit, and one expansion more.
pub call-one-beyond :
    (start goal : List ℕ) (known waiting limit rule : ℕ) (flags : List ℕ) (n : ℕ) (w h l : List ℕ) (x : Spent)
    → (search_in (asking start goal (in_rooms known waiting) limit rule (layer flags n)) (buffers w h l)).said ≡ Err (SearchLimitExceeded x) → OneBeyond limit x
call-one-beyond = laws.Limit.call-one-beyond
