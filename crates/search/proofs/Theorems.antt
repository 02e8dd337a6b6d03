-- What is shown in this crate beside the contracts of src/: the theorems that docs/PROMISES.md names, in words of specs/. The law behind each is the one that its proof names.
use Rattle.std.specs.Prelude.{Ok}
use mathlib.Core.Path.{◌≡◌}
use mathlib.Core.List.{List, map, Memᴰ, ◌∷◌}
use mathlib.Core.Bool.{false}
use mathlib.Core.Logic.{◌↔◌}
use Prim.Native.Nat.{ℕ, ◌≤◌, ◌<◌}
use lib.Dec.{ltb, eqb}
use lib.Ieee.{Float, binary64, to_bits}
use Rattle.refusal.specs.Refusals.{raw_of, cell_of}
use Rattle.refusal.specs.declared.Cell.{Cell}
use Rattle.refusal.specs.declared.Refusal.TheVariants.{NoRoom, SearchLimitExceeded}
use Rattle.refusal.specs.declared.Room.{Room}
use Rattle.refusal.specs.declared.Room.TheVariants.{Known, Waiting}
use Rattle.refusal.specs.declared.Spent.{Spent}
use Rattle.cell.specs.Cell.{distance_cells}
use Rattle.cell.specs.Terms.{Words}
use Rattle.table.specs.Records.{Row}
use Rattle.table.specs.Records as layer
use Rattle.route.specs.Route.{judge_cells}
use Rattle.search.specs.Costs.{Cost, equal, CostState, first_out}
use Rattle.search.specs.Reached.{OneMore, FirstMore}
use Rattle.search.specs.Plan.{plan_of, search_of, endpoints, at_end, pops_for}
use Rattle.known.specs.Workspace.{in_rooms}
use Rattle.search.specs.Search.{found, Problem, done, run, begin, SearchResult, Ends, none_found, less, State, going, Entry, waiting_key, is}
use Rattle.search.specs.Terms.{Beside, Route, OneBeyond, Apart}
use Rattle.search.proofs as laws

-- The cells that a search finds lead from the start to the goal, each a step from the one before it and none of them blocked under the rule, at the cost that is told.
pub found-leads :
    (start goal : Cell) (known waiting limit rule : ℕ) (rows : List Row) (cells : List ℕ) (cost expansions : ℕ)
    → search_of (endpoints start goal) (in_rooms known waiting) limit rule rows ≡ found cells cost expansions
    → Route (plan_of (endpoints start goal) (in_rooms known waiting) limit rule rows) Beside (raw_of goal) cost cells
found-leads = laws.Accepted.found-leads

-- Every route that the search finds is accepted by the checker at the cost that it tells: between any two cells, in any rooms, under any limit, rule and flags.
pub found-accepted :
    (start goal : Cell) (known waiting limit rule : ℕ) (rows : List Row) (cells : List ℕ) (cost expansions : ℕ) → Words start → Words goal
    → search_of (endpoints start goal) (in_rooms known waiting) limit rule rows ≡ found cells cost expansions
    → judge_cells rule rows start goal cost (map cell_of cells) ≡ 0
found-accepted = laws.Accepted.found-accepted

-- In rooms of at least 1 every search ends: (known room + 1) * (waiting room + 1) pops are enough.
pub ends :
    (P : Problem) (known-room : 1 ≤ P.known_room) (waiting-room : 1 ≤ P.waiting_room)
    → let flow = run P (pops_for P.known_room P.waiting_room) (begin P (P.heuristic P.start)) in let flow = run P (pops_for P.known_room P.waiting_room) (begin P (P.heuristic P.start)) in flow ≡ done (at_end flow)
ends = laws.Ending.ends

-- A search ends in one way: any two results that it ends with are the same.
pub one_end : (P : Problem) (r q : SearchResult) → Ends P r → Ends P q → r ≡ q
one_end = laws.Ending.one_end

-- In rooms of at least 1, a search that is not refused for want of room has the same result as in rooms at least as large.
pub same-in-larger-rooms :
    (start goal : Cell) (known waiting more-known more-waiting limit rule : ℕ) (rows : List Row) → 1 ≤ known → 1 ≤ waiting → known ≤ more-known
    → waiting ≤ more-waiting → (search_of (endpoints start goal) (in_rooms known waiting) limit rule rows ≡ none_found (NoRoom Known) → ⊥)
    → (search_of (endpoints start goal) (in_rooms known waiting) limit rule rows ≡ none_found (NoRoom Waiting) → ⊥)
    → search_of (endpoints start goal) (in_rooms more-known more-waiting) limit rule rows ≡ search_of (endpoints start goal) (in_rooms known waiting) limit rule rows
same-in-larger-rooms = laws.Rooms.same-in-larger-rooms

-- Where a search in rooms of at least 1 ends with NoRoom, the search in larger rooms needs one more than that room holds.
pub no-room-one-more :
    (start goal : Cell) (known waiting more-known more-waiting limit rule : ℕ) (rows : List Row) → 1 ≤ known → 1 ≤ waiting → known < more-known
    → waiting < more-waiting → (room : Room) → search_of (endpoints start goal) (in_rooms known waiting) limit rule rows ≡ none_found (NoRoom room)
    → OneMore (plan_of (endpoints start goal) (in_rooms more-known more-waiting) limit rule rows) known waiting room
no-room-one-more = laws.Rooms.no-room-one-more

-- One cost is below another exactly where its bits, taken as a number, are.
pub cost-order : (a b : ℕ) → Cost a → Cost b → less a b ≡ ltb a b
cost-order = laws.Costs.cost-order

-- Two costs are the same number exactly where their bits are the same.
pub cost-equal : (a b : ℕ) → Cost a → Cost b → equal a b ≡ eqb a b
cost-equal = laws.Costs.cost-equal

-- After any number of pops, every f and every g of a search is a cost, no NaN and nothing negative.
pub reached-costs :
    (start goal : Cell) (known waiting limit rule : ℕ) (rows : List layer.Row) (in_start : Words start) (pops : ℕ)
    → let plan = plan_of (endpoints start goal) (in_rooms known waiting) limit rule rows in (t : State)
    → run plan pops (begin plan (plan.heuristic plan.start)) ≡ going t → CostState t
reached-costs = laws.CostsKept.reached-costs

-- After any number of pops, of any two waiting entries the one with the smaller key is the one that document 01 has come out first.
pub keys-in-order :
    (start goal : Cell) (known waiting limit rule : ℕ) (rows : List layer.Row) (in_start : Words start) (pops : ℕ)
    → let plan = plan_of (endpoints start goal) (in_rooms known waiting) limit rule rows in (t : State)
    → run plan pops (begin plan (plan.heuristic plan.start)) ≡ going t → (a b : Entry) → Memᴰ a t.waiting → Memᴰ b t.waiting
    → ltb (waiting_key a) (waiting_key b) ≡ first_out a b
keys-in-order = laws.CostsKept.keys-in-order

-- After any number of pops, nothing that waits comes before the entry that is popped next, in document 01's order.
pub popped-is-first :
    (start goal : Cell) (known waiting limit rule : ℕ) (rows : List layer.Row) (in_start : Words start)
    → let plan = plan_of (endpoints start goal) (in_rooms known waiting) limit rule rows in (pops : ℕ) (t : State)
    → run plan pops (begin plan (plan.heuristic plan.start)) ≡ going t → (a : Entry) (rest : List Entry) → t.waiting ≡ a ∷ rest → (b : Entry)
    → Memᴰ b rest → first_out b a ≡ false
popped-is-first = laws.FirstOut.popped-is-first

-- A search that is refused beyond its limit tells that limit, and one expansion more.
pub limit-one-beyond :
    (start goal : Cell) (known waiting limit rule : ℕ) (rows : List Row) (x : Spent)
    → search_of (endpoints start goal) (in_rooms known waiting) limit rule rows ≡ none_found (SearchLimitExceeded x) → OneBeyond limit x
limit-one-beyond = laws.Limit.limit-one-beyond

-- A search in rooms of at least 1 ends with NoRoom of a room exactly where its ends are two different lattice points and it comes to a place at which the search in larger rooms takes one
-- more than that room holds.
pub no-room-first-more :
    (start goal : Cell) (known waiting more-known more-waiting limit rule : ℕ) (rows : List layer.Row) (some_Known : 1 ≤ known) (some-waiting : 1 ≤ waiting)
    (known-grows : known < more-known) (waiting-grows : waiting < more-waiting)
    → let small = plan_of (endpoints start goal) (in_rooms known waiting) limit rule rows in let large = plan_of (endpoints start goal) (in_rooms more-known more-waiting) limit rule rows in (room : Room)
    → (search_of (endpoints start goal) (in_rooms known waiting) limit rule rows ≡ none_found (NoRoom room)) ↔ (Apart start goal × FirstMore small large room)
no-room-first-more = laws.RoomNeeded.no-room-first-more

-- A search in rooms of at least 1 ends with NoRoom of one of them exactly where its ends are two different lattice points and the search in larger rooms anywhere needs one more than
-- these rooms hold.
pub no-room-needed :
    (start goal : Cell) (known waiting more-known more-waiting limit rule : ℕ) (rows : List layer.Row) (some_Known : 1 ≤ known) (some-waiting : 1 ≤ waiting)
    (known-grows : known < more-known) (waiting-grows : waiting < more-waiting)
    → let large = plan_of (endpoints start goal) (in_rooms more-known more-waiting) limit rule rows in ((room : Room) × (search_of (endpoints start goal) (in_rooms known waiting) limit rule rows ≡ none_found (NoRoom room)))
    ↔ (Apart start goal × ((room : Room) × OneMore large known waiting room))
no-room-needed = laws.RoomNeeded.no-room-needed

-- From a cell to each neighbour that the search is told, the distance call answers, and its bits are what the search adds for the step.
pub step-is-distance :
    (start goal : Cell) (known waiting limit rule : ℕ) (rows : List layer.Row)
    → let plan = plan_of (endpoints start goal) (in_rooms known waiting) limit rule rows in (n m : ℕ) (near : List ℕ) → plan.neighbors n ≡ is near
    → Memᴰ m near → (d : Float) × (distance_cells (cell_of n) (cell_of m) ≡ Ok d) × (plan.cost n m ≡ to_bits binary64 d)
step-is-distance = laws.StepDistances.step-is-distance
