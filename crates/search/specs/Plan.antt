-- The search over cells: "start = goal answers with cost 0.0, zero expansions, though mixed or blocked; parity of start, then goal; heuristic overflow." The rule and the rows of the
-- flag layer say which cells are blocked. Definitions only.
use Rattle.refusal.specs.declared.Refusal.{Refusal}
use Rattle.std.specs.Prelude.{List, [], ◌∷◌, map, ℕ, ◌+◌, ◌*◌, eqb, Float, Result, Ok, Err}
use Rattle.std.specs.Float.{binary64}
use Rattle.std.specs.Float.Ieee.{to_bits}
use Rattle.refusal.specs.declared.Cell.{Cell}
use Rattle.refusal.specs.declared.Refusal.TheVariants.{NoPathFound, BadWorkspace}
use Rattle.refusal.specs.Refusals.{raw_of, cell_of}
use Rattle.lattice.specs.Lattice.{parity_of, on_parities}
use Rattle.distance.specs.Distance.{distance_of}
use Rattle.cell.specs.Cell.{coord_of, neighbors_of, distance_cells}
use Rattle.table.specs.Records.{Row}
use Rattle.route.specs.Route.{cost_between, is_shut}
use Rattle.search.specs.Search.{OrRefused, is, refused, Problem, SearchResult, found, none_found, Flow, going, done, run, begin}
use Rattle.general.specs.Refuse.{refuse_if}
use Rattle.refusal.specs.declared.Ends.{Ends}
use Rattle.known.specs.Workspace.{WalkRooms}

-- a cell's neighbours by their raw numbers, or the refusal
abbrev pub near_by : Result (List Cell) Refusal → OrRefused (List ℕ)
near_by (Ok cs) = is (map raw_of cs)
near_by (Err r) = refused r

-- a distance by its bits, or the refusal
abbrev pub distance_bits : Result Float Refusal → OrRefused ℕ
distance_bits (Ok d) = is (to_bits binary64 d)
distance_bits (Err r) = refused r

-- a search from this cell to that one
abbrev pub endpoints : Cell → Cell → Ends
endpoints start goal = record { start = start; goal = goal }

-- the problem that these ends, rooms, limit and rule make, with the rows of the flag layer
unfoldable pub plan_of : Ends → WalkRooms → ℕ → ℕ → List Row → Problem
unfolding raw_of is_shut neighbors_of cost_between distance_of to_bits
plan_of ends rooms limit rule rows =
    record {
      start = raw_of ends.start;
      goal = raw_of ends.goal;
      known_room = rooms.known;
      waiting_room = rooms.waiting;
      limit = limit;
      blocked = λ n. is_shut rule rows (cell_of n);
      neighbors = λ n. near_by (neighbors_of (cell_of n));
      cost = λ n m. to_bits binary64 (cost_between (cell_of n) (cell_of m));
      heuristic = λ n. distance_bits (distance_cells (cell_of n) ends.goal);
      no_path = NoPathFound ends;
    }

-- the result once a search is done; in rooms of at least 1 it always is, by `ends` of proofs/Theorems.antt
abbrev pub at_end : Flow → SearchResult
at_end (done r) = r
at_end (going s) = none_found BadWorkspace

-- each pop takes an entry away, and only a pop that closes a cell, which is one of the known ones, adds entries: so many pops are enough
abbrev pub pops_for : ℕ → ℕ → ℕ
pops_for known waiting = (known + 1) * (waiting + 1)

-- "start = goal answers with cost 0.0, zero expansions"; parity of start, then goal; else the search, pop after pop
unfoldable pub search_of : Ends → WalkRooms → ℕ → ℕ → List Row → SearchResult
unfolding plan_of parity_of run
search_of ends rooms limit rule rows =
    let P = plan_of ends rooms limit rule rows in
    refuse_if (eqb (raw_of ends.start) (raw_of ends.goal)) (found (raw_of ends.start ∷ []) 0 0)
    (on_parities none_found (λ p q. at_end (run P (pops_for P.known_room P.waiting_room) (begin P (P.heuristic P.start)))) (parity_of (coord_of ends.start)) (parity_of (coord_of ends.goal)))
