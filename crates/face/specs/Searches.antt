-- The search for C: it is the definition of `astar`, told. A route has its number of cells, its cost and its expansions; a refusal has what its row carries: expansions and limit (7),
-- start and goal (8), each cell as its two words. Definitions only.
use Rattle.std.specs.Prelude.{List, ℕ, Result, Ok, Err}
use Rattle.refusal.specs.declared.Refusal.{Refusal}
use Rattle.refusal.specs.Refusals.{row_of}
use Rattle.search.specs.declared.Route.{Route}
use Rattle.search.specs.SearchOutcome.{Searched}
use Rattle.face.specs.declared.SearchTold.{SearchTold}
use Rattle.face.specs.Told.{answered, told_of}

-- a route that was found
abbrev pub route_told : Route → SearchTold
route_told r =
    record { refusal = answered; cells = r.cells; cost = r.cost; expansions = r.expansions; limit = 0; start_high = 0; start_low = 0; goal_high = 0; goal_low = 0 }

-- a refusal, with all that its row carries; no route
abbrev pub no_route : Refusal → SearchTold
no_route r =
    let spent = (row_of r).spent in
    let ends = (row_of r).ends in
    record {
      refusal = told_of r;
      cells = 0;
      cost = 0;
      expansions = spent.expansions;
      limit = spent.limit;
      start_high = ends.start.high;
      start_low = ends.start.low;
      goal_high = ends.goal.high;
      goal_low = ends.goal.low;
    }

-- a route or a refusal
abbrev pub of_search : Result Route Refusal → SearchTold
of_search (Ok r) = route_told r
of_search (Err r) = no_route r

-- what C is told, and what stands in the three lent buffers when the call returns
pub record SearchingTold : Type 0 where
  pub told : SearchTold
  pub known : List ℕ
  pub waiting : List ℕ
  pub output : List ℕ

-- this told, with these bytes in the three buffers
abbrev pub search_told : SearchTold → List ℕ → List ℕ → List ℕ → SearchingTold
search_told t w h l = record { told = t; known = w; waiting = h; output = l }

-- what a call of the search says, told
abbrev pub of_searched : Searched → SearchingTold
of_searched s = search_told (of_search s.said) s.known s.waiting s.output
