-- What the search finds is a route from the start to the goal, a step from neighbour to neighbour each time: `found-leads`. So it is accepted by the route checker, with the same ends,
-- rule and flags, at the cost that the search tells: `found-accepted`. What an accepted route is, the checker's `accepted-exactly` says.
use Rattle.std.specs.Prelude.{Result, Ok, Err}
use Rattle.lattice.specs.declared.Parity.{Parity}
use Rattle.refusal.specs.declared.Refusal.{Refusal}
use mathlib.Core.Path.{◌≡◌, refl, ap, subst, ◌∙◌}
use mathlib.Core.Bool.{true}
use mathlib.Core.List.{List, [], ◌∷◌, map}
use Prim.Native.Nat.{ℕ}
use native.Mathlib.Omega.{arith}
use lib.Dec.{eqb}
use borrow.Author.Tests.{eqb-true}
use Rattle.refusal.specs.declared.Cell.{Cell}
use Rattle.refusal.specs.Refusals.{raw_of, cell_of}
use Rattle.lattice.specs.Lattice.{parity_of}
use Rattle.cell.specs.Cell.{coord_of}
use Rattle.cell.specs.Terms.{Words}
use Rattle.table.specs.Records.{Row}
use Rattle.route.specs.Route.{judge_cells}
use Rattle.search.specs.Search.{Problem, found, Flow, going, done, begin, run}
use Rattle.search.specs.Plan.{plan_of, at_end, pops_for, search_of, endpoints}
use Rattle.known.specs.Workspace.{in_rooms}
use Rattle.search.proofs.Split.{found_between}
use Rattle.general.proofs.Tests.{whether}
use Rattle.search.specs.Terms.{Beside, Leads, here, Route}
use Rattle.search.proofs.NeighborSteps.{near-beside}
use Rattle.search.proofs.Trails.{found-route}
use Rattle.search.proofs.Verdicts.{route-judged}

-- between any two cells, in any rooms, under any limit, rule and flags
module _ (s e : Cell) (known waiting limit rule : ℕ) (rows : List Row) (cells : List ℕ) (cost expansions : ℕ) where
  abbrev plan : Problem
  plan = plan_of (endpoints s e) (in_rooms known waiting) limit rule rows

  abbrev Leading : Type 0
  Leading = Route plan Beside (raw_of e) cost cells

  -- start and goal the same: the route is that cell, and costs nothing
  same-leads : eqb (raw_of s) (raw_of e) ≡ true → found (raw_of s ∷ []) 0 0 ≡ found cells cost expansions → Leading
  unfolding plan_of
  same-leads same f =
      let listed : cells ≡ raw_of s ∷ [] = cc in
      let paid : 0 ≡ cost = cc in
      let arrives : Leads plan Beside (raw_of s) 0 [] (raw_of e) 0 = subst (λ (c : ℕ). Leads plan Beside (raw_of s) 0 [] c 0) (eqb-true (raw_of s) (raw_of e) same) here in
      record { later = []; begins = listed; leads = subst (λ (c : ℕ). Leads plan Beside (raw_of s) 0 [] (raw_of e) c) paid arrives }

  flow-leads : (f : Flow) → run plan (pops_for known waiting) (begin plan (plan.heuristic plan.start)) ≡ f → at_end f ≡ found cells cost expansions → Leading
  unfolding plan_of
  flow-leads (going t) f g = absurd (let z : ◌≡◌ {A = ℕ} 0 1 = cc in omega arith)
  flow-leads (done r) f g = found-route plan Beside near-beside (pops_for known waiting) cells cost expansions (f ∙ ap done g)

  between-leads : (p q : Result Parity Refusal) → found_between p q plan ≡ found cells cost expansions → Leading
  unfolding plan_of
  between-leads (Err r) q f = absurd (let z : ◌≡◌ {A = ℕ} 0 1 = cc in omega arith)
  between-leads (Ok p) (Err r) f = absurd (let z : ◌≡◌ {A = ℕ} 0 1 = cc in omega arith)
  between-leads (Ok p) (Ok q) f = flow-leads (run plan (pops_for known waiting) (begin plan (plan.heuristic plan.start))) refl f

  -- the cells that are found go from the start to the goal, at the cost that is told
  pub found-leads : search_of (endpoints s e) (in_rooms known waiting) limit rule rows ≡ found cells cost expansions → Route (plan_of (endpoints s e) (in_rooms known waiting) limit rule rows) Beside (raw_of e) cost cells
  unfolding search_of
  found-leads f = whether (eqb (raw_of s) (raw_of e)) (λ t. same-leads t (rw t at f)) (λ t. between-leads (parity_of (coord_of s)) (parity_of (coord_of e)) (rw t at f))

  -- where the ends are cells of 128 bits, they are accepted
  pub found-accepted : Words s → Words e → search_of (endpoints s e) (in_rooms known waiting) limit rule rows ≡ found cells cost expansions → judge_cells rule rows s e cost (map cell_of cells) ≡ 0
  found-accepted in_start in-goal f = route-judged s e known waiting limit rule rows in_start in-goal cost cells (found-leads f)
