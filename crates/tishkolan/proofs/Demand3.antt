-- Demand 3 of the calls that C makes, over the contracts that Rattle made of the source: the checker's number is 0 exactly where demand 3 holds of what it is handed, the choice is 1, 2 or 0
-- by the same words, and every route that the search returns is accepted. Of any bytes; what they say of one call, KnownPoints.antt computes.
use Rattle.std.specs.Prelude.{Result, Ok, Err}
use Rattle.refusal.specs.declared.Refusal.{Refusal}
use mathlib.Core.Path.{◌≡◌, refl, sym, ap, subst, ◌∙◌}
use mathlib.Core.Logic.{◌↔◌}
use mathlib.Core.List.{List}
use Prim.Native.Nat.{ℕ, ◌*◌}
use lib.ListN.{length, take}
use Rattle.words.specs.Word.{Bytes}
use Rattle.refusal.proofs.Numbers.{refused-number}
use Rattle.table.specs.Records.{layer}
use Rattle.route.specs.Route.{verdict_of, claim}
use Rattle.route.specs.Accepted.{Demand3}
use Rattle.route.proofs.DemandLaws.{accepted-exactly}
use Rattle.route.proofs.Choices.{sent-exactly, homing-exactly, neither-exactly}
use Rattle.search.specs.declared.Route.{Route}
use Rattle.known.specs.Workspace.{in_rooms}
use Rattle.astar.specs.Call.{search_in, asking, buffers}
use Rattle.astar.proofs.Returned.{returned-size, returned-accepted, returned-right}
use Rattle.face.specs.declared.SearchTold.{SearchTold}
use Rattle.face.specs.Searches.{route_told, of_search, SearchingTold, search_told, of_searched}
use Rattle.tishkolan.proofs.Calls.{RouteVerdict, judged, judged_in, judged_under, RouteChoice, sent, homing, chosen_in, chosen_under, ClaimBytes, AcceptedRoute, Astar, searched_in, searched_under, returned, AstarWithLimit, limited_in, limited_under, limited_returned}

-- ---- the checker

-- `tishkolan_route_verdict` gives 0 exactly where demand 3 holds
pub verdict-exactly : (call : RouteVerdict) → ClaimBytes (judged call) → call.told ≡ 0 ↔ Demand3 (judged call) (judged_in call) (judged_under call)
verdict-exactly call bytes =
    subst (λ (n : ℕ). n ≡ 0 ↔ Demand3 (judged call) (judged_in call) (judged_under call)) (sym call.meets) (accepted-exactly _ _ _ _ _ _ _ bytes.0 bytes.1 bytes.2)

-- ---- the choice

module _ (call : RouteChoice) (bytes : ClaimBytes (sent call)) where
  -- the sent route is accepted, and the homing one
  abbrev Sent : Type 0
  Sent = Demand3 (sent call) (chosen_in call) (chosen_under call)

  abbrev Homing : Type 0
  Homing = Demand3 (homing call) (chosen_in call) (chosen_under call)

  -- `tishkolan_route_choice` gives 1 exactly where the sent route is accepted
  pub choice-sent : call.told ≡ 1 ↔ Sent
  choice-sent = subst (λ (n : ℕ). n ≡ 1 ↔ Sent) (sym call.meets) (sent-exactly _ _ _ _ _ _ _ _ _ _ _ bytes.0 bytes.1 bytes.2)

  -- 2 exactly where it is not, and the homing route is
  pub choice-homing : ClaimBytes (homing call) → call.told ≡ 2 ↔ (Sent → ⊥) × Homing
  choice-homing home =
      subst (λ (n : ℕ). n ≡ 2 ↔ (Sent → ⊥) × Homing) (sym call.meets) (homing-exactly _ _ _ _ _ _ _ _ _ _ _ bytes.0 bytes.1 bytes.2 home.0 home.1 home.2)

  -- 0 exactly where neither is
  pub choice-neither : ClaimBytes (homing call) → call.told ≡ 0 ↔ (Sent → ⊥) × (Homing → ⊥)
  choice-neither home =
      subst (λ (n : ℕ). n ≡ 0 ↔ (Sent → ⊥) × (Homing → ⊥)) (sym call.meets) (neither-exactly _ _ _ _ _ _ _ _ _ _ _ bytes.0 bytes.1 bytes.2 home.0 home.1 home.2)

-- ---- what the search writes for C

-- 0 is told of a route alone
answered-found : (x : Result Route Refusal) → (of_search x).refusal.number ≡ 0 → (r : Route) × (x ≡ Ok r)
answered-found (Ok r) h = (r, refl)
answered-found (Err r) h = absurd (refused-number r h)

-- where 0 is told, the front of the output is as many cells as are told, and they are an accepted route at the cost that is told
told-accepted : (start goal : List ℕ) (known waiting limit rule : ℕ) (flags : List ℕ) (count : ℕ) (w h l w' h' out : List ℕ) (z : SearchTold) → Bytes start → Bytes goal
    → search_told z w' h' out ≡ of_searched (search_in (asking start goal (in_rooms known waiting) limit rule (layer flags count)) (buffers w h l)) → z.refusal.number ≡ 0
    → let cells = take (16 * z.cells) out in
    (length cells ≡ 16 * z.cells) × AcceptedRoute (claim cells start goal z.cost) (layer flags count) rule
told-accepted start goal known waiting limit rule flags count w h l w' h' out z in_start in-goal p nought =
    let x = search_in (asking start goal (in_rooms known waiting) limit rule (layer flags count)) (buffers w h l) in
    let told : z ≡ of_search x.said = ap (λ (t : SearchingTold). t.told) p in
    let wrote : out ≡ x.output = ap (λ (t : SearchingTold). t.output) p in
    let found = answered-found x.said (sym (ap (λ (t : SearchTold). t.refusal.number) told) ∙ nought) in
    let route : z ≡ route_told found.0 = told ∙ ap of_search found.1 in
    let size = (λ i. length (take (16 * (route i).cells) (wrote i))) ∙ returned-size start goal known waiting limit rule flags count l in_start in-goal found.0 w h found.1 in
    let zero = (λ i. verdict_of (claim (take (16 * (route i).cells) (wrote i)) start goal (route i).cost) (layer flags count) rule) ∙ returned-accepted start goal known waiting limit rule flags count l in_start in-goal found.0 w h found.1 in
    let right = returned-right start goal known waiting limit rule flags count l in_start in-goal found.0 w h found.1 in (
      size ∙ ap (λ (t : SearchTold). 16 * t.cells) (sym route),
      record {
        verdict-nought = zero;
        right = subst (λ (t : SearchTold). Demand3 (claim (take (16 * t.cells) out) start goal t.cost) (layer flags count) rule) (sym route)
            (subst (λ (m : List ℕ). Demand3 (claim (take (16 * found.0.cells) m) start goal found.0.cost) (layer flags count) rule) (sym wrote) right);
        checked = λ call same in-layer under. call.meets ∙ (λ i. verdict_of (same i) (in-layer i) (under i)) ∙ zero;
      },
    )

-- where `tishkolan_astar` tells refusal 0, it left as many cells in `out` as it tells, and they are accepted with this call's own start, goal, flags, count and rule, at the cost that it tells
pub astar-accepted : (call : Astar) → Bytes (returned call).start → Bytes (returned call).goal → call.told.refusal.number ≡ 0
    → (length (returned call).cells ≡ 16 * call.told.cells) × AcceptedRoute (returned call) (searched_in call) (searched_under call)
astar-accepted call in_start in-goal nought =
    told-accepted (returned call).start (returned call).goal _ _ _ (searched_under call) (searched_in call).table (searched_in call).count _ _ _ _ _ call.exit.1.1.1.1.1.1.1.1.1.0.now call.told in_start in-goal call.meets nought

-- `tishkolan_astar_with_limit` does so too, under any limit
pub astar-with-limit-accepted : (call : AstarWithLimit) → Bytes (limited_returned call).start → Bytes (limited_returned call).goal → call.told.refusal.number ≡ 0
    → (length (limited_returned call).cells ≡ 16 * call.told.cells) × AcceptedRoute (limited_returned call) (limited_in call) (limited_under call)
astar-with-limit-accepted call in_start in-goal nought =
    told-accepted (limited_returned call).start (limited_returned call).goal _ _ _ (limited_under call) (limited_in call).table (limited_in call).count _ _ _ _ _ call.exit.1.1.1.1.1.1.1.1.1.1.0.now call.told in_start in-goal call.meets nought
