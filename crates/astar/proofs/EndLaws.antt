-- How a search ends: what its last step shows is the definition's result, which is the same after however many pops.
use Rattle.std.specs.Prelude.{Err, Option, Some, None, Result, Ok}
use mathlib.Core.Path.{◌≡◌, refl, sym, ap, ◌∙◌}
use mathlib.Core.Bool.{true, true≢false}
use mathlib.Core.List.{List, []}
use mathlib.Core.Option.{Option as Maybe, none, some}
use Prim.Native.Nat.{ℕ, ◌≤◌, ◌<◌}
use native.Mathlib.Omega.{arith}
use Rattle.refusal.specs.declared.Cell.{Cell}
use Rattle.refusal.specs.declared.Refusal.{Refusal}
use Rattle.refusal.specs.Refusals.{raw_of}
use Rattle.words.specs.Word.{Bytes}
use Rattle.cell.specs.Cell.{distance_cells}
use Rattle.cell.specs.Terms.{Words}
use Rattle.known.specs.Inner.Known.{cell_in}
use Rattle.known.specs.Inner.Seek.{find_in}
use Rattle.search_rows.specs.Inner.Rows.{g_in, row_in, rows_in, Looked}
use Rattle.search_rows.proofs.Looked.{looked-in}
use Rattle.search.specs.Search.{Problem, OrRefused, KnownRow, SearchResult, done, found, find, is_known, g_of, traced, arrived, run, begin}
use Rattle.search.specs.Plan.{plan_of, distance_bits, at_end, pops_for}
use Rattle.search.proofs.Ending.{result-is}
use Rattle.cell.proofs.Laws.{cell-raw}
use Rattle.expansion.specs.declared.Plan.{Plan}
use Rattle.expansion.specs.declared.Sizes.{Sizes}
use Rattle.expansion.specs.declared.Step.{Step}
use Rattle.expansion.specs.declared.Step.TheVariants as steps
use Rattle.expansion.specs.Inner.State.{problem_of, flow_in, GoodStep, RunMeets}
use Rattle.astar.specs.Answer.{answered_in}
use Rattle.astar.specs.Inner.Answer.{way_to, shown, Ended}
use Rattle.astar.specs.Inner.Bytes.{route_in, goal_in, end_in}
use Rattle.astar.proofs.WayLaws.{route-answered, way-back}

-- ---- a search that has come to its goal

module _ (p : Plan) (flags w : List ℕ) (count : ℕ) (z : Sizes) where
  abbrev rows : List KnownRow
  rows = rows_in w p.known z.known

  arrived-at : (i : ℕ) → cell_in w p.known i ≡ p.goal → find (raw_of p.goal) rows ≡ some (row_in w p.known i)
      → found (way_to p w z i) (row_in w p.known i).g z.count ≡ shown (problem_of p flags count) p w (Ok (steps.Arrived z))
  unfolding arrived plan_of
  arrived-at i goal row = λ j. found (traced (raw_of p.start) z.count rows (raw_of (goal j)) []) (g_of (sym row j)) z.count

-- where a row is found, one is
never-unknown : {found : Maybe KnownRow} → is_known found ≡ true → found ≡ none → ⊥
never-unknown known nowhere = true≢false (sym known ∙ ap is_known nowhere)

-- ---- the last step

abbrev Last : Result Step Refusal → Type 0
Last r = (z : Sizes) → r ≡ Ok (steps.Going z) → ⊥

last-ended : (p : Plan) (w h : List ℕ) (r : Result Step Refusal) → GoodStep p w h r → Last r → Ended p w r
last-ended p w h (Ok (steps.Going z)) good last = last z refl
last-ended p w h (Err q) good last = tt
last-ended p w h (Ok (steps.Arrived z)) good last = (good.0.rows, good.1)

-- the entries that wait are no part of a result
last-shown : (P : Problem) (p : Plan) (w h : List ℕ) (r : Result Step Refusal) → Last r → flow_in P p w h r ≡ done (shown P p w r)
unfolding arrived
last-shown P p w h (Ok (steps.Going z)) last = absurd (last z refl)
last-shown P p w h (Err q) last = refl
last-shown P p w h (Ok (steps.Arrived z)) last = refl

-- ---- the end

-- where a search has ended, the bytes' end is the definition's
pub end-shown : (p : Plan) (flags w : List ℕ) (count : ℕ) (r : Result Step Refusal) (l : List ℕ) → Ended p w r → Bytes w → Words p.goal → end_in p w r l ≡ answered_in (shown (problem_of p flags count) p w r) l
unfolding row_in
end-shown p flags w count (Ok (steps.Going z)) l ended bytes words = absurd ended
end-shown p flags w count (Err q) l ended bytes words = refl
end-shown p flags w count (Ok (steps.Arrived z)) l ended bytes words =
    by-found (find_in w p.known z.known p.goal) (looked-in w p.known z.known p.goal ended.0 bytes words)
  where
    by-found : (x : Option ℕ) → Looked w p.known z.known p.goal x → goal_in p w z l x ≡ answered_in (shown (problem_of p flags count) p w (Ok (steps.Arrived z))) l
    by-found None looked = absurd (never-unknown ended.1 looked.1)
    by-found (Some i) looked =
        ap (λ (x : Option (List Cell)). route_in x (g_in w p.known i) z.count l) (way-back p w z.known ended.0 bytes z i refl looked.0)
        ∙ route-answered (way_to p w z i) (g_in w p.known i) z.count l
        ∙ ap (λ (x : SearchResult). answered_in x l) (arrived-at p flags w count z i looked.1 looked.2)

-- ---- the result

module _ (p : Plan) (flags : List ℕ) (count : ℕ) (words : Words p.start) (some_Known : 0 < p.known) (some-wait : 0 < p.waiting) where
  abbrev P : Problem
  P = problem_of p flags count

  abbrev told : OrRefused ℕ
  told = distance_bits (distance_cells p.start p.goal)

  told_is : P.heuristic P.start ≡ told
  unfolding plan_of
  told_is = ap (λ (c : Cell). distance_bits (distance_cells c p.goal)) (cell-raw p.start words)

  known-room : 1 ≤ P.known_room
  unfolding plan_of
  known-room = omega (arith, some_Known)

  waiting-room : 1 ≤ P.waiting_room
  unfolding plan_of
  waiting-room = omega (arith, some-wait)

  module _ {w₀ h₀ w h : List ℕ} {r : Result Step Refusal} (a : RunMeets P p w₀ h₀ w h r (begin P told)) where
    ran-result : at_end (run P (pops_for p.known p.waiting) (begin P told)) ≡ shown P p w r
    unfolding plan_of
    ran-result =
        ap (λ (t : OrRefused ℕ). at_end (run P (pops_for p.known p.waiting) (begin P t))) (sym told_is)
        ∙ result-is P known-room waiting-room (shown P p w r)
        (a.pops, ap (λ (t : OrRefused ℕ). run P a.pops (begin P t)) told_is ∙ sym a.met.same ∙ last-shown P p w h r a.last)

    -- what the bytes of the last step end in is the answer of the definition
    pub ran-answered : (l : List ℕ) → Bytes w → Words p.goal → end_in p w r l ≡ answered_in (at_end (run P (pops_for p.known p.waiting) (begin P told))) l
    ran-answered l bytes goal-words =
        end-shown p flags w count r l (last-ended p w h r a.met.good a.last) bytes goal-words ∙ ap (λ (x : SearchResult). answered_in x l) (sym ran-result)
