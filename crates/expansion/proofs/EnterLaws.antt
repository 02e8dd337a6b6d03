-- A cell that was closed and counted: the limit, the goal, the neighbours.
use Rattle.std.specs.Prelude.{Result, Ok, Err}
use mathlib.Core.Path.{◌≡◌, refl, sym, ap, subst, ◌∙◌}
use mathlib.Core.Bool.{Bool, true, false}
use mathlib.Core.List.{List, map}
use Prim.Native.Nat.{ℕ, ◌≤◌, ◌<◌}
use lib.Dec.{ltb, eqb}
use borrow.Author.Tests.{lt-ltb, le-ltb, eqb-true}
use Rattle.refusal.specs.declared.Cell.{Cell}
use Rattle.refusal.specs.declared.Refusal.{Refusal}
use Rattle.refusal.specs.declared.Refusal.TheVariants.{SearchLimitExceeded}
use Rattle.refusal.specs.Refusals.{raw_of}
use Rattle.cell.specs.Cell.{neighbors_of}
use Rattle.cell.specs.Terms.{Words}
use Rattle.words.specs.Word.{Bytes}
use Rattle.known.specs.Inner.Known.{cell_in}
use Rattle.search_rows.specs.Inner.Rows.{rows_in}
use Rattle.search_rows.proofs.RowsLaws.{find-row}
use Rattle.search.specs.Search.{Problem, State, done, stopped, find, is_known, relax_all, around, arrived, entered}
use Rattle.search.specs.Plan.{plan_of, near_by}
use Rattle.cell.proofs.Laws.{cell-raw}
use Rattle.expansion.specs.declared.Plan.{Plan}
use Rattle.expansion.specs.declared.Sizes.{Sizes}
use Rattle.expansion.specs.declared.Step.{Step}
use Rattle.expansion.specs.declared.Step.TheVariants as step
use Rattle.expansion.specs.Inner.State.{state_in, problem_of, HoldsSearch, StepMeets}

-- ---- the cases of the definition

module _ (P : Problem) (c g : ℕ) (s : State) where
  entered-spent : ltb P.limit s.count ≡ true → entered P c g s ≡ stopped (SearchLimitExceeded (record { expansions = s.count; limit = P.limit }))
  unfolding entered
  entered-spent e = rw e

  entered-goal : ltb P.limit s.count ≡ false → eqb c P.goal ≡ true → entered P c g s ≡ done (arrived P s)
  unfolding entered
  entered-goal e f = rw (e, f)

  entered_on : ltb P.limit s.count ≡ false → eqb c P.goal ≡ false → entered P c g s ≡ around P c g s (P.neighbors c)
  unfolding entered
  entered_on e f = rw (e, f)

-- ---- the cases of the code

module _ (p : Plan) (flags w h : List ℕ) (count : ℕ) (z : Sizes) (at g : ℕ) where
  abbrev P : Problem
  P = problem_of p flags count

  abbrev c : ℕ
  c = raw_of (cell_in w p.known at)

  abbrev s : State
  s = state_in p w h z

  pub spent-meets : p.limit < z.count → StepMeets P p w h w h (Err (SearchLimitExceeded (record { expansions = z.count; limit = p.limit }))) (entered P c g s)
  unfolding plan_of
  spent-meets l = record { same = sym (entered-spent P c g s (lt-ltb p.limit z.count l)); good = tt; workspace-length = refl; heap-length = refl }

  module _ (left : z.count ≤ p.limit) (d : Cell) (same : d ≡ cell_in w p.known at) where
    in-limit : ltb P.limit s.count ≡ false
    unfolding plan_of
    in-limit = le-ltb p.limit z.count left

    goal-is : {t : Bool} → eqb (raw_of d) (raw_of p.goal) ≡ t → eqb c P.goal ≡ t
    unfolding plan_of
    goal-is e = ap (λ (a : Cell). eqb (raw_of a) (raw_of p.goal)) (sym same) ∙ e

    -- the goal is the cell of a record
    pub arrived-meets : Bytes w → at < z.known → HoldsSearch p w h z → eqb (raw_of d) (raw_of p.goal) ≡ true → StepMeets P p w h w h (Ok (step.Arrived z)) (entered P c g s)
    arrived-meets bytes below good e =
        let goal : raw_of p.goal ≡ c = sym (eqb-true (raw_of d) (raw_of p.goal) e) ∙ ap raw_of same in
        let rows = rows_in w p.known z.known in
        record {
          same = sym (entered-goal P c g s in-limit (goal-is e));
          good = (good, ap (λ (k : ℕ). is_known (find k rows)) goal ∙ ap is_known (find-row w p.known z.known good.rows bytes at below));
          workspace-length = refl;
          heap-length = refl;
        }

    module _ (words : Words (cell_in w p.known at)) (elsewhere : eqb (raw_of d) (raw_of p.goal) ≡ false) (o : Result (List Cell) Refusal) (e : o ≡ neighbors_of d) where
      near-is : P.neighbors c ≡ near_by o
      unfolding plan_of
      near-is = ap (λ (a : Cell). near_by (neighbors_of a)) (cell-raw (cell_in w p.known at) words ∙ sym same) ∙ ap near_by (sym e)

      goes_on : (a : Result (List Cell) Refusal) → o ≡ a → entered P c g s ≡ around P c g s (near_by a)
      goes_on a f = entered_on P c g s in-limit (goal-is elsewhere) ∙ ap (around P c g s) (near-is ∙ ap near_by f)

      pub alone-meets : (r : Refusal) → o ≡ Err r → StepMeets P p w h w h (Err r) (entered P c g s)
      alone-meets r f = record { same = sym (goes_on (Err r) f); good = tt; workspace-length = refl; heap-length = refl }

      pub around-meets : (cells : List Cell) → o ≡ Ok cells → (w' h' : List ℕ) (r : Result Step Refusal) → StepMeets P p w h w' h' r (relax_all P c g (map raw_of cells) s) → StepMeets P p w h w' h' r (entered P c g s)
      around-meets cells f w' h' r m = subst (StepMeets P p w h w' h' r) (sym (goes_on (Ok cells) f)) m
