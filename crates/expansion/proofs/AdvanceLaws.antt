-- One pop: the first of the entries that wait is skipped, or its cell is closed, counted and entered.
use Rattle.refusal.specs.declared.Refusal.{Refusal}
use Rattle.std.specs.Prelude.{Result, Ok, Err}
use mathlib.Core.Path.{◌≡◌, refl, sym, ap, subst, ◌∙◌}
use mathlib.Core.Bool.{true, false, true≢false}
use mathlib.Core.List.{List, [], ◌∷◌, map}
use mathlib.Core.Option.{none, some}
use Prim.Native.Nat.{ℕ, suc, ◌+◌, ◌-◌, ◌≤◌, ◌<◌}
use native.Mathlib.Numerals.{add-one}
use native.Mathlib.Omega.{arith}
use Rattle.refusal.specs.declared.Cell.{Cell}
use Rattle.refusal.specs.declared.Refusal.TheVariants.{NoPathFound}
use Rattle.refusal.specs.Refusals.{raw_of}
use Rattle.general.specs.Each.{Each}
use Rattle.waiting.specs.declared.Entry as waited
use Rattle.waiting.specs.Inner.Sorted.{sorted_keys}
use Rattle.waiting.specs.Inner.Steps.{Popped}
use Rattle.waiting.proofs.Laws.{empty-keys}
use Rattle.known.specs.Inner.Known.{cell_in}
use Rattle.search.specs.Search.{Problem, KnownRow, Entry, State, state, going, find, close, is_closed, is_known, g_of, entered, popped, next, step}
use Rattle.search.specs.Plan.{plan_of}
use Rattle.search.specs.Inner.Counted.{closed_in}
use Rattle.search.proofs.ClosedCounts.{closed-close}
use Rattle.search.specs.Inner.KnownCell.{KnownCell}
use Rattle.search.proofs.WaitingLaws.{waits-close}
use Rattle.search.specs.Costs.{CostRow}
use Rattle.search.proofs.CostsKept.{each-close}
use Rattle.search_rows.specs.Inner.Rows.{row_in, rows_in, RowChanged}
use Rattle.expansion.specs.declared.Plan.{Plan}
use Rattle.expansion.specs.declared.Sizes.{Sizes}
use Rattle.expansion.specs.declared.Step.{Step}
use Rattle.expansion.specs.declared.Step.TheVariants as steps
use Rattle.expansion.specs.Inner.State.{entry_with, entries_in, state_in, problem_of, HoldsSearch, StepMeets}
use Rattle.expansion.proofs.StateLaws.{entry_from, entries-popped, costs-each, each-costs}
use Rattle.expansion.specs.Inner.Bytes.{sizes_of}

-- ---- the cases of the definition

module _ (P : Problem) (c : ℕ) (rest : List Entry) (s : State) where
  popped-closed : is_closed (find c s.known) ≡ true → popped P c rest s ≡ going (state s.known rest s.count)
  unfolding popped
  popped-closed e = rw e

  popped-open : is_closed (find c s.known) ≡ false → popped P c rest s ≡ entered P c (g_of (find c s.known)) (state (close c s.known) rest (s.count + 1))
  unfolding popped
  popped-open e = rw e

-- ---- the cases of the code

pub nowhere-meets : (p : Plan) (flags w h : List ℕ) (count : ℕ) (z : Sizes) → z.waiting ≡ 0
    → StepMeets (problem_of p flags count) p w h w h (Err (NoPathFound (record { start = p.start; goal = p.goal }))) (step (problem_of p flags count) (state_in p w h z))
unfolding step plan_of entries_in
nowhere-meets p flags w h count z empty =
    let none-wait : entries_in h z.waiting ≡ [] = ap (λ (n : ℕ). map entry_with (sorted_keys h n)) empty ∙ ap (map entry_with) (empty-keys h) in
    record { same = ap (λ (l : List Entry). next (problem_of p flags count) l (state_in p w h z)) (sym none-wait); good = tt; workspace-length = refl; heap-length = refl }

module _ (p : Plan) (P : Problem) (w h h' : List ℕ) (z : Sizes) (e : waited.Entry) (good : HoldsSearch p w h z) (pop : Popped h h' z.waiting e) where
  abbrev rows : List KnownRow
  rows = rows_in w p.known z.known

  abbrev s : State
  s = state_in p w h z

  abbrev c : ℕ
  c = raw_of e.cell

  abbrev rest : List Entry
  rest = entries_in h' (z.waiting - 1)

  entries : entries_in h z.waiting ≡ entry_from e ∷ rest
  entries = entries-popped h h' z.waiting e pop

  waits : Each (KnownCell rows) (entry_from e ∷ rest)
  waits = subst (Each (KnownCell rows)) entries good.waits

  step_is : step P s ≡ popped P c rest s
  unfolding step
  step_is = ap (λ (l : List Entry). next P l s) entries

  -- every cell that waits is known
  pub never-nowhere : find c rows ≡ none → ⊥
  never-nowhere n = true≢false (sym waits.0 ∙ ap is_known n)

  module _ (i : ℕ) (found : find c rows ≡ some (row_in w p.known i)) where
    pub skipped-meets : (row_in w p.known i).closed ≡ true → StepMeets P p w h w h' (Ok (steps.Going (sizes_of z.known (z.waiting - 1) z.count))) (step P s)
    skipped-meets closed =
        let fewer : z.waiting - 1 ≤ p.waiting = omega (arith, good.few) in
        record {
          same = sym (step_is ∙ popped-closed P c rest s (ap is_closed found ∙ closed));
          good = record {
            rows = good.rows;
            heap = pop.heap;
            few = fewer;
            small = good.small;
            size = rw pop.long good.size;
            costs = good.costs;
            waits = waits.1;
            counted = good.counted;
          };
          workspace-length = refl;
          heap-length = pop.long;
        }

    module _ (unclosed : (row_in w p.known i).closed ≡ false) (below : i < z.known) (cell-is : cell_in w p.known i ≡ e.cell) (w' : List ℕ)
        (changed : RowChanged w w' p.known z.known z.known (close (raw_of (cell_in w p.known i)) rows)) where
      rows_are : rows_in w' p.known z.known ≡ close c rows
      rows_are = changed.rows_are ∙ ap (λ (d : Cell). close (raw_of d) rows) cell-is

      pub closed-good : HoldsSearch p w' h' (sizes_of z.known (z.waiting - 1) (z.count + 1))
      closed-good =
          let fewer : z.waiting - 1 ≤ p.waiting = omega (arith, good.few) in
          record {
            rows = changed.good;
            heap = pop.heap;
            few = fewer;
            small = good.small;
            size = rw pop.long good.size;
            costs = each-costs w' p.known z.known (subst (Each CostRow) (sym rows_are) (each-close c rows (costs-each w p.known z.known good.costs)));
            waits = subst (λ (k : List KnownRow). Each (KnownCell k) rest) (sym rows_are) (waits-close c rows rest waits.1);
            counted = ap closed_in rows_are ∙ closed-close c rows waits.0 (ap is_closed found ∙ unclosed) ∙ ap suc good.counted ∙ sym (add-one z.count);
          }

      pub entered-meets : (g : ℕ) → g ≡ (row_in w p.known i).g → (w'' h'' : List ℕ) (r : Result Step Refusal)
          → StepMeets P p w' h' w'' h'' r (entered P (raw_of (cell_in w' p.known i)) g (state_in p w' h' (sizes_of z.known (z.waiting - 1) (z.count + 1)))) → StepMeets P p w h w'' h'' r (step P s)
      entered-meets g g-is w'' h'' r m =
          let cell = ap raw_of (changed.cells i below ∙ cell-is) in
          let cost = g-is ∙ ap g_of (sym found) in
          record {
            same = m.same ∙ (λ j. entered P (cell j) (cost j) (state (rows_are j) rest (z.count + 1))) ∙ sym (step_is ∙ popped-open P c rest s (ap is_closed found ∙ unclosed));
            good = m.good;
            workspace-length = m.workspace-length ∙ changed.length-kept;
            heap-length = m.heap-length ∙ pop.long;
          }
