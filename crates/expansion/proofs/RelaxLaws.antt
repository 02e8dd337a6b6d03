-- One neighbour of a cell: the cases of the definition, and what the code does in each.
use Rattle.refusal.specs.declared.Refusal.{Refusal}
use Rattle.std.specs.Prelude.{Result, Ok, Err}
use mathlib.Core.Path.{◌≡◌, refl, sym, ap, subst, ◌∙◌}
use mathlib.Core.Bool.{Bool, true, false, cond, ◌||◌}
use mathlib.Core.List.{List}
use mathlib.Core.Option.{Option, none, some}
use Prim.Native.Nat.{ℕ, ◌≤◌, ◌<◌}
use lib.Ieee.{binary64, to_bits}
use lib.ListN.{length}
use borrow.Author.Tests.{lt-ltb, le-ltb}
use Rattle.refusal.specs.declared.Cell.{Cell}
use Rattle.refusal.specs.declared.Refusal.TheVariants.{NoRoom}
use Rattle.refusal.specs.declared.Room.TheVariants.{Known}
use Rattle.refusal.specs.Refusals.{raw_of}
use Rattle.cell.specs.Cell.{distance_cells}
use Rattle.cell.specs.Terms.{Words}
use Rattle.table.specs.Records.{rows_of}
use Rattle.route.specs.Route.{cost_between, is_shut}
use Rattle.known.specs.Inner.Known.{cell_in}
use Rattle.search.specs.Search.{Problem, KnownRow, State, Flow, going, stopped, find, is_closed, g_of, plus, less, push, lower, tried, relax}
use Rattle.search.specs.Plan.{plan_of, distance_bits}
use Rattle.cell.proofs.Laws.{cell-raw}
use Rattle.search_rows.specs.Inner.Rows.{row_in, rows_in}
use Rattle.search_rows.proofs.RowsLaws.{length-rows}
use Rattle.expansion.specs.declared.Plan.{Plan}
use Rattle.expansion.specs.declared.Sizes.{Sizes}
use Rattle.expansion.specs.declared.Step.{Step}
use Rattle.expansion.specs.declared.Step.TheVariants as step
use Rattle.expansion.specs.Inner.State.{state_in, problem_of, HoldsSearch, StepMeets}

-- ---- the cases of the definition

either : (b : Bool) (f : Flow) → cond b f f ≡ f
either true f = refl
either false f = refl

module _ (P : Problem) (c n t : ℕ) (s : State) where
  module _ (k : Option KnownRow) where
    tried-closed : is_closed k ≡ true → tried P c n t s k ≡ going s
    unfolding tried
    tried-closed e = rw e

    tried-shut : is_closed k ≡ false → P.blocked n ≡ true → tried P c n t s k ≡ going s
    unfolding tried
    tried-shut e f = rw (e, f)

    -- closed or blocked or neither, a way that is not shorter changes nothing
    tried-worse : less t (g_of k) ≡ false → tried P c n t s k ≡ going s
    unfolding tried
    tried-worse l = ap (cond (is_closed k || P.blocked n) (going s)) (rw l) ∙ either (is_closed k || P.blocked n) (going s)

    tried-lower : is_closed k ≡ false → P.blocked n ≡ false → less t (g_of k) ≡ true → tried P c n t s k ≡ lower P c n t s k
    unfolding tried
    tried-lower e f l = rw (e, f, l)

  lower-known : (r : KnownRow) → lower P c n t s (some r) ≡ push P c n t s (P.heuristic n)
  unfolding lower
  lower-known r = refl

  lower-new : length s.known < P.known_room → lower P c n t s none ≡ push P c n t s (P.heuristic n)
  unfolding lower
  lower-new h = rw (lt-ltb (length s.known) P.known_room h)

  lower-full : P.known_room ≤ length s.known → lower P c n t s none ≡ stopped (NoRoom Known)
  unfolding lower
  lower-full h = rw (le-ltb (length s.known) P.known_room h)

-- ---- the cases of the code

module _ (p : Plan) (flags w h : List ℕ) (count : ℕ) (z : Sizes) (at t : ℕ) (n : Cell) (good : HoldsSearch p w h z) (words : Words n) where
  abbrev P : Problem
  P = problem_of p flags count

  abbrev c : ℕ
  c = raw_of (cell_in w p.known at)

  abbrev s : State
  s = state_in p w h z

  shut-is : P.blocked (raw_of n) ≡ is_shut p.rule (rows_of 20 flags count) n
  unfolding plan_of
  shut-is = ap (is_shut p.rule (rows_of 20 flags count)) (cell-raw n words)

  ahead-is : P.heuristic (raw_of n) ≡ distance_bits (distance_cells n p.goal)
  unfolding plan_of
  ahead-is = ap (λ (d : Cell). distance_bits (distance_cells d p.goal)) (cell-raw n words)

  room-is : P.known_room ≡ p.known
  unfolding plan_of
  room-is = refl

  module _ (k : Option KnownRow) where
    abbrev flow : Flow
    flow = tried P c (raw_of n) t s k

    stays : flow ≡ going s → StepMeets P p w h w h (Ok (step.Going z)) flow
    stays e = record { same = sym e; good = good; workspace-length = refl; heap-length = refl }

    pub closed-meets : is_closed k ≡ true → StepMeets P p w h w h (Ok (step.Going z)) flow
    closed-meets e = stays (tried-closed P c (raw_of n) t s k e)

    pub worse-meets : less t (g_of k) ≡ false → StepMeets P p w h w h (Ok (step.Going z)) flow
    worse-meets l = stays (tried-worse P c (raw_of n) t s k l)

    module _ (unclosed : is_closed k ≡ false) where
      pub shut-meets : is_shut p.rule (rows_of 20 flags count) n ≡ true → StepMeets P p w h w h (Ok (step.Going z)) flow
      shut-meets f = stays (tried-shut P c (raw_of n) t s k unclosed (shut-is ∙ f))

      lowers : is_shut p.rule (rows_of 20 flags count) n ≡ false → less t (g_of k) ≡ true → flow ≡ lower P c (raw_of n) t s k
      lowers free l = tried-lower P c (raw_of n) t s k unclosed (shut-is ∙ free) l

  module _ (free : is_shut p.rule (rows_of 20 flags count) n ≡ false) where
    -- a shorter way to the cell of record i, which is n
    pub lowered-meets : (w' h' : List ℕ) (r : Result Step Refusal) (i : ℕ) (d : Cell) → d ≡ n → (row_in w p.known i).closed ≡ false → less t (row_in w p.known i).g ≡ true
        → StepMeets P p w h w' h' r (push P c (raw_of d) t s (distance_bits (distance_cells d p.goal))) → StepMeets P p w h w' h' r (flow (some (row_in w p.known i)))
    lowered-meets w' h' r i d same unclosed l m =
        let e = lowers (some (row_in w p.known i)) unclosed free l ∙ lower-known P c (raw_of n) t s (row_in w p.known i) ∙ ap (push P c (raw_of n) t s) ahead-is in
        subst (StepMeets P p w h w' h' r) (ap (λ (a : Cell). push P c (raw_of a) t s (distance_bits (distance_cells a p.goal))) same ∙ sym e) m

    module _ (l : less t 0x7FF0_0000_0000_0000 ≡ true) where
      -- a first way
      pub added-meets : (w' h' : List ℕ) (r : Result Step Refusal) → z.known < p.known → StepMeets P p w h w' h' r (push P c (raw_of n) t s (distance_bits (distance_cells n p.goal))) → StepMeets P p w h w' h' r (flow none)
      added-meets w' h' r room m =
          let e = lowers none refl free l ∙ lower-new P c (raw_of n) t s (subst (λ (x : ℕ). x < P.known_room) (sym (length-rows w p.known z.known)) (subst (λ (x : ℕ). z.known < x) (sym room-is) room)) ∙ ap (push P c (raw_of n) t s) ahead-is in
          subst (StepMeets P p w h w' h' r) (sym e) m

      -- no room for another known cell
      pub crowded-meets : p.known ≤ z.known → StepMeets P p w h w h (Err (NoRoom Known)) (flow none)
      crowded-meets full =
          let e = lowers none refl free l ∙ lower-full P c (raw_of n) t s (subst (λ (x : ℕ). P.known_room ≤ x) (sym (length-rows w p.known z.known)) (subst (λ (x : ℕ). x ≤ z.known) (sym room-is) full)) in
          record { same = sym e; good = tt; workspace-length = refl; heap-length = refl }

-- t is the g of the cell n by way of the cell of record `at`
pub record Paid (w : List ℕ) (room at g t : ℕ) (n : Cell) : Type 0 where
  pub words : Words n
  pub words-before : Words (cell_in w room at)
  pub sum : t ≡ plus g (to_bits binary64 (cost_between (cell_in w room at) n))

-- a neighbour is tried with the row that is kept of it
module _ (p : Plan) (flags w h : List ℕ) (count : ℕ) (z : Sizes) (at g t : ℕ) (n : Cell) (by : Paid w p.known at g t n) where
  cost-is : (problem_of p flags count).cost (raw_of (cell_in w p.known at)) (raw_of n) ≡ to_bits binary64 (cost_between (cell_in w p.known at) n)
  unfolding plan_of
  cost-is = λ i. to_bits binary64 (cost_between (cell-raw (cell_in w p.known at) by.words-before i) (cell-raw n by.words i))

  pub relaxed : (k : Option KnownRow) → find (raw_of n) (rows_in w p.known z.known) ≡ k
      → tried (problem_of p flags count) (raw_of (cell_in w p.known at)) (raw_of n) t (state_in p w h z) k ≡ relax (problem_of p flags count) (raw_of (cell_in w p.known at)) g (raw_of n) (state_in p w h z)
  unfolding relax
  relaxed k found =
      sym
      ((λ i. tried (problem_of p flags count) (raw_of (cell_in w p.known at)) (raw_of n) (plus g (cost-is i)) (state_in p w h z) (found i))
      ∙ ap (λ (x : ℕ). tried (problem_of p flags count) (raw_of (cell_in w p.known at)) (raw_of n) x (state_in p w h z) k) (sym by.sum))
