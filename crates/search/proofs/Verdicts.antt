-- The route checker walks along what the search found, step by step: the cells are the same, and what it adds is what the search added.
use mathlib.Core.Path.{◌≡◌, refl, sym, ap, subst, ◌∙◌}
use mathlib.Core.Bool.{Bool, true, false, cond, beq}
use mathlib.Core.List.{List, ◌∷◌, map}
use Prim.Native.Nat.{ℕ}
use borrow.Author.Tests.{eq-eqb}
use lib.IntN.{pos}
use lib.Ieee.{Float, fin, binary64, add, to_bits, of_bits}
use lib.Ieee.Bits.{of_bits-to_bits}
use lib.Ieee.Fits.{add-fits}
use Rattle.refusal.specs.declared.Cell.{Cell}
use Rattle.refusal.specs.Refusals.{raw_of, cell_of}
use Rattle.lattice.specs.Lattice.{is_odd}
use Rattle.distance.specs.Steps.{root_three, two_float}
use Rattle.cell.specs.Cell.{x_of}
use Rattle.cell.specs.Terms.{Words}
use Rattle.table.specs.Records.{Row}
use Rattle.route.specs.Route.{cost_between, arrived, walk_from, judge_cells}
use Rattle.route.proofs.StepLaws.{is-step}
use Rattle.search.specs.Search.{plus, Problem}
use Rattle.search.specs.Plan.{plan_of, endpoints}
use Rattle.known.specs.Workspace.{in_rooms}
use Rattle.cell.proofs.Laws.{cell-raw}
use Rattle.search.specs.Terms.{Beside, Leads, here, onward, Route}

-- ---- the bits of a sum

back_by : (t : Bool) → of_bits binary64 (to_bits binary64 (cond t two_float root_three)) ≡ cond t two_float root_three
unfolding of_bits to_bits
back_by true = refl
back_by false = refl

cost-back : (a b : Cell) → of_bits binary64 (to_bits binary64 (cost_between a b)) ≡ cost_between a b
unfolding cost_between
cost-back a b = back_by (beq (is_odd (x_of a)) (is_odd (x_of b)))

sum_back : (g : ℕ) (a b : Cell) → of_bits binary64 (plus g (to_bits binary64 (cost_between a b))) ≡ add binary64 (of_bits binary64 g) (cost_between a b)
unfolding plus
sum_back g a b =
    of_bits-to_bits binary64 (add binary64 (of_bits binary64 g) (of_bits binary64 (to_bits binary64 (cost_between a b)))) (add-fits binary64 (of_bits binary64 g) (of_bits binary64 (to_bits binary64 (cost_between a b))))
    ∙ ap (add binary64 (of_bits binary64 g)) (cost-back a b)

-- the bits of a value, of which there are no others
abbrev Whole : ℕ → Type 0
Whole g = to_bits binary64 (of_bits binary64 g) ≡ g

sum-whole : (g h : ℕ) → Whole (plus g h)
unfolding plus
sum-whole g h = ap (to_bits binary64) (of_bits-to_bits binary64 (add binary64 (of_bits binary64 g) (of_bits binary64 h)) (add-fits binary64 (of_bits binary64 g) (of_bits binary64 h)))

-- ---- the checker walks along what the search found

module _ (s e : Cell) (known waiting limit rule : ℕ) (rows : List Row) where
  abbrev plan : Problem
  plan = plan_of (endpoints s e) (in_rooms known waiting) limit rule rows

  walked : {c g last total : ℕ} {later : List ℕ} → Leads plan Beside c g later last total → Whole g
      → (walk_from rule rows (cell_of c) (of_bits binary64 g) (map cell_of later) ≡ arrived (cell_of last) (of_bits binary64 total)) × Whole total
  unfolding walk_from plan_of
  walked here w = (refl, w)
  walked (onward {c = c} {g = g} {n = n} {last = last} {total = total} {later = later} beside free leads) w =
      let h = walked leads (sum-whole g (to_bits binary64 (cost_between (cell_of c) (cell_of n)))) in
      let paid = sum_back g (cell_of c) (cell_of n) in (
        rw (is-step (cell_of c) (cell_of n) beside.words beside.step, free)
            (subst (λ (x : Float). walk_from rule rows (cell_of n) x (map cell_of later) ≡ arrived (cell_of last) (of_bits binary64 total)) paid h.0),
        h.1,
      )

  module _ (in_start : Words s) (in-goal : Words e) where
    judged : (cost : ℕ) (later : List ℕ) → (walk_from rule rows s (fin false 0 (pos 0)) (map cell_of later) ≡ arrived e (of_bits binary64 cost)) → Whole cost
        → judge_cells rule rows s e cost (map cell_of (raw_of s ∷ later)) ≡ 0
    unfolding judge_cells
    judged cost later walk w =
        rw (cell-raw s in_start, eq-eqb (raw_of s) (raw_of s) refl, walk, eq-eqb (raw_of e) (raw_of e) refl, eq-eqb (to_bits binary64 (of_bits binary64 cost)) cost w)

    -- a route to the goal is judged right, at its cost
    pub route-judged : (cost : ℕ) (cells : List ℕ) → Route plan Beside (raw_of e) cost cells → judge_cells rule rows s e cost (map cell_of cells) ≡ 0
    unfolding plan_of of_bits to_bits
    route-judged cost cells r =
        let h = walked r.leads refl in
        subst (λ (l : List ℕ). judge_cells rule rows s e cost (map cell_of l) ≡ 0) (sym r.begins)
        (judged cost r.later (subst (λ (c : Cell). walk_from rule rows c (fin false 0 (pos 0)) (map cell_of r.later) ≡ arrived e (of_bits binary64 cost)) (cell-raw s in_start)
        (h.0 ∙ ap (λ (c : Cell). arrived c (of_bits binary64 cost)) (cell-raw e in-goal))) h.1)
