-- The verdict on the cells of a list of bytes, one test after the other: the first cell, each step, the end.
use mathlib.Core.Path.{◌≡◌, sym, ap, ◌∙◌}
use mathlib.Core.Bool.{Bool, cond}
use mathlib.Core.List.{List}
use Prim.Native.Nat.{ℕ, suc, ◌+◌, ◌-◌, ◌*◌, ◌/◌, ◌≤◌, ◌<◌}
use native.Mathlib.Numerals.{add-one}
use native.Mathlib.Omega.{arith}
use lib.Ieee.{Float, binary64, add}
use lib.ListN.{length}
use Rattle.refusal.specs.declared.Cell.{Cell}
use Rattle.cell.specs.Cell.{same_cell}
use Rattle.cell.specs.Bytes.{cell_at}
use Rattle.cell.specs.Lists.{cells_from, cells_of}
use Rattle.table.specs.Records.{Row}
use Rattle.route.specs.Route.{is_step, is_shut, cost_between, Walk, stopped, arrived, walk_from, judge_walk, judge_cells}
use Rattle.route.specs.Inner.Walks.{walk_at, walk_of}

module _ (l : List ℕ) (rule : ℕ) (rows : List Row) (i : ℕ) (last : Cell) (paid : Float) where
  -- at each cell two tests decide: whether it is a neighbour, then whether it is shut
  pub walk_step : {next : Cell} {near shut : Bool} {price : Float} → i < length l / 16 → next ≡ cell_at l (16 * i) → is_step last next ≡ near → is_shut rule rows next ≡ shut → price ≡ cost_between last next
      → walk_at l rule rows i last paid ≡ cond near (cond shut (stopped 23) (walk_at l rule rows (i + 1) next (add binary64 paid price))) (stopped 22)
  unfolding walk_from cells_from
  walk_step {next} {near} {shut} h e f g p =
      let n = length l / 16 in
      let left : n - i ≡ suc (n - (i + 1)) = omega arith in
      let later : Cell → List Cell → Walk = λ c. walk_from rule rows c (add binary64 paid (cost_between last c)) in
      ap (λ (k : ℕ). walk_from rule rows last paid (cells_from l i k)) left
      ∙ (λ k. cond (is_step last (sym e k)) (cond (is_shut rule rows (sym e k)) (stopped 23) (later (sym e k) (cells_from l (sym (add-one i) k) (n - (i + 1))))) (stopped 22))
      ∙ (λ k. cond (f k) (cond (g k) (stopped 23) (walk_at l rule rows (i + 1) next (add binary64 paid (sym p k)))) (stopped 22))

  -- past the last cell
  pub walk_end : length l / 16 ≤ i → walk_at l rule rows i last paid ≡ arrived last paid
  unfolding walk_from cells_from
  walk_end h = let none : length l / 16 - i ≡ 0 = omega arith in ap (λ (k : ℕ). walk_from rule rows last paid (cells_from l i k)) none

module _ (l : List ℕ) (rule : ℕ) (rows : List Row) (start goal : Cell) (cost : ℕ) where
  -- no cell
  pub judge_empty : length l ≡ 0 → judge_cells rule rows start goal cost (cells_of l) ≡ 20
  unfolding judge_cells cells_of cells_from
  judge_empty e = let none : length l / 16 ≡ 0 = omega arith in ap (λ (n : ℕ). judge_cells rule rows start goal cost (cells_from l 0 n)) none

  -- whether the first is the start decides whether the walk is judged
  pub judge_start : {t : Bool} → 16 ≤ length l → same_cell (cell_at l 0) start ≡ t → judge_cells rule rows start goal cost (cells_of l) ≡ cond t (judge_walk goal cost (walk_of l rule rows)) 21
  unfolding judge_cells cells_of cells_from
  judge_start h e =
      let some : length l / 16 ≡ suc (length l / 16 - 1) = omega arith in
      ap (λ (n : ℕ). judge_cells rule rows start goal cost (cells_from l 0 n)) some
      ∙ ap (λ (t : Bool). cond t (judge_walk goal cost (walk_of l rule rows)) 21) e
