-- The cases of one pop over any bytes in which the code has read a cell, an entry or a cost first: what it has read is what the definition reads.
use Rattle.std.specs.Prelude.{Result, Option, Some}
use mathlib.Core.Path.{◌≡◌, sym, ap, ◌∙◌}
use mathlib.Core.Bool.{false}
use mathlib.Core.List.{List}
use Prim.Native.Nat.{ℕ, ◌+◌, ◌-◌, ◌≤◌, ◌<◌}
use native.Mathlib.Omega.{arith}
use lib.Dec.{eqb}
use borrow.Author.Tests.{lt-ltb, le-ltb, ne_eqb}
use Rattle.refusal.specs.declared.Cell.{Cell}
use Rattle.refusal.specs.declared.Refusal.{Refusal}
use Rattle.refusal.specs.Refusals.{raw_of}
use Rattle.cell.specs.Cell.{neighbors_of}
use Rattle.table.specs.Records.{Row}
use Rattle.waiting.specs.declared.Entry.{Entry}
use Rattle.waiting.specs.Inner.Entries.{entry_at}
use Rattle.waiting.specs.Inner.Sift.{pop_in}
use Rattle.known.specs.Inner.Known.{cell_in}
use Rattle.known.specs.Inner.Seek.{find_in}
use Rattle.search_rows.specs.Inner.Rows.{g_in, row_in, close_in}
use Rattle.expansion.specs.declared.Plan.{Plan}
use Rattle.expansion.specs.declared.Sizes.{Sizes}
use Rattle.expansion.specs.Inner.Bytes.{sizes_of, is_no_cost, around_in, entered_in, popped_in, advance_in}

module _ (p : Plan) (flags : List Row) (w h : List ℕ) (z : Sizes) where
  -- ---- the cases of one pop

  module _ (at g : ℕ) where
    module _ (left : z.count ≤ p.limit) (c : Cell) (same : c ≡ cell_in w p.known at) where
      entered_on : eqb (raw_of c) (raw_of p.goal) ≡ false → entered_in p flags w h z at g ≡ around_in p flags w h z at c g (neighbors_of c)
      unfolding entered_in
      entered_on e =
          rw (le-ltb p.limit z.count left, ap (λ (d : Cell). eqb (raw_of d) (raw_of p.goal)) (sym same) ∙ e)
          (ap (λ (d : Cell). around_in p flags w h z at d g (neighbors_of d)) (sym same))

      -- with the neighbours that the code has
      pub entered_by : eqb (raw_of c) (raw_of p.goal) ≡ false → (o : Result (List Cell) Refusal) → o ≡ neighbors_of c → entered_in p flags w h z at g ≡ around_in p flags w h z at c g o
      entered_by e o told = entered_on e ∙ ap (around_in p flags w h z at c g) (sym told)

  -- with what the code wrote
  pub popped-entered : (i : ℕ) → (row_in w p.known i).closed ≡ false → z.count < z.known → (g : ℕ) → g ≡ g_in w p.known i → (w' : List ℕ) → g ≤ 0x7FF0_0000_0000_0000 → w' ≡ close_in w p.known i
      → popped_in p flags w h z (Some i) ≡ entered_in p flags w' h (sizes_of z.known (z.waiting - 1) (z.count + 1)) i g
  popped-entered i e l g read w' f row =
      rw (e, lt-ltb z.count z.known l, ap is_no_cost (sym read) ∙ le-ltb 0x7FF0_0000_0000_0000 g f)
      (sym (λ j. entered_in p flags (row j) h (sizes_of z.known (z.waiting - 1) (z.count + 1)) i (read j)))

  advance-pop : 0 < z.waiting → advance_in p flags w h z ≡ popped_in p flags w (pop_in h z.waiting) z (find_in w p.known z.known (entry_at h 0).cell)
  unfolding advance_in
  advance-pop some = rw (ne_eqb z.waiting 0 (λ e. omega arith))

  -- with what the code popped and found
  pub advance-by : (e : Entry) (h' : List ℕ) (r : Option ℕ) → 0 < z.waiting → e ≡ entry_at h 0 → h' ≡ pop_in h z.waiting → r ≡ find_in w p.known z.known e.cell → advance_in p flags w h z ≡ popped_in p flags w h' z r
  advance-by e h' r some first rest look =
      advance-pop some
      ∙ sym (λ i. popped_in p flags w (rest i) z ((look ∙ ap (λ (d : Entry). find_in w p.known z.known d.cell) first) i))
