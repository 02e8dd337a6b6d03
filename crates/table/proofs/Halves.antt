-- The search by halves: what is known of the records on either side of those that are left.
use mathlib.Core.Path.{◌≡◌, sym, ap, subst, ◌∙◌}
use mathlib.Core.Bool.{Bool, true, false}
use mathlib.Core.List.{List}
use mathlib.Core.Logic.{⊎_elim}
use Prim.Native.Nat.{ℕ, ◌+◌, ◌-◌, ◌*◌, ◌/◌, ◌≤◌, ◌<◌}
use native.Mathlib.Nat.{eq-or-lt_of_le}
use native.Mathlib.Omega.{arith}
use borrow.Author.Tests.{ltb-false, eqb-false, lt-ltb}
use lib.ListN.{length}
use Rattle.refusal.specs.declared.Cell.{Cell}
use Rattle.refusal.specs.Refusals.{raw_of}
use Rattle.cell.specs.Cell.{same_cell, less_cell}
use Rattle.cell.specs.Bytes.{cell_at}
use Rattle.cell.proofs.Laws.{less-transitive}
use Rattle.table.specs.Records.{row_at, is_sound}
use Rattle.table.specs.Inner.Places.{GoesBefore}
use Rattle.table.proofs.Laws.{row-cell, row_within, sound-room, sound-less}

-- the records before `low` are below the cell, those from `high` on above it
pub record Left (w : ℕ) (l : List ℕ) (n : ℕ) (c : Cell) (low high : ℕ) : Type 0 where
  pub crossed : low ≤ high
  pub within : high ≤ n
  pub below : (k : ℕ) → k < low → less_cell (row_at w l k).cell c ≡ true
  pub above : (k : ℕ) → high ≤ k → k < n → less_cell c (row_at w l k).cell ≡ true

-- the record that is looked at
abbrev pub middle : ℕ → ℕ → ℕ
middle low high = low + (high - low) / 2

-- it lies within the table
pub middle-within : (w : ℕ) (l : List ℕ) (n : ℕ) (c : Cell) (low high : ℕ) → is_sound w l n ≡ true → Left w l n c low high → low < high → w * middle low high + w ≤ length l
middle-within w l n c low high sound s h = row_within w l n (middle low high) (sound-room w l n sound) (omega arith)

-- what a test says of a cell that was read holds of the record's
pub tested : (w : ℕ) (l : List ℕ) (i : ℕ) (test : Cell → Bool) {d : Cell} {r t : Bool} → d ≡ cell_at l (w * i) → r ≡ test d → r ≡ t → test (row_at w l i).cell ≡ t
tested w l i test read is e = ap test (row-cell w l i ∙ sym read) ∙ sym is ∙ e

module _ (w : ℕ) (l : List ℕ) (n : ℕ) (c : Cell) where
  pub all_left : Left w l n c 0 n
  all_left = record { crossed = omega arith; within = omega arith; below = λ k h. absurd (omega arith); above = λ k h b. absurd (omega arith) }

  pub none_left : (low high : ℕ) → Left w l n c low high → high ≤ low → GoesBefore w l n c low
  none_left low high s h = record { within = omega arith; below = s.below; above = λ k a b. s.above k (omega arith) b }

  module _ (sound : is_sound w l n ≡ true) (low high m : ℕ) (s : Left w l n c low high) (first : low ≤ m) (last : m < high) where
    -- a record below the cell: it and those before it go
    pub upper-left : less_cell (row_at w l m).cell c ≡ true → Left w l n c (m + 1) high
    upper-left e =
        record {
          crossed = omega arith;
          within = s.within;
          below = λ k h.
              ⊎_elim
              (λ (q : k ≡ m). subst (λ (j : ℕ). less_cell (row_at w l j).cell c ≡ true) (sym q) e)
              (λ (q : k < m). less-transitive (row_at w l k).cell (row_at w l m).cell c (sound-less w l n sound m k q (omega arith)) e)
              (eq-or-lt_of_le {n = k} {m = m} (omega arith));
          above = s.above;
        }

    -- neither the cell's nor below it: it and those after it go
    pub lower-left : same_cell (row_at w l m).cell c ≡ false → less_cell (row_at w l m).cell c ≡ false → Left w l n c low m
    lower-left f g =
        let here = (row_at w l m).cell in
        let e : less_cell c here ≡ true = lt-ltb (raw_of c) (raw_of here) (omega (arith, eqb-false (raw_of here) (raw_of c) f, ltb-false (raw_of here) (raw_of c) g)) in
        record {
          crossed = first;
          within = omega arith;
          below = s.below;
          above = λ k h b.
              ⊎_elim
              (λ (q : m ≡ k). subst (λ (j : ℕ). less_cell c (row_at w l j).cell ≡ true) q e)
              (λ (q : m < k). less-transitive c here (row_at w l k).cell e (sound-less w l n sound k m q b))
              (eq-or-lt_of_le h);
        }
