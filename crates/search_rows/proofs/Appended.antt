-- A row behind the others: a record that known has added, and its row written.
use mathlib.Core.Path.{◌≡◌, sym, ap, ◌∙◌}
use mathlib.Core.Bool.{false}
use mathlib.Core.List.{List}
use Prim.Native.Nat.{ℕ, ◌+◌, ◌^◌, ◌≤◌, ◌<◌}
use native.Mathlib.Decide.{ℕ_discrete}
use native.Mathlib.Omega.{arith}
use lib.Dec.{ltb}
use Rattle.refusal.specs.declared.Cell.{Cell}
use Rattle.refusal.specs.Refusals.{raw_of}
use Rattle.words.specs.Word.{little, word, Bytes}
use Rattle.cell.specs.Terms.{Words}
use Rattle.known.specs.Inner.Known.{Roomy, Added, record_offset, cell_in, add_in, clear_in}
use Rattle.known.proofs.Laws.{added-cell}
use Rattle.known.proofs.Added.{added}
use Rattle.known.proofs.Emptied.{emptied}
use Rattle.search.specs.Search.{row, put}
use Rattle.search_rows.specs.Inner.Rows.{before_in, row_in, rows_in, append_in, Rows, RowChanged}
use Rattle.search_rows.proofs.Rows.{Written}
use Rattle.search_rows.proofs.RowsLaws.{row_is, row_same, put-row-behind}
use Rattle.search_rows.proofs.Written.{written}

module _ (l m l' : List ℕ) (room n : ℕ) (c : Cell) (g before : ℕ) (rows : Rows l room n) (within : before ≤ n) (nowhere : (j : ℕ) → j < n → cell_in l room j ≡ c → ⊥) (added : Added l m room n c) (wrote : Written m l' room n 0 g before) where
  cell-old : (j : ℕ) → j < n → cell_in l' room j ≡ cell_in l room j
  cell-old j old = wrote.cells j ∙ added.cells j old

  pub cell-new : cell_in l' room n ≡ c
  cell-new = wrote.cells n ∙ added-cell added

  field-old : (j p k : ℕ) → j < n → 20 ≤ p → p + k ≤ 40 → word little k l' (record_offset room j + p) ≡ word little k l (record_offset room j + p)
  field-old j p k old from to = wrote.others j p k (omega arith) from to ∙ added.fields j p k from to

  row_old : (j : ℕ) → j < n → row_in l' room j ≡ row_in l room j
  row_old j old =
      row_same l l' room j (cell-old j old)
      (field-old j 24 8 old (omega arith) (omega arith))
      (field-old j 32 4 old (omega arith) (omega arith))
      (cell-old (before_in l room j) (rows.back j old))
      (field-old j 20 4 old (omega arith) (omega arith))

  row_new : row_in l' room n ≡ row (raw_of c) g (raw_of (cell_in l' room before)) false
  row_new = row_is l' room n cell-new wrote.g-is (ap (cell_in l' room) wrote.before-is) (ap (ltb 0) wrote.mark-is)

  -- no other row has the cell of the new one
  new_apart : (j : ℕ) → j < n → cell_in l' room j ≡ cell_in l' room n → ⊥
  new_apart j old e = nowhere j old (sym (cell-old j old) ∙ e ∙ cell-new)

  apart : (i j : ℕ) → i < n + 1 → j < n + 1 → cell_in l' room i ≡ cell_in l' room j → i ≡ j
  apart i j less fewer e = by_place (ℕ_discrete i n) (ℕ_discrete j n)
    where
      by_place : Dec (i ≡ n) → Dec (j ≡ n) → i ≡ j
      by_place (yes first) (yes second) = first ∙ sym second
      by_place (yes first) (no other) = absurd (new_apart j (omega arith) (sym e ∙ ap (cell_in l' room) first))
      by_place (no other) (yes second) = absurd (new_apart i (omega arith) (e ∙ ap (cell_in l' room) second))
      by_place (no other) (no another) = rows.apart i j (omega arith) (omega arith) (sym (cell-old i (omega arith)) ∙ e ∙ cell-old j (omega arith))

  back : (j : ℕ) → j < n + 1 → before_in l' room j < n + 1
  back j less = by_place (ℕ_discrete j n)
    where
      by_place : Dec (j ≡ n) → before_in l' room j < n + 1
      by_place (yes e) = omega (arith, ap (before_in l' room) e, wrote.before-is)
      by_place (no other) =
          let old : j < n = omega arith in
          omega (arith, field-old j 32 4 old (omega arith) (omega arith), rows.back j old)

  pub appended : Bytes l → Words c → RowChanged l l' room n (n + 1) (put (raw_of c) g (raw_of (cell_in l' room before)) (rows_in l room n))
  appended bytes words =
      record {
        good = record { known = wrote.known (n + 1) added.known; apart = apart; back = back };
        rows_are = put-row-behind l l' room n c g (raw_of (cell_in l' room before)) bytes words nowhere row_old row_new;
        cells = cell-old;
        rest = wrote.rest ∙ added.rest;
        length-kept = wrote.length-kept ∙ added.length-kept;
      }

-- what `append` leaves where the bytes hold rows without the cell
module _ (l : List ℕ) (room n : ℕ) (c : Cell) (g before : ℕ) (rows : Rows l room n) (less : n < room) (within : before ≤ n) (nowhere : (j : ℕ) → j < n → cell_in l room j ≡ c → ⊥) (cost : g < 256 ^ 8) (words : Words c) where
  added-in : Added l (add_in l room n c) room n c
  added-in = added l room n c rows.known less words

  written_in : Written (add_in l room n c) (append_in l room n c g before) room n 0 g before
  written_in =
      let small = rows.known.roomy.small in
      written (add_in l room n c) room n g before added-in.known.roomy less cost (omega arith)

  pub cell-in : cell_in (append_in l room n c g before) room n ≡ c
  cell-in = cell-new l (add_in l room n c) (append_in l room n c g before) room n c g before rows within nowhere added-in written_in

  pub appended-in : Bytes l → RowChanged l (append_in l room n c g before) room n (n + 1) (put (raw_of c) g (raw_of (cell_in (append_in l room n c g before) room before)) (rows_in l room n))
  appended-in bytes = appended l (add_in l room n c) (append_in l room n c g before) room n c g before rows within nowhere added-in written_in bytes words

-- what `clear` leaves
pub cleared-in : (l : List ℕ) (room : ℕ) → Roomy l room → Rows (clear_in l room) room 0
cleared-in l room roomy = record { known = (emptied l room roomy).known; apart = λ i j less fewer e. absurd (omega arith); back = λ i less. absurd (omega arith) }
