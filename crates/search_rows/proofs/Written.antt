-- A row written into a record: its fields are read back, and no cell, link, head or field of another record changes.
use mathlib.Core.Path.{◌≡◌, sym, ap, ◌∙◌}
use mathlib.Core.Logic.{◌≢◌}
use mathlib.Core.List.{List}
use Prim.Native.Nat.{ℕ, ◌+◌, ◌*◌, ◌^◌, ◌<◌}
use native.Mathlib.Decide.{ℕ_discrete}
use native.Mathlib.Omega.{arith}
use lib.Dec.{ltb}
use lib.ListN.{length, drop}
use Rattle.refusal.specs.Refusals.{raw_of}
use Rattle.words.specs.Word.{little, word, Bytes}
use Rattle.words.proofs.Word.{Apart}
use Rattle.words.proofs.Laws.{length-stored, word-stored, word-stored-apart, drop-after-stored}
use Rattle.known.specs.Inner.Known.{Roomy, Known, record_offset, cell_in}
use Rattle.known.proofs.Laws.{cell-beside-field, known-beside-field}
use Rattle.search.specs.Search.{KnownRow, row, put, close}
use Rattle.search_rows.specs.Inner.Rows.{mark_in, g_in, before_in, row_in, rows_in, with_mark, with_cost, close_in, lower_in, Rows, RowChanged}
use Rattle.search_rows.proofs.Rows.{Written}
use Rattle.search_rows.proofs.RowsLaws.{row_is, row_same, put-row, close_row}

-- ---- the mark alone

module _ (l : List ℕ) (room i : ℕ) (roomy : Roomy l room) (below : i < room) where
  pub marked : (mark : ℕ) → mark < 256 ^ 4 → Written l (with_mark l room i mark) room i mark (g_in l room i) (before_in l room i)
  marked mark small =
      let size = roomy.size in
      record {
        known = known-beside-field little 4 l room i 20 mark (omega arith) (omega arith);
        cells = cell-beside-field little 4 l room i 20 mark (omega arith) (omega arith);
        others = λ j p k other from to. word-stored-apart little little 4 k l (record_offset room i + 20) mark (record_offset room j + p) (omega arith);
        mark-is = word-stored little 4 l (record_offset room i + 20) mark (omega arith) small;
        g-is = word-stored-apart little little 4 8 l (record_offset room i + 20) mark (record_offset room i + 24) (omega arith);
        before-is = word-stored-apart little little 4 4 l (record_offset room i + 20) mark (record_offset room i + 32) (omega arith);
        rest = drop-after-stored little 4 l (record_offset room i + 20) mark (44 * room) (omega arith);
        length-kept = length-stored little 4 l (record_offset room i + 20) mark;
      }

-- ---- the whole row

module _ (l : List ℕ) (room i g before : ℕ) where
  length-mark : length (with_mark l room i 0) ≡ length l
  length-mark = length-stored little 4 l (record_offset room i + 20) 0

  length-cost : length (with_cost l room i g) ≡ length l
  length-cost = length-stored little 8 (with_mark l room i 0) (record_offset room i + 24) g ∙ length-mark

  pub length-row : length (lower_in l room i g before) ≡ length l
  length-row = length-stored little 4 (with_cost l room i g) (record_offset room i + 32) before ∙ length-cost

  -- a word that no store covers stays
  word_kept : (k q : ℕ) → Apart (record_offset room i + 20) 16 q k → word little k (lower_in l room i g before) q ≡ word little k l q
  word_kept k q off =
      word-stored-apart little little 4 k (with_cost l room i g) (record_offset room i + 32) before q (omega arith)
      ∙ word-stored-apart little little 8 k (with_mark l room i 0) (record_offset room i + 24) g q (omega arith)
      ∙ word-stored-apart little little 4 k l (record_offset room i + 20) 0 q (omega arith)

  known_kept : (n : ℕ) → Known l room n → Known (lower_in l room i g before) room n
  known_kept n known =
      known-beside-field little 4 (with_cost l room i g) room i 32 before (omega arith) (omega arith) n
      (known-beside-field little 8 (with_mark l room i 0) room i 24 g (omega arith) (omega arith) n
      (known-beside-field little 4 l room i 20 0 (omega arith) (omega arith) n known))

  cell-kept : (j : ℕ) → cell_in (lower_in l room i g before) room j ≡ cell_in l room j
  cell-kept j =
      cell-beside-field little 4 (with_cost l room i g) room i 32 before (omega arith) (omega arith) j
      ∙ cell-beside-field little 8 (with_mark l room i 0) room i 24 g (omega arith) (omega arith) j
      ∙ cell-beside-field little 4 l room i 20 0 (omega arith) (omega arith) j

  module _ (roomy : Roomy l room) (below : i < room) (cost : g < 256 ^ 8) (small : before < 256 ^ 4) where
    mark-new : mark_in (lower_in l room i g before) room i ≡ 0
    mark-new =
        let size = roomy.size in
        word-stored-apart little little 4 4 (with_cost l room i g) (record_offset room i + 32) before (record_offset room i + 20) (omega arith)
        ∙ word-stored-apart little little 8 4 (with_mark l room i 0) (record_offset room i + 24) g (record_offset room i + 20) (omega arith)
        ∙ word-stored little 4 l (record_offset room i + 20) 0 (omega arith) (omega arith)

    g-new : g_in (lower_in l room i g before) room i ≡ g
    g-new =
        let size = roomy.size in
        word-stored-apart little little 4 8 (with_cost l room i g) (record_offset room i + 32) before (record_offset room i + 24) (omega arith)
        ∙ word-stored little 8 (with_mark l room i 0) (record_offset room i + 24) g (omega (arith, length-mark)) cost

    before-new : before_in (lower_in l room i g before) room i ≡ before
    before-new =
        let size = roomy.size in
        word-stored little 4 (with_cost l room i g) (record_offset room i + 32) before (omega (arith, length-cost)) small

    rest-kept : drop (44 * room) (lower_in l room i g before) ≡ drop (44 * room) l
    rest-kept =
        drop-after-stored little 4 (with_cost l room i g) (record_offset room i + 32) before (44 * room) (omega arith)
        ∙ drop-after-stored little 8 (with_mark l room i 0) (record_offset room i + 24) g (44 * room) (omega arith)
        ∙ drop-after-stored little 4 l (record_offset room i + 20) 0 (44 * room) (omega arith)

    pub written : Written l (lower_in l room i g before) room i 0 g before
    written =
        record {
          known = known_kept;
          cells = cell-kept;
          others = λ j p k other from to. word_kept k (record_offset room j + p) (omega arith);
          mark-is = mark-new;
          g-is = g-new;
          before-is = before-new;
          rest = rest-kept;
          length-kept = length-row;
        }

-- ---- what it leaves of the rows

module _ (l l' : List ℕ) (room n i mark g before : ℕ) (rows : Rows l room n) (within : before < n) (wrote : Written l l' room i mark g before) where
  back-kept : (j : ℕ) → j < n → before_in l' room j < n
  back-kept j less = by_place (ℕ_discrete j i)
    where
      by_place : Dec (j ≡ i) → before_in l' room j < n
      by_place (yes e) = omega (arith, ap (before_in l' room) e, wrote.before-is)
      by_place (no other) = omega (arith, wrote.others j 32 4 other (omega arith) (omega arith), rows.back j less)

  changed : (list : List KnownRow) → rows_in l' room n ≡ list → RowChanged l l' room n n list
  changed list is =
      record {
        good = record {
          known = wrote.known n rows.known;
          apart = λ j k less fewer e. rows.apart j k less fewer (sym (wrote.cells j) ∙ e ∙ wrote.cells k);
          back = back-kept;
        };
        rows_are = is;
        cells = λ j less. wrote.cells j;
        rest = wrote.rest;
        length-kept = wrote.length-kept;
      }

  row_kept : (j : ℕ) → j ≢ i → row_in l' room j ≡ row_in l room j
  row_kept j other =
      row_same l l' room j (wrote.cells j)
      (wrote.others j 24 8 other (omega arith) (omega arith))
      (wrote.others j 32 4 other (omega arith) (omega arith))
      (wrote.cells (before_in l room j))
      (wrote.others j 20 4 other (omega arith) (omega arith))

  row_new : row_in l' room i ≡ row (raw_of (cell_in l room i)) g (raw_of (cell_in l room before)) (ltb 0 mark)
  row_new = row_is l' room i (wrote.cells i) wrote.g-is (ap (cell_in l' room) wrote.before-is ∙ wrote.cells before) (ap (ltb 0) wrote.mark-is)

pub lowered : (l l' : List ℕ) (room n i g before : ℕ) → Rows l room n → Bytes l → i < n → before < n → Written l l' room i 0 g before → RowChanged l l' room n n (put (raw_of (cell_in l room i)) g (raw_of (cell_in l room before)) (rows_in l room n))
lowered l l' room n i g before rows bytes below within wrote =
    changed l l' room n i 0 g before rows within wrote (put (raw_of (cell_in l room i)) g (raw_of (cell_in l room before)) (rows_in l room n))
    (put-row l room n rows bytes i below l' (row_kept l l' room n i 0 g before rows within wrote) g (raw_of (cell_in l room before)) (row_new l l' room n i 0 g before rows within wrote))

pub closed : (l l' : List ℕ) (room n i : ℕ) → Rows l room n → Bytes l → i < n → Written l l' room i 1 (g_in l room i) (before_in l room i) → RowChanged l l' room n n (close (raw_of (cell_in l room i)) (rows_in l room n))
closed l l' room n i rows bytes below wrote =
    let g = g_in l room i in
    let before = before_in l room i in
    let within = rows.back i below in
    changed l l' room n i 1 g before rows within wrote (close (raw_of (cell_in l room i)) (rows_in l room n))
    (close_row l room n rows bytes i below l' (row_kept l l' room n i 1 g before rows within wrote) (row_new l l' room n i 1 g before rows within wrote))

-- ---- what the functions leave where the bytes hold rows

pub closed_in : (l : List ℕ) (room n i : ℕ) → Rows l room n → Bytes l → i < n → RowChanged l (close_in l room i) room n n (close (raw_of (cell_in l room i)) (rows_in l room n))
closed_in l room n i rows bytes below =
    let most = rows.known.count in
    closed l (close_in l room i) room n i rows bytes below (marked l room i rows.known.roomy (omega arith) 1 (omega arith))

pub lowered-in : (l : List ℕ) (room n i g before : ℕ) → Rows l room n → Bytes l → i < n → before < n → g < 256 ^ 8 → RowChanged l (lower_in l room i g before) room n n (put (raw_of (cell_in l room i)) g (raw_of (cell_in l room before)) (rows_in l room n))
lowered-in l room n i g before rows bytes below within cost =
    let most = rows.known.count in
    let small = rows.known.roomy.small in
    lowered l (lower_in l room i g before) room n i g before rows bytes below within (written l room i g before rows.known.roomy (omega arith) cost (omega arith))
