-- The search's rows in the records of known cells: whether a cell is closed, its g, and the cell before it. What each function leaves there and answers is what the definition's row is.
-- For contracts inside. Definitions only.
use Rattle.std.specs.Prelude.{◌≡◌, List, [], ◌∷◌, ℕ, zero, suc, ◌+◌, ◌*◌, ◌≤◌, ◌<◌, ltb, length, drop, Option, Some, None}
use Rattle.std.proofs.Math.Option.{none, some}
use Rattle.refusal.specs.declared.Cell.{Cell}
use Rattle.refusal.specs.Refusals.{raw_of}
use Rattle.words.specs.Word.{little, word, stored}
use Rattle.known.specs.Inner.Known.{record_offset, cell_in, add_in, Roomy, Known}
use Rattle.search.specs.Search.{KnownRow, row, find}
use Rattle.known.specs.Workspace.{known_width}

-- in a record, behind its link: whether the cell is closed
abbrev pub mark_offset : ℕ
mark_offset = 20

-- behind the mark: the cell's g
abbrev pub cost_offset : ℕ
cost_offset = 24

-- behind the g: the number of the record of the cell before it on the way
abbrev pub before_offset : ℕ
before_offset = 32

-- the mark of record i: 0 where its cell is not closed
abbrev pub mark_in : List ℕ → ℕ → ℕ → ℕ
mark_in l room i = word little 4 l (record_offset room i + mark_offset)

-- the bits of its g
abbrev pub g_in : List ℕ → ℕ → ℕ → ℕ
g_in l room i = word little 8 l (record_offset room i + cost_offset)

-- the number of the record of the cell before it
abbrev pub before_in : List ℕ → ℕ → ℕ → ℕ
before_in l room i = word little 4 l (record_offset room i + before_offset)

-- record i as the definition's row
unfoldable pub row_in : List ℕ → ℕ → ℕ → KnownRow
unfolding cell_in word raw_of
row_in l room i = row (raw_of (cell_in l room i)) (g_in l room i) (raw_of (cell_in l room (before_in l room i))) (ltb 0 (mark_in l room i))

-- n rows, from row i on
unfoldable pub rows_from : (ℕ → KnownRow) → ℕ → ℕ → List KnownRow
rows_from r i zero = []
rows_from r i (suc n) = r i ∷ rows_from r (suc i) n

-- the rows of the first n records
unfoldable pub rows_in : List ℕ → ℕ → ℕ → List KnownRow
unfolding row_in rows_from
rows_in l room n = rows_from (row_in l room) 0 n

-- ---- what is asked of the bytes: lengths and bounds alone

-- record i is one of the first n, and there is room for these
pub record RecordAt (l : List ℕ) (room n i : ℕ) : Type 0 where
  pub roomy : Roomy l room
  pub within : n ≤ room
  pub below : i < n

-- record i and the record that it is to name as the one before: there is room for both
pub record Linked (l : List ℕ) (room i before : ℕ) : Type 0 where
  pub roomy : Roomy l room
  pub here : i < room
  pub back : before < room

-- ---- what the functions leave, whatever the bytes hold

-- record i with this mark
abbrev pub with_mark : List ℕ → ℕ → ℕ → ℕ → List ℕ
with_mark l room i mark = stored little 4 l (record_offset room i + mark_offset) mark

-- record i, not closed, with this g
abbrev pub with_cost : List ℕ → ℕ → ℕ → ℕ → List ℕ
with_cost l room i g = stored little 8 (with_mark l room i 0) (record_offset room i + cost_offset) g

-- record i is closed
abbrev pub close_in : List ℕ → ℕ → ℕ → List ℕ
close_in l room i = with_mark l room i 1

-- record i is not closed, and has this g and the number of this record before it
abbrev pub lower_in : List ℕ → ℕ → ℕ → ℕ → ℕ → List ℕ
lower_in l room i g before = stored little 4 (with_cost l room i g) (record_offset room i + before_offset) before

-- one more record, of this cell, with this g and the number of this record before it
abbrev pub append_in : List ℕ → ℕ → ℕ → Cell → ℕ → ℕ → List ℕ
append_in l room n c g before = lower_in (add_in l room n c) room n g before

-- ---- bytes that hold rows

-- a workspace with n rows: no cell stands twice, and each row's way back leads to a row
pub record Rows (l : List ℕ) (room n : ℕ) : Type 0 where
  pub known : Known l room n
  pub apart : (i j : ℕ) → i < n → j < n → cell_in l room i ≡ cell_in l room j → i ≡ j
  pub back : (i : ℕ) → i < n → before_in l room i < n

-- ---- what the functions answer and leave there

-- what is answered about a cell is what the definition finds: the row of the record that has it, or none
abbrev pub Looked : List ℕ → ℕ → ℕ → Cell → Option ℕ → Type 0
Looked l room n c (Some i) = (i < n) × (cell_in l room i ≡ c) × (find (raw_of c) (rows_in l room n) ≡ some (row_in l room i))
Looked l room n c None = ((j : ℕ) → j < n → cell_in l room j ≡ c → ⊥) × (find (raw_of c) (rows_in l room n) ≡ none)

-- rows that became others; the cells of the n records that were there, and what stands behind the records, stay
pub record RowChanged (l l' : List ℕ) (room n n' : ℕ) (rows : List KnownRow) : Type 0 where
  pub good : Rows l' room n'
  pub rows_are : rows_in l' room n' ≡ rows
  pub cells : (i : ℕ) → i < n → cell_in l' room i ≡ cell_in l room i
  pub rest : drop (known_width * room) l' ≡ drop (known_width * room) l
  pub length-kept : length l' ≡ length l
