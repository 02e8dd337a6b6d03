-- Theorems about functions that stand between crates, which C does not call: what docs/PROMISES.md says of the search's memory, in words of specs/Inner.
-- The law behind each is the one that its proof names.
use mathlib.Core.List.{List}
use mathlib.Core.Path.{◌≡◌}
use Prim.Native.Nat.{ℕ, ◌+◌, ◌^◌, ◌≤◌, ◌<◌}
use Rattle.refusal.specs.Refusals.{raw_of}
use Rattle.refusal.specs.declared.Cell.{Cell}
use Rattle.words.specs.Word.{Bytes}
use Rattle.cell.specs.Terms.{Words}
use Rattle.known.specs.Inner.Known.{cell_in, Roomy, clear_in}
use Rattle.known.specs.Inner.Seek.{find_in}
use Rattle.search.specs.Search.{put, close}
use Rattle.search_rows.specs.Inner.Rows.{Rows, Looked, rows_in, append_in, RowChanged, close_in, lower_in}
use Rattle.search_rows.proofs as laws

-- In a workspace with rows, what is found of a cell is what the definition finds: its row, at the record that has it, or none.
pub looked-in : (l : List ℕ) (room n : ℕ) (c : Cell) → Rows l room n → Bytes l → Words c → Looked l room n c (find_in l room n c)
looked-in = laws.Looked.looked-in

-- In a workspace with rows that is not full, a record more for a cell that none has leaves the rows with that cell put last, as the definition puts it.
pub appended-in :
    (l : List ℕ) (room n : ℕ) (c : Cell) (g before : ℕ) (rows : Rows l room n) (less : n < room) (within : before ≤ n)
    (nowhere : (j : ℕ) → j < n → cell_in l room j ≡ c → ⊥) (cost : g < 256 ^ 8) (words : Words c) → Bytes l
    → RowChanged l (append_in l room n c g before) room n (n + 1) (put (raw_of c) g (raw_of (cell_in (append_in l room n c g before) room before)) (rows_in l room n))
appended-in = laws.Appended.appended-in

-- In a workspace that has room, `clear` leaves no rows.
pub cleared-in : (l : List ℕ) (room : ℕ) → Roomy l room → Rows (clear_in l room) room 0
cleared-in = laws.Appended.cleared-in

-- In a workspace with rows, to close a known record leaves the rows with its cell closed, as the definition closes it.
pub closed_in :
    (l : List ℕ) (room n i : ℕ) → Rows l room n → Bytes l → i < n
    → RowChanged l (close_in l room i) room n n (close (raw_of (cell_in l room i)) (rows_in l room n))
closed_in = laws.Written.closed_in

-- In a workspace with rows, a new g and a new record before a known one leave the rows with its cell put anew, as the definition puts it.
pub lowered-in :
    (l : List ℕ) (room n i g before : ℕ) → Rows l room n → Bytes l → i < n → before < n → g < 256 ^ 8
    → RowChanged l (lower_in l room i g before) room n n (put (raw_of (cell_in l room i)) g (raw_of (cell_in l room before)) (rows_in l room n))
lowered-in = laws.Written.lowered-in
