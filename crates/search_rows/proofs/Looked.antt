-- What known's search answers, as the definition finds it.
use Rattle.std.specs.Prelude.{Option, Some, None}
use mathlib.Core.List.{List}
use Prim.Native.Nat.{ℕ}
use Rattle.refusal.specs.declared.Cell.{Cell}
use Rattle.words.specs.Word.{Bytes}
use Rattle.cell.specs.Terms.{Words}
use Rattle.known.specs.Inner.Found.{Right}
use Rattle.known.specs.Inner.Seek.{find_in}
use Rattle.known.proofs.Sought.{found_right}
use Rattle.search_rows.specs.Inner.Rows.{Rows, Looked}
use Rattle.search_rows.proofs.RowsLaws.{find-row, find-no-row}

pub looked : (l : List ℕ) (room n : ℕ) (c : Cell) (r : Option ℕ) → Rows l room n → Bytes l → Words c → Right l room n c r → Looked l room n c r
looked l room n c (Some i) rows bytes words right =
    (right.0, right.1, rw right.1 at (find-row l room n rows bytes i right.0))
looked l room n c None rows bytes words right = (right, find-no-row l room n c bytes words right)

pub looked-in : (l : List ℕ) (room n : ℕ) (c : Cell) → Rows l room n → Bytes l → Words c → Looked l room n c (find_in l room n c)
looked-in l room n c rows bytes words = looked l room n c (find_in l room n c) rows bytes words (found_right l room n c rows.known bytes words)
