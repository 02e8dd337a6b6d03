-- Theorems about functions that stand between crates, which C does not call: what docs/PROMISES.md says of the search's memory, in words of specs/Inner.
-- The law behind each is the one that its proof names.
use Rattle.std.proofs.Common.{ℕ, ◌<◌, List}
use Rattle.refusal.specs.declared.Cell.{Cell}
use Rattle.words.specs.Word.{Bytes}
use Rattle.cell.specs.Terms.{Words}
use Rattle.known.specs.Inner.Found.{Right}
use Rattle.known.specs.Inner.Known.{Known, Added, add_in, Roomy, Emptied, clear_in}
use Rattle.known.specs.Inner.Seek.{find_in}
use Rattle.known.proofs as laws

-- In a workspace with n known cells, what `find` answers is right: the record that it names has the cell, or no known record has it.
pub found_right :
    (l : List ℕ) (room n : ℕ) (c : Cell) (known : Known l room n) (bytes : Bytes l) (words : Words c) → Right l room n c (find_in l room n c)
found_right = laws.Sought.found_right

-- In a workspace that is not full, `add` leaves one more known cell, behind the others; the other words of all records, and what stands behind them, stay.
pub added : (l : List ℕ) (room n : ℕ) (c : Cell) (known : Known l room n) (less : n < room) (words : Words c) → Added l (add_in l room n c) room n c
added = laws.Added.added

-- In a workspace that has room, `clear` leaves no known cell, and what stands behind the heads stays.
pub emptied : (l : List ℕ) (room : ℕ) → Roomy l room → Emptied l (clear_in l room) room
emptied = laws.Emptied.emptied
