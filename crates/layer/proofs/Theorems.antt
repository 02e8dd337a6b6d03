-- What is shown in this crate beside the contracts of src/: the theorems that docs/PROMISES.md names, in words of specs/. The law behind each is the one that its proof names.
use mathlib.Core.Path.{◌≡◌}
use mathlib.Core.Bool.{true}
use mathlib.Core.List.{List}
use Prim.Native.Nat.{ℕ, ◌+◌, ◌<◌, ◌≤◌, ◌-◌, ◌^◌}
use Rattle.std.specs.Prelude.{Some, None, Result, Ok, Err}
use Rattle.refusal.specs.declared.Refusal.{Refusal}
use Rattle.general.specs.Changed.{changed, Changed}
use Rattle.refusal.specs.declared.Cell.{Cell}
use Rattle.refusal.specs.declared.Refusal.TheVariants.{NoRoom}
use Rattle.refusal.specs.declared.Room.TheVariants as room
use Rattle.words.specs.Word.{Bytes}
use Rattle.cell.specs.Bytes.{from_bytes_of, cell_width}
use Rattle.cell.specs.Terms.{Words}
use Rattle.table.specs.Records.{room_for, rows_of, is_sound, held_of, with_row, keeping, without_cell}
use Rattle.table.specs.Terms.{Holds}
use Rattle.layer.specs.Changes.{set_in, remove_in, left_by}
use Rattle.layer.proofs as laws

-- In a sound layer that is not full, a set of a cell that is not kept is answered with one cell more.
pub set_new :
    (w : ℕ) (l : List ℕ) (n : ℕ) (m : List ℕ) (c : Cell) (read : from_bytes_of m ≡ Ok c) (sound : is_sound w l n ≡ true) (k : ℕ)
    → held_of c (rows_of w l n) ≡ None → n < room_for w l → (set_in w l n m k).said ≡ Ok (n + 1)
set_new = laws.CallAnswers.set_new

-- In a sound layer that is full, a set of a cell that is not kept is NoRoom 4, and no byte changes.
pub set-no-room :
    (w : ℕ) (l : List ℕ) (n : ℕ) (m : List ℕ) (c : Cell) (read : from_bytes_of m ≡ Ok c) (sound : is_sound w l n ≡ true) (k : ℕ)
    → held_of c (rows_of w l n) ≡ None → n ≡ room_for w l → set_in w l n m k ≡ changed (Err (NoRoom room.Layer)) l
set-no-room = laws.CallAnswers.set-no-room

-- In a sound layer, full or not, a set of a cell that is kept is answered with as many cells as before.
pub set-again :
    (w : ℕ) (l : List ℕ) (n : ℕ) (m : List ℕ) (c : Cell) (read : from_bytes_of m ≡ Ok c) (sound : is_sound w l n ≡ true) (k v : ℕ)
    → held_of c (rows_of w l n) ≡ Some v → (set_in w l n m k).said ≡ Ok n
set-again = laws.CallAnswers.set-again

-- A remove of a cell that a sound layer keeps says what was kept.
pub remove-kept :
    (w : ℕ) (l : List ℕ) (n : ℕ) (m : List ℕ) (c : Cell) (read : from_bytes_of m ≡ Ok c) (sound : is_sound w l n ≡ true) (v : ℕ)
    → held_of c (rows_of w l n) ≡ Some v → (remove_in w l n m).said ≡ Ok (Some v)
remove-kept = laws.CallAnswers.remove-kept

-- A remove of a cell that a sound layer does not keep says that nothing was kept, and no byte changes.
pub remove-missing :
    (w : ℕ) (l : List ℕ) (n : ℕ) (m : List ℕ) (c : Cell) (read : from_bytes_of m ≡ Ok c) (sound : is_sound w l n ≡ true) → cell_width ≤ w → Bytes l
    → held_of c (rows_of w l n) ≡ None → remove_in w l n m ≡ changed (Ok None) l
remove-missing = laws.CallAnswers.remove-missing

-- Removed room serves again: after a remove of a cell that was kept, in a full layer too, a set of any cell that is not kept then is answered with as many cells as there were at first.
pub room-serves-again :
    (w : ℕ) (l : List ℕ) (n : ℕ) (m : List ℕ) (c : Cell) (v : ℕ) (q : List ℕ) (d : Cell) (k : ℕ) → cell_width ≤ w → Bytes l → from_bytes_of m ≡ Ok c
    → from_bytes_of q ≡ Ok d → is_sound w l n ≡ true → held_of c (rows_of w l n) ≡ Some v
    → held_of d (rows_of w (remove_in w l n m).bytes (n - 1)) ≡ None → (set_in w (remove_in w l n m).bytes (n - 1) q k).said ≡ Ok n
room-serves-again = laws.CallAnswers.room-serves-again

-- A set leaves a sound layer that has the new row and says its count, or it is NoRoom 4 and the bytes stay: what holds of both of these holds of the set.
pub set-either :
    (w : ℕ) (l : List ℕ) (n : ℕ) (m : List ℕ) (c : Cell) (read : from_bytes_of m ≡ Ok c) (sound : is_sound w l n ≡ true) (least : cell_width ≤ w)
    (bytes : Bytes l) → (P : Changed (Result ℕ Refusal) → Type 0) (k : ℕ) → Words c → k < 256 ^ (w - cell_width)
    → ((t : List ℕ) (i : ℕ) → Holds w t i (with_row (keeping c k) (rows_of w l n)) → P (changed (Ok i) t))
    → P (changed (Err (NoRoom room.Layer)) l) → P (set_in w l n m k)
set-either = laws.Holding.set-either

-- A remove from a sound layer leaves a sound layer with all rows but the cell's: one cell less where it was kept, else as many as there were.
pub remove-holds :
    (w : ℕ) (l : List ℕ) (n : ℕ) (m : List ℕ) (c : Cell) (read : from_bytes_of m ≡ Ok c) (sound : is_sound w l n ≡ true) (least : cell_width ≤ w)
    (bytes : Bytes l) → Holds w (remove_in w l n m).bytes (left_by (remove_in w l n m).said n) (without_cell c (rows_of w l n))
remove-holds = laws.Holding.remove-holds
