-- The calls that change a layer or list it: "Remove zeroes the freed last record; clear, load and rollup zero all unused whole records within the limit; other bytes stay. A new cell in a
-- full layer is NoRoom 4; replacing is not, and removed room serves again. [...] Any answer longer than its buffer, in lines, listings and the writer too, is NoRoom 3." By the scope
-- document's order of refusals: BadList for a cell that has not 16 bytes, BadLayer, NoRoom. A refusal changes no byte. Definitions only.
use Rattle.std.specs.Prelude.{Bool, List, [], ◌++◌, ℕ, ◌-◌, ◌*◌, leb, eqb, length, take, drop, Option, Some, None, Result, Ok, Err}
use Rattle.refusal.specs.declared.Room.TheVariants as room
use Rattle.refusal.specs.declared.Refusal.{Refusal}
use Rattle.refusal.specs.declared.Refusal.TheVariants.{NoRoom, BadLayer}
use Rattle.cell.specs.Bytes.{from_bytes_of, on_cell}
use Rattle.table.specs.Records.{Row, room_for, rows_of, is_sound, held_of, with_row, without_cell, laid, refilled, keeping}
use Rattle.general.specs.Changed.{Changed, changed}
use Rattle.general.specs.Refuse.{refuse_unless}

-- ---- set: the count that the layer has now, or NoRoom 4 where it would be more than there is room for

-- these rows in the table, and how many they are; or NoRoom 4, and the table as it was
abbrev pub relaid : ℕ → List Row → List ℕ → Changed (Result ℕ Refusal)
relaid width rs table = refuse_unless (leb (length rs) (room_for width table)) (changed (Err (NoRoom room.Layer)) table) (changed (Ok (length rs)) (laid width rs table))

-- k is kept of a cell from now on
unfoldable pub set_in : ℕ → List ℕ → ℕ → List ℕ → ℕ → Changed (Result ℕ Refusal)
unfolding from_bytes_of is_sound rows_of with_row laid
set_in width table n id k =
    on_cell (λ r. changed (Err r) table)
    (λ c. refuse_unless (is_sound width table n) (changed (Err BadLayer) table)
    (relaid width (with_row (keeping c k) (rows_of width table n)) table))
    id

-- ---- remove: what was kept of the cell, if anything

-- nothing is kept of a cell from now on, and the freed last record is zero
unfoldable pub remove_in : ℕ → List ℕ → ℕ → List ℕ → Changed (Result (Option ℕ) Refusal)
unfolding from_bytes_of is_sound rows_of held_of without_cell refilled
remove_in width table n id =
    on_cell (λ r. changed (Err r) table)
    (λ c. refuse_unless (is_sound width table n) (changed (Err BadLayer) table)
    (changed (Ok (held_of c (rows_of width table n))) (refilled width n (without_cell c (rows_of width table n)) table)))
    id

-- ---- clear: nothing is tested, and the layer has no cells

-- zeros in all whole records within the limit; other bytes stay
unfoldable pub clear_in : ℕ → List ℕ → List ℕ
unfolding refilled
clear_in width table = refilled width (room_for width table) [] table

-- ---- the count that a call leaves: where it refuses, the one that was given

-- after a set: the count that it says
abbrev pub count_by : Result ℕ Refusal → ℕ → ℕ
count_by (Ok m) n = m
count_by (Err r) n = n

-- after a remove: one less where the cell was kept
abbrev pub left_by : Result (Option ℕ) Refusal → ℕ → ℕ
left_by (Ok (Some k)) n = n - 1
left_by (Ok None) n = n
left_by (Err r) n = n

-- ---- the listing: the records' bytes at the front of what is lent for them, and how many cells they are

-- the first n records at the front of a buffer that holds them, else NoRoom 3
abbrev pub listed : ℕ → List ℕ → ℕ → List ℕ → Changed (Result ℕ Refusal)
listed width table n out = refuse_unless (leb (width * n) (length out)) (changed (Err (NoRoom room.Output)) out) (changed (Ok n) (take (width * n) table ++ drop (width * n) out))

-- the same of a sound layer, else BadLayer
unfoldable pub list_in : ℕ → List ℕ → ℕ → List ℕ → Changed (Result ℕ Refusal)
unfolding is_sound
list_in width table n out = refuse_unless (is_sound width table n) (changed (Err BadLayer) out) (listed width table n out)

-- ---- whether a layer has no cells

-- whether the count of a sound layer is 0; else BadLayer
unfoldable pub empty_in : ℕ → List ℕ → ℕ → Result Bool Refusal
unfolding is_sound
empty_in width table n = refuse_unless (is_sound width table n) (Err BadLayer) (Ok (eqb n 0))
