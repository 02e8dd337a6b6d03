-- What is shown in this crate beside the contracts of src/: the theorems that docs/PROMISES.md names, in words of specs/. The law behind each is the one that its proof names.
use Rattle.std.specs.Prelude.{Some, None}
use mathlib.Core.Path.{◌≡◌}
use mathlib.Core.List.{List}
use mathlib.Core.Bool.{cond, true, false}
use Prim.Native.Nat.{ℕ, ◌%◌, ◌≤◌, ◌*◌}
use lib.Dec.{eqb}
use lib.ListN.{length}
use Rattle.refusal.specs.declared.Cell.{Cell}
use Rattle.words.specs.Word.{Bytes}
use Rattle.cell.specs.Cell.{same_cell}
use Rattle.table.specs.Flags.{with_flag, is_blocked}
use Rattle.table.specs.Records.{Row, rows_of, laid, held_of, with_row, without_cell, ascending, first_fall, room_for, refilled}
use Rattle.table.specs.Terms.{AllStorable, Holds, FallsAt}
use Rattle.table.proofs as laws
use Rattle.cell.specs.Bytes.{cell_width}

-- To set a flag without bit 0 changes nothing about whether a cell is blocked.
pub only-bit-0-blocks : (bits flag : ℕ) → flag % 2 ≡ 0 → is_blocked (with_flag bits flag) ≡ is_blocked bits
only-bit-0-blocks = laws.FlagsLaws.only-bit-0-blocks

-- Rows that a record can hold, once laid into a table, are read from it.
pub rows-laid : (w : ℕ) (rs : List Row) (l : List ℕ) → cell_width ≤ w → AllStorable w rs → rows_of w (laid w rs l) (length rs) ≡ rs
rows-laid = laws.Bytes.rows-laid

-- To lay the rows that were read from a table into it changes no byte.
pub laid-rows : (w : ℕ) (l : List ℕ) (n : ℕ) → cell_width ≤ w → w * n ≤ length l → Bytes l → laid w (rows_of w l n) l ≡ l
laid-rows = laws.Bytes.laid-rows

-- After a set, the records keep of that cell what was set, and of any other what they kept before.
pub held_with : (c : Cell) (s : Row) (rs : List Row) → held_of c (with_row s rs) ≡ cond (same_cell s.cell c) (Some s.kept) (held_of c rs)
held_with = laws.Map.held_with

-- After a remove from ascending records, they keep of that cell nothing, and of any other what they kept before.
pub held-without : (c d : Cell) (rs : List Row) → ascending rs ≡ true → held_of c (without_cell d rs) ≡ cond (same_cell d c) None (held_of c rs)
held-without = laws.Map.held-without

-- Rows that do not ascend have a first one that is not above the one before it, and its index is told.
pub first-falls : (rs : List Row) → ascending rs ≡ false → FallsAt rs (first_fall rs)
first-falls = laws.Laws.first-falls

-- Rows ascend exactly where the index that is told is as many as they are.
pub ascending-by-fall : (rs : List Row) → ascending rs ≡ eqb (first_fall rs) (length rs)
ascending-by-fall = laws.Laws.ascending-by-fall

-- Ascending rows laid into the first n records of a table, and zeros in those of the n that are left, make a sound layer with these rows.
pub refilled-holds :
    (w : ℕ) (l : List ℕ) (least : cell_width ≤ w) (bytes : Bytes l) (rs : List Row) (n : ℕ) → AllStorable w rs → ascending rs ≡ true → length rs ≤ n
    → n ≤ room_for w l → Holds w (refilled w n rs l) (length rs) rs
refilled-holds = laws.Holding.refilled-holds
