-- Where a cell stands among the records of a table: "strictly ascending by id", in records of 20 or 24 bytes. For contracts inside. Definitions only.
use Rattle.std.specs.Prelude.{◌≡◌, true, List, ℕ, ◌+◌, ◌*◌, ◌%◌, ◌≤◌, ◌<◌, length, Result, Ok, Err}
use Rattle.refusal.specs.declared.Cell.{Cell}
use Rattle.cell.specs.Cell.{same_cell, less_cell}
use Rattle.table.specs.Records.{row_at, room_for, flag_width, value_width}

-- a record's width: a flag record's or a value record's
pub record Wide (width : ℕ) : Type 0 where
  pub least : flag_width ≤ width
  pub most : width ≤ value_width
  pub by-fours : width % 4 ≡ 0

-- record i is one of the first n of a table that is long enough for these
pub record HasRecord (width : ℕ) (table : List ℕ) (n i : ℕ) : Type 0 where
  pub wide : Wide width
  pub within : i < n
  pub size : width * n ≤ length table

-- a table with room for the first n records of another
pub record Replaceable (width : ℕ) (table other : List ℕ) (n : ℕ) : Type 0 where
  pub wide : Wide width
  pub room : n ≤ room_for width table
  pub size : width * n ≤ length other

-- record i of the n is the cell's
pub record IsAt (width : ℕ) (table : List ℕ) (n : ℕ) (c : Cell) (i : ℕ) : Type 0 where
  pub within : i < n
  pub same : same_cell (row_at width table i).cell c ≡ true

-- no record is the cell's: those before i are below it, and the others of the n are above it
pub record GoesBefore (width : ℕ) (table : List ℕ) (n : ℕ) (c : Cell) (i : ℕ) : Type 0 where
  pub within : i ≤ n
  pub below : (k : ℕ) → k < i → less_cell (row_at width table k).cell c ≡ true
  pub above : (k : ℕ) → i ≤ k → k < n → less_cell c (row_at width table k).cell ≡ true

-- a cell's place among the first n records
unfoldable pub Stands : ℕ → List ℕ → ℕ → Cell → Result ℕ ℕ → Type 0
Stands width table n c (Ok i) = IsAt width table n c i
Stands width table n c (Err i) = GoesBefore width table n c i
