-- What theorems say of a table: that it is a sound layer with certain rows, that a record can hold a row, and which row is the first that does not ascend. Definitions only.
use Rattle.std.specs.Prelude.{true, false, List, [], ◌∷◌, ◌++◌, ◌≡◌, ℕ, suc, ◌-◌, ◌^◌, ◌<◌, length}
use Rattle.words.specs.Word.{Bytes}
use Rattle.cell.specs.Cell.{less_cell}
use Rattle.cell.specs.Terms.{Words}
use Rattle.table.specs.Records.{Row, rows_of, ascending, is_sound}
use Rattle.cell.specs.Bytes.{cell_width}

-- a table of bytes that is a sound layer of n cells, with these rows
pub record Holds (w : ℕ) (l : List ℕ) (n : ℕ) (rs : List Row) : Type 0 where
  pub bytes : Bytes l
  pub sound : is_sound w l n ≡ true
  pub rows : rows_of w l n ≡ rs

-- a row that a record of w bytes can hold
pub record Storable (w : ℕ) (r : Row) : Type 0 where
  pub words : Words r.cell
  pub small : r.kept < 256 ^ (w - cell_width)

-- rows that a record of w bytes can hold, each of them
pub data AllStorable (w : ℕ) : List Row → Type 0 where
  no_rows : AllStorable w []
  one_more : {r : Row} {rs : List Row} → Storable w r → AllStorable w rs → AllStorable w (r ∷ rs)

-- the row at index i is the first that is not above the one before it
pub record FallsAt (rs : List Row) (i : ℕ) : Type 0 where
  pub front : List Row
  pub last : Row
  pub next : Row
  pub rest : List Row
  pub rows : rs ≡ front ++ (last ∷ (next ∷ rest))
  pub index : i ≡ suc (length front)
  pub rise : ascending (front ++ (last ∷ [])) ≡ true
  pub falls : less_cell last.cell next.cell ≡ false
