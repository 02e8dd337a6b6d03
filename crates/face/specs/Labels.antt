-- Cell labels for C: writing and reading are the definitions of `label`, told. Definitions only.
use Rattle.refusal.specs.declared.Cell.{Cell}
use Rattle.refusal.specs.declared.Refusal.{Refusal}
use Rattle.std.specs.Prelude.{List, ℕ, Result, Ok, Err}
use Rattle.refusal.specs.Refusals.{place_of}
use Rattle.cell.specs.Bytes.{from_bytes_of, on_cell}
use Rattle.label.specs.Label.{label_of, read_of}
use Rattle.face.specs.declared.PlaceTold.{PlaceTold}
use Rattle.face.specs.Told.{Filled, fill}
use Rattle.face.specs.Cells.{unfilled, fill_cell}

-- a cell's label, into a buffer
unfoldable pub label_told : List ℕ → List ℕ → Filled ℕ
unfolding from_bytes_of label_of
label_told cell out = on_cell (unfilled out) (λ c. fill (label_of c) out) cell

-- where a label is mistyped; 0 where it is not
abbrev pub place_in : Result Cell Refusal → ℕ
place_in (Err r) = place_of r
place_in (Ok c) = 0

-- what C is told, and what stands in the buffer when the call returns
pub record PlaceFilled : Type 0 where
  pub told : PlaceTold
  pub out : List ℕ

-- this told, with this in the buffer
abbrev pub place_filled : PlaceTold → List ℕ → PlaceFilled
place_filled t l = record { told = t; out = l }

-- the same told with a place beside it
abbrev pub at_place : ℕ → Filled ℕ → PlaceFilled
at_place place f = place_filled (record { refusal = f.told; place = place }) f.out

-- the cell of a label, into a buffer, and where the label is mistyped
unfoldable pub cell_told : List ℕ → List ℕ → PlaceFilled
unfolding read_of
cell_told label out = let a = read_of label in at_place (place_in a) (fill_cell out a)
