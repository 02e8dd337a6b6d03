-- What theorems say of the calls that C makes: a distance that is correctly rounded, what refusal 7 tells, the fields of a cell, and a label without a mistake. Definitions only.
use Rattle.std.specs.Prelude.{List, ◌≡◌, ℕ, ◌+◌, length}
use Rattle.std.specs.Float.{binary64}
use Rattle.std.specs.Float.Ieee.{of_bits}
use Rattle.refusal.specs.declared.Coord.{Coord}
use Rattle.distance.specs.Distance.{squared_distance}
use Rattle.distance.specs.Nearest.{NearestRoot}
use Rattle.cell.specs.Cell.{coord_of}
use Rattle.cell.specs.Bytes.{cell_at, cell_width}
use Rattle.face.specs.declared.SearchTold.{SearchTold}
use Rattle.face.specs.declared.FieldsTold.{FieldsTold}
use Rattle.face.specs.declared.PlaceTold.{PlaceTold}
use Rattle.face.specs.Told.{answered}

-- the number that bits stand for is the distance of two places, correctly rounded
abbrev pub Nearest : Coord → Coord → ℕ → Type 0
Nearest a b bits = NearestRoot (squared_distance a b) (of_bits binary64 bits)

-- two lists of 16 bytes, and these bits stand for the distance of the places of their cells, correctly rounded
pub record CellsNearest (first second : List ℕ) (bits : ℕ) : Type 0 where
  pub first_cell : length first ≡ cell_width
  pub second-cell : length second ≡ cell_width
  pub nearest : Nearest (coord_of (cell_at first 0)) (coord_of (cell_at second 0)) bits

-- what refusal 7 tells of a search: the limit, and one expansion more
pub record LimitTold (limit : ℕ) (t : SearchTold) : Type 0 where
  pub expansions-told : t.expansions ≡ limit + 1
  pub limit-told : t.limit ≡ limit

-- what C is told of these fields, with nothing reserved
abbrev pub fields_given : ℕ → ℕ → Coord → ℕ → ℕ → FieldsTold
fields_given frame resolution c exponent flags =
    record { refusal = answered; frame = frame; resolution = resolution; exponent = exponent; flags = flags; reserved = 0; x = c.x; y = c.y; z = c.z }

-- what C is told where a label has no mistake
abbrev pub no_mistake : PlaceTold
no_mistake = record { refusal = answered; place = 0 }
