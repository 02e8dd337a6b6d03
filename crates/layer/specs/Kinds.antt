-- The two kinds of layers, by the bytes of a record: 20 of a flag layer, 24 of a value layer. Definitions only.
use Rattle.std.specs.Prelude.{Bool, true, false, ℕ, ◌-◌, ◌<◌, ◌^◌, Option, Some, None, Result, Ok, Err}
use Rattle.refusal.specs.declared.Refusal.{Refusal}
use Rattle.cell.specs.Bytes.{cell_width}
use Rattle.table.specs.Records.{flag_width, value_width}

-- the width of the records of value layers, or of flag layers
abbrev pub width_of : Bool → ℕ
width_of true = value_width
width_of false = flag_width

-- what is said to be kept has the bits of its kind: 32 in a flag layer, 64 in a value layer
abbrev pub FitsKind : Bool → Result (Option ℕ) Refusal → Type 0
FitsKind kind (Ok (Some k)) = k < 256 ^ (width_of kind - cell_width)
FitsKind kind (Ok None) = Unit {0}
FitsKind kind (Err r) = Unit {0}
