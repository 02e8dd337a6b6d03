-- What is shown in this crate beside the contracts of src/: the theorems that docs/PROMISES.md names, in words of specs/. The law behind each is the one that its proof names.
use mathlib.Core.Path.{◌≡◌}
use mathlib.Core.List.{List, flat_map}
use Rattle.refusal.specs.declared.Cell.{Cell}
use Rattle.general.specs.Each.{Each}
use Rattle.cell.specs.Bytes.{cell_bytes}
use Rattle.cell.specs.Lists.{cells_of}
use Rattle.cell.specs.Terms.{Words}
use Rattle.cell_list.proofs as laws

-- The bytes of cells of 128 bits, one after the other, are read as the list of these cells.
pub cells-back : (cs : List Cell) → Each Words cs → cells_of (flat_map cell_bytes cs) ≡ cs
cells-back = laws.ReadBack.cells-back
