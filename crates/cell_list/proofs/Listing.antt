-- Cells' bytes from an index of a buffer on.
use mathlib.Core.List.{List, ◌++◌, flat_map}
use Prim.Native.Nat.{ℕ, ◌+◌, ◌*◌}
use lib.ListN.{length, take, drop}
use Rattle.refusal.specs.declared.Cell.{Cell}
use Rattle.cell.specs.Bytes.{cell_bytes}

-- the cells' bytes from index n of a buffer on
unfoldable pub laid_from : ℕ → List Cell → List ℕ → List ℕ
unfolding cell_bytes
laid_from n cs l = take (16 * n) l ++ (flat_map cell_bytes cs ++ drop (16 * (n + length cs)) l)
