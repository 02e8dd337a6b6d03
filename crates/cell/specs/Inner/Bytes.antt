-- A cell's bytes stored in a list, for the contracts of the writers inside. Definitions only.
use Rattle.std.specs.Prelude.{List, ℕ, ◌+◌}
use Rattle.refusal.specs.declared.Cell.{Cell}
use Rattle.words.specs.Word.{big, stored}

-- the list after a cell's bytes are stored at p
unfoldable pub cell_stored : List ℕ → ℕ → Cell → List ℕ
cell_stored l p c = stored big 8 (stored big 8 l p c.high) (p + 8) c.low
