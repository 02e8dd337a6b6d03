-- How many bytes a waiting entry has. Definitions only.
use Rattle.std.specs.Prelude.{ℕ}

-- the bytes of an entry: f, the cell's two words, g
abbrev pub entry_width : ℕ
entry_width = 32
