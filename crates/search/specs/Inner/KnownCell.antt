-- A waiting entry whose cell is known, for contracts inside. Definitions only.
use Rattle.std.specs.Prelude.{◌≡◌, true, List}
use Rattle.search.specs.Search.{KnownRow, Entry, find, is_known}

-- the cell of the entry is one of the known ones
abbrev pub KnownCell : List KnownRow → Entry → Type 0
KnownCell k e = is_known (find e.cell k) ≡ true
