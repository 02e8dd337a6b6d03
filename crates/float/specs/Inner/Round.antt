-- The whole number nearest to a float's size, which `whole_size` works out: for its contract inside. Definitions only.
use Rattle.std.specs.Prelude.{ℕ, Float}
use Rattle.std.specs.Float.{nan, inf, fin}
use Rattle.float.specs.Round.{whole_of}

-- The whole number nearest to a number's size, and 0 for what is no number or infinite.
unfoldable pub whole_size : Float → ℕ
whole_size nan = 0
whole_size (inf s) = 0
whole_size (fin s m e) = whole_of m e
