-- The mark is the row's.
use mathlib.Core.Path.{ap}
use lib.Dec.{ltb}
use Rattle.search_rows.specs.Inner.Rows.{row_in}
use Rattle.search_rows.proofs.is_closed.Goals as goal

pub returns : goal.returns
unfolding row_in
returns c = ap (ltb 0) c.read32_little.ensures.0
