-- Cell by cell: what is written is the front of the span.
use mathlib.Core.Path.{◌≡◌}
use Rattle.known.specs.Inner.Known.{cells_in}
use Rattle.cell_list.specs.Listing.{cells_laid}
use Rattle.ring.proofs.write.Given as goal

abbrev pub invariant-loop-i : goal.invariant-loop-i
invariant-loop-i l = l.output ≡ cells_laid (cells_in l.workspace l.room l.from l.i) l.fn.output
