-- What is left of the room and the cells of the whole list are as many as the room, the last cell and those still to come: each sample keeps that.
use mathlib.Core.Path.{◌≡◌}
use Prim.Native.Nat.{◌+◌}
use lib.ListN.{length}
use Rattle.line.specs.Line.{cells_along}
use Rattle.line.proofs.Laws.{cells_from}
use Rattle.line.proofs.fits.Given as goal

abbrev pub invariant-loop-i : goal.invariant-loop-i
invariant-loop-i l = l.left + length (cells_along l.line) ≡ l.room + (1 + length (cells_from l.line l.last l.i))
