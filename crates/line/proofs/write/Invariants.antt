-- The cells that are laid and those still to come are the whole list, from sample to sample.
use Rattle.cell_list.proofs.Writing.{Written}
use Rattle.line.specs.Line.{cells_along}
use Rattle.line.proofs.Laws.{cells_from}
use Rattle.line.proofs.write.Given as goal

abbrev pub invariant-loop-i : goal.invariant-loop-i
invariant-loop-i l = Written (cells_along l.line) l.fn.output l.output (cells_from l.line l.last l.i) l.count
