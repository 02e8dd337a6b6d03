-- The invariant: the bytes of the first i cells stand at the front.
use Rattle.cell.specs.Bytes.{cell_bytes}
use Rattle.tishkolan.proofs.Writing.{Written}
use Rattle.tishkolan.proofs.cells.put_cells.Given as goal

abbrev pub invariant-loop-i : goal.invariant-loop-i
invariant-loop-i l = Written 16 cell_bytes l.cells l.initial.out l.out l.i
