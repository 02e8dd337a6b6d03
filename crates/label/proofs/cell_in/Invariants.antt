-- The invariant: the cell has the bits of the first i values.
use Rattle.label.proofs.Values.{Gathered}
use Rattle.label.proofs.cell_in.Given as goal

abbrev pub invariant-loop-character : goal.invariant-loop-character
invariant-loop-character l = Gathered l.text l.c l.character-index
