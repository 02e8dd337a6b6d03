-- The first i of the bytes that follow `from` stand in the other table.
use lib.ListN.{drop}
use Rattle.words.proofs.Copies.{Pasted}
use Rattle.words.proofs.bytes.copy.Given as goal

abbrev pub invariant-loop-i : goal.invariant-loop-i
invariant-loop-i l = Pasted l.initial.out l.to (drop l.from l.source) l.size l.i l.out
