-- The invariant: the numbers of the first i places stand at the front.
use Rattle.face.specs.Points.{triple}
use Rattle.tishkolan.proofs.Writing.{Written}
use Rattle.tishkolan.proofs.points.put_places.Given as goal

abbrev pub invariant-loop-i : goal.invariant-loop-i
invariant-loop-i l = Written 3 triple l.places l.initial.out l.out l.i
