-- A line has at most a cell for each sample, and its ends.
use native.Mathlib.Omega.{arith}
use Rattle.std.proofs.lemmas.Grind.{common_steps}
use Rattle.line.proofs.Laws.{length-along}
use Rattle.line.proofs.has_room.Goals as goal

pub returns-then-line-room : goal.returns-then-line-room
returns-then-line-room c = grind (arith, common_steps, length-along c.args.line)
