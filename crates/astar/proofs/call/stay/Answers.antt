-- One cell fits where there is room for any.
use Rattle.std.proofs.Common.{rules}
use native.Mathlib.Omega.{arith}
use Rattle.astar.proofs.CallLaws.{stay-found}
use Rattle.astar.proofs.call.stay.Goals as goal

pub returns : goal.returns
returns c = stay-found c.args.c c.args.output.now _ (search rules) (omega arith) c.put.ensures
