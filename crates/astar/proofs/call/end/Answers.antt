-- The record that was found is one of the known cells.
use Rattle.known.proofs.Seek.{found_below}
use Rattle.astar.proofs.call.end.Goals as goal

pub answer-requires-clause-i_lt_known : goal.answer-requires-clause-i_lt_known
answer-requires-clause-i_lt_known c = let z = c.in-Arrived.sizes in found_below c.args.workspace.now c.args.plan.known z.known c.args.plan.goal _ _ c.look.ensures c.in-Some.is
