-- The record that was found is one of the known cells.
use native.Mathlib.Omega.{arith}
use Rattle.known.proofs.Seek.{found_below}
use Rattle.expansion.proofs.is_due.Goals as goal

pub is_closed-requires-clause-i_lt_room : goal.is_closed-requires-clause-i_lt_room
is_closed-requires-clause-i_lt_room c =
    let args = c.args in
    let below = found_below args.workspace.now args.plan.known args.sizes.known _ _ _ c.look.ensures c.in-Some.is in
    omega arith
