-- The record that was found is one of the known cells.
use Rattle.known.proofs.Seek.{found_below}
use Rattle.expansion.proofs.relax.Goals as goal

pub try_known-requires : goal.try_known-requires
try_known-requires c =
    let args = c.args in
    let below = found_below args.workspace.now args.plan.known args.sizes.known args.n _ _ c.look.ensures c.in-Some.is in
    let pre = c.requires in
    record { fits = pre.fits; sound = pre.sound; cost = c.plus-t.ensures.cost_3; row = pre.row; target = below }
