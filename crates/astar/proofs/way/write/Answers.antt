-- A cell more is written, and at last the first.
use Rattle.astar.proofs.WayLaws.{writing_start, writing_next, writing_last, writing_some}
use Rattle.std.proofs.Common.{arith}
use Rattle.astar.proofs.way.write.Goals as goal

pub loop-place-init : goal.loop-place-init
loop-place-init c =
    let args = c.args in
    writing_start args.plan args.workspace.now args.sizes args.i args.cells c.requires.long args.output.now c.requires.below c.requires.room

pub loop-place-preserved : goal.loop-place-preserved
loop-place-preserved c =
    writing_next c.loop-place.invariant _ c.cell_at.ensures _ c.put.ensures c.loop-place-test.true _ c.before_at-at.ensures

pub put-requires-2 : goal.put-requires-2
put-requires-2 c = omega (arith, writing_some c.loop-place.invariant)

pub returns : goal.returns
returns c =
    writing_last c.loop-place.invariant _ c.cell_at-2.ensures _ c.put-2.ensures c.loop-place-test.false
