-- The way ends here, is broken, or goes on.
use mathlib.Core.Path.{sym, ◌∙◌}
use Rattle.std.proofs.Common.{arith}
use Rattle.astar.proofs.WayLaws.{counting_out, counting_ends, counting_broken, counting_next}
use Rattle.astar.proofs.way.cells_to.Goals as goal

pub returns-then-same : goal.returns-then-same
returns-then-same c = counting_ends c.loop-passed.invariant _ c.cell_at.ensures (sym c.same.ensures ∙ c.if-same.true)

pub returns-then-before-sizes : goal.returns-then-before-sizes
returns-then-before-sizes c =
    counting_broken c.loop-passed.invariant _ c.cell_at.ensures c.loop-passed-test.true (sym c.same.ensures ∙ c.if-same.false) _ c.before_at-before.ensures (omega arith)

pub loop-passed-preserved : goal.loop-passed-preserved
loop-passed-preserved c =
    counting_next c.loop-passed.invariant _ c.cell_at.ensures c.loop-passed-test.true (sym c.same.ensures ∙ c.if-same.false) _ c.before_at-before.ensures (omega arith)

pub returns : goal.returns
returns c = counting_out c.loop-passed.invariant (omega arith)
