-- Word by word, the higher first.
use Rattle.std.proofs.Common.{◌∙◌, arith}
use Rattle.refusal.specs.Refusals.{raw_of}
use Rattle.cell.specs.Cell.{order_of}
use Rattle.cell.proofs.Ordered.{order-words}
use Rattle.cell.proofs.compare.Goals as goal

pub returns : goal.returns
unfolding raw_of order_of
returns c = c.cmp.ensures ∙ order-words c.args.a.high c.args.a.low c.args.b.high c.args.b.low (omega arith) (omega arith)
