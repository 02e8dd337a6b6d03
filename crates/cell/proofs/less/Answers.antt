-- Word by word, the higher first.
use Rattle.std.proofs.Common.{◌∙◌, arith}
use Rattle.refusal.specs.Refusals.{raw_of}
use Rattle.cell.proofs.Ordered.{less-words}
use Rattle.cell.proofs.less.Goals as goal

pub returns : goal.returns
unfolding raw_of
returns c = c.lt.ensures ∙ less-words c.args.a.high c.args.a.low c.args.b.high c.args.b.low (omega arith) (omega arith)
