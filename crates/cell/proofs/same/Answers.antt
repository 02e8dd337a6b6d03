-- Word by word, the higher first.
use Rattle.std.proofs.Common.{◌∙◌, arith}
use Rattle.refusal.specs.Refusals.{raw_of}
use Rattle.cell.proofs.Ordered.{same-words}
use Rattle.cell.proofs.same.Goals as goal

pub returns : goal.returns
unfolding raw_of
returns c = c.eq.ensures ∙ same-words c.args.a.high c.args.a.low c.args.b.high c.args.b.low (omega arith) (omega arith)
