-- The words are compared in turn, until two differ.
use borrow.Author.Rules.{rules}
use Rattle.waiting.proofs.Decides.{high-decides, low-decides, g-decides}
use Rattle.waiting.proofs.less_tied.Goals as goal

pub returns-then-a-b-2 : goal.returns-then-a-b-2
returns-then-a-b-2 c =
    g-decides c.args.a c.args.b (search rules) (search rules) c.requires c.if-a-b.true c.if-a-b-2.true

pub returns-then-a-b : goal.returns-then-a-b
returns-then-a-b c =
    low-decides c.args.a c.args.b (search rules) (search rules) c.requires c.if-a-b.true c.if-a-b-2.false

pub returns : goal.returns
returns c =
    high-decides c.args.a c.args.b (search rules) (search rules) c.requires c.if-a-b.false
