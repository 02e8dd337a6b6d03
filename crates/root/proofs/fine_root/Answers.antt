-- The quotient of the remainder by twice the root is within one of the next 22 digits (`Fine`), and bounds every number on the way.
use Rattle.std.proofs.Common.{arith}
use Rattle.root.proofs.Steps.{fine, fine-down}
use Rattle.root.proofs.fine_root.Goals as goal

pub returns-then-t-u : goal.returns-then-t-u
returns-then-t-u c =
    let f = fine c.args.m c.floor_root-p.result c.requires (omega arith) c.floor_root-p.ensures in
    fine-down f c.if-t-u.true
