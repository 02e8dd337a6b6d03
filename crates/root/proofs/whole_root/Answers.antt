-- n moved up by an even number of digits, its root at 54 digits, rounded to 53 and moved back: `Answer`.
use Rattle.std.proofs.Common.{◌∙◌, arith}
use Rattle.root.proofs.Answer.{s-le, m-least, least, most, answer}
use Rattle.root.proofs.whole_root.Goals as goal

pub fine_root-q-requires : goal.fine_root-q-requires
fine_root-q-requires c = m-least c.args.n c.requires (omega arith)

pub joined-requires : goal.joined-requires
joined-requires c =
    let l = least c.args.n c.requires (omega arith) c.fine_root-q.result c.fine_root-q.ensures in
    let h = most c.args.n c.requires (omega arith) c.fine_root-q.result c.fine_root-q.ensures in
    (omega arith, omega arith, s-le c.args.n c.requires (omega arith))

pub returns : goal.returns
returns c =
    c.joined.ensures
    ∙ answer c.args.n c.requires (omega arith) c.fine_root-q.result c.fine_root-q.ensures
