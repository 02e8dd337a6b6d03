-- Word by word.
use Rattle.waiting.proofs.Stored.{copied}
use Rattle.waiting.proofs.copy.Goals as goal

pub returns : goal.returns
returns c =
    let args = c.args in
    copied _ _ _ _ _ args.from args.to _ _ _ _
    c.read64_little-f.ensures c.write64_little.ensures
    c.read64_little-high.ensures c.write64_little-2.ensures
    c.read64_little-low.ensures c.write64_little-3.ensures
    c.read64_little-g.ensures c.write64_little-4.ensures
