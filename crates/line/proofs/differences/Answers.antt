-- Each difference fits 32 bits.
use Rattle.std.proofs.Common.{rules}
use Rattle.lattice.specs.Lattice.{Fitting}
use Rattle.line.specs.Line.{apart}
use Rattle.line.proofs.Laws.{short-fits}
use Rattle.line.proofs.differences.Goals as goal

pub returns : goal.returns
returns c =
    let fitting : Fitting (apart c.args.from c.args.to) = short-fits c.args.from c.args.to c.requires in
    search rules
