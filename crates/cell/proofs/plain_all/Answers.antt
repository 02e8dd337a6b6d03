use Rattle.std.proofs.Common.{arith, rules, refl}
use lib.ListN.{length-replicate}
use Rattle.lattice.proofs.Origin.{origin}
use Rattle.cell.proofs.Filled.{filled_more, filled-all}
use Rattle.cell.proofs.plain_all.Goals as goal

pub loop-i-init : goal.loop-i-init
loop-i-init g c = record { within = omega arith; long-from = search rules; long-to = length-replicate _ _; done = refl }

pub loop-i-preserved : goal.loop-i-preserved
loop-i-preserved g c = filled_more c.loop-i.invariant origin c.plain.result (omega arith) c.plain.ensures

pub returns : goal.returns
returns g c = filled-all c.loop-i.invariant (omega arith)
