-- The invariant: the values from place i on are written, and the others are those of the rest.
use mathlib.Core.Path.{refl, ◌∙◌}
use Prim.Native.Nat.{◌-◌}
use native.Mathlib.Omega.{arith}
use lib.ListN.{replicate}
use Rattle.label.specs.Label.{data_width}
use Rattle.label.proofs.Data.{written_last, written-more, written_all}
use Rattle.label.proofs.data_of.Goals as goal

pub loop-i-preserved : goal.loop-i-preserved
loop-i-preserved c =
    let here = c.loop-i in
    written-more _ here.values here.rest c.thirty_second-rest.result here.i (here.i - 1) here.invariant (omega arith) c.thirty_second-rest.ensures

pub returns : goal.returns
returns c =
    let here = c.loop-i in
    written_all _ here.values here.rest here.i here.invariant (omega arith)
    ∙ written_last c.args.c c.eighth-rest.result (replicate data_width 0) refl c.eighth-rest.ensures
