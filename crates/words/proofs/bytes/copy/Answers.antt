-- The first i of the bytes that follow `from` stand in the other table.
use native.Mathlib.Omega.{arith}
use lib.ListN.{length-drop}
use lib.Seq.{get_or-drop}
use Rattle.words.proofs.Copies.{pasted-more}
use Rattle.words.proofs.bytes.copy.Goals as goal

pub loop-i-preserved : goal.loop-i-preserved
loop-i-preserved c =
    let args = c.args in
    let here = c.loop-i in
    pasted-more _ _ _ _ here.i _ here.out (omega arith) (omega (arith, length-drop args.from args.source.now)) c.loop-i-test.true (get_or-drop args.from args.source.now here.i 0) here.invariant
