-- A neighbour is refused, or one more was looked at.
use Rattle.std.proofs.Common.{arith}
use Rattle.expansion.proofs.BytesLoops.{around_out, around_next}
use Rattle.std.proofs.lemmas.Result.{err_from_is_err_and}
use Rattle.expansion.proofs.relax_all.Goals as goal

pub returns-in_err-size : goal.returns-in_err-size
returns-in_err-size c =
    let p = err_from_is_err_and c.from_residual.result c.from_residual.ensures.1 in
    rw (p.1, p.2) (around_out c.loop-n.invariant (record { high = 0; low = 0 }) (omega arith) _ _ _ c.in_err-size.ensures)

pub loop-n-preserved : goal.loop-n-preserved
loop-n-preserved c = around_next c.loop-n.invariant (record { high = 0; low = 0 }) (omega arith) _ _ _ c.in_ok-size.ensures
