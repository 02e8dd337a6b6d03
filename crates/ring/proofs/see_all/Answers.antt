-- The invariant: the first neighbours were seen.
use native.Mathlib.Omega.{arith}
use Rattle.std.proofs.lemmas.Result.{err_from_is_err_and}
use Rattle.ring.proofs.SeenAll.{seen_more, seen-stopped, seen_all}
use Rattle.ring.proofs.see_all.Goals as goal

pub returns-in_err-n : goal.returns-in_err-n
returns-in_err-n c =
    let p = err_from_is_err_and c.from_residual.result c.from_residual.ensures.1 in
    rw (p.1, p.2) (seen-stopped c.loop-c.invariant _ _ (omega arith) c.in_err-n.ensures)

pub loop-c-preserved : goal.loop-c-preserved
loop-c-preserved c = seen_more c.loop-c.invariant _ _ (omega arith) c.in_ok-n.ensures

pub returns : goal.returns
returns c = seen_all c.loop-c.invariant (omega arith)
