-- The invariant: what is left of the steps, from the cells at hand, is what all of them are from the centre.
use native.Mathlib.Omega.{arith}
use Rattle.std.proofs.lemmas.Result.{err_from_is_err_and}
use Rattle.ring.proofs.Stepped.{stepped-stopped, stepped-more, stepped-empty, stepped-all}
use Rattle.ring.proofs.levels.Goals as goal

pub returns-in_err-more : goal.returns-in_err-more
returns-in_err-more c =
    let p = err_from_is_err_and c.from_residual.result c.from_residual.ensures.1 in
    rw (p.1, p.2) (stepped-stopped c.loop.invariant _ (omega arith) c.in_err-more.ensures.fact)

pub loop-preserved : goal.loop-preserved
loop-preserved c = stepped-more c.loop.invariant _ (omega arith) c.in_ok-more.ensures.fact c.in_ok-more.ensures.lists

pub returns-after-loop : goal.returns-after-loop
returns-after-loop c = stepped-all c.loop.invariant (omega arith)

pub returns-then-from-to : goal.returns-then-from-to
returns-then-from-to c = stepped-empty c.loop.invariant (omega arith)
