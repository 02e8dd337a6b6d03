-- The invariant: the cells before record i were listed and expanded.
use native.Mathlib.Omega.{arith}
use Rattle.std.proofs.lemmas.Grind.{common_steps}
use Rattle.std.proofs.lemmas.Result.{err_from_is_err_and}
use Rattle.ring.proofs.Leveled.{no-output-room, level-stopped, level-more, level_all}
use Rattle.ring.proofs.level.Goals as goal

pub returns-then-i-rooms-clause-fact : goal.returns-then-i-rooms-clause-fact
returns-then-i-rooms-clause-fact c = no-output-room c.loop-i.invariant (omega arith) (cc) (omega arith)

pub returns-in_err-count-clause-fact : goal.returns-in_err-count-clause-fact
returns-in_err-count-clause-fact c =
    let p = err_from_is_err_and c.from_residual.result c.from_residual.ensures.1 in
    rw (p.1, p.2) (level-stopped c.loop-i.invariant _ (omega arith) (λ ring. grind (arith, common_steps)) (omega arith) c.cell_at-c.ensures c.in_err-count.ensures)

pub loop-i-preserved : goal.loop-i-preserved
loop-i-preserved c = level-more c.loop-i.invariant _ (omega arith) (λ ring. grind (arith, common_steps)) (omega arith) c.cell_at-c.ensures c.in_ok-count.ensures

pub returns-clause-fact : goal.returns-clause-fact
returns-clause-fact c = level_all c.loop-i.invariant (omega arith)
