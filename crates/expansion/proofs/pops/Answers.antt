-- The invariant: what is left of the pops leads to the same bytes, and it is not paused. What is left to do falls.
use mathlib.Core.Path.{sym, ◌∙◌}
use Rattle.std.proofs.lemmas.Result.{err_from_is_err_and}
use Rattle.expansion.proofs.BytesLoops.{popping-start, popping-refused, popping-out, popping-fits, popping-paused, popping-falls, popping-next}
use Rattle.expansion.proofs.pops.Goals as goal

pub loop-step-init : goal.loop-step-init
loop-step-init c = popping-start c.requires.fits c.requires.goes

pub returns-in_err-step : goal.returns-in_err-step
returns-in_err-step c =
    let p = err_from_is_err_and c.from_residual.result c.from_residual.ensures.1 in
    rw (p.1, p.2) (popping-refused c.loop-step.invariant _ _ _ c.in_err-step.ensures)

pub returns-in_default : goal.returns-in_default
returns-in_default c = popping-out c.loop-step.invariant _ _ _ c.in_ok-step.ensures c.in_default.not-Going

pub is_paused-requires : goal.is_paused-requires
is_paused-requires c = popping-fits c.loop-step.invariant _ _ _ (rw c.in-Going.is at c.in_ok-step.ensures)

pub returns-then-is_paused : goal.returns-then-is_paused
returns-then-is_paused c =
    popping-paused c.loop-step.invariant _ _ _ (rw c.in-Going.is at c.in_ok-step.ensures) (sym c.is_paused.ensures ∙ c.if-is_paused.true)

pub loop-step-smaller : goal.loop-step-smaller
loop-step-smaller c = popping-falls c.loop-step.invariant _ _ _ (rw c.in-Going.is at c.in_ok-step.ensures)

pub loop-step-preserved : goal.loop-step-preserved
loop-step-preserved c =
    popping-next c.loop-step.invariant _ _ _ (rw c.in-Going.is at c.in_ok-step.ensures) (sym c.is_paused.ensures ∙ c.if-is_paused.false)
