-- What the laws of ancestors say of a finer target, of a refused parent, of the parent and of the cell itself.
use Rattle.std.proofs.Common.{◌≡◌, Ok, sym, ◌∙◌, arith}
use Rattle.std.proofs.lemmas.Result.{err_from_is_err_and}
use Rattle.cell.specs.Cell.{parent_of}
use Rattle.cell.proofs.Ancestors.{parent-resolution, ancestor-finer, ancestor-own, ancestor-refused, ancestor-parent}
use Rattle.cell.proofs.ancestor.Goals as goal

pub returns-then-resolution-target : goal.returns-then-resolution-target
returns-then-resolution-target c = sym (ancestor-finer c.args.c c.args.target (omega arith))

pub returns-in_err-up : goal.returns-in_err-up
returns-in_err-up c =
    let p = err_from_is_err_and c.from_residual.result c.from_residual.ensures.1 in
    rw (p.1, p.2)
    (sym (ancestor-refused c.loop-up.up c.args.target (omega arith) c.in_err-up.field-0.0 (sym c.parent.ensures ∙ c.in_err-up.was)) ∙ c.loop-up.invariant.same)

pub loop-up-smaller : goal.loop-up-smaller
loop-up-smaller c = let l = parent-resolution c.loop-up.up c.in_ok-up.up (sym c.parent.ensures ∙ c.in_ok-up.was) in omega arith

pub loop-up-preserved : goal.loop-up-preserved
loop-up-preserved c =
    let known : parent_of c.loop-up.up ≡ Ok c.in_ok-up.up = sym c.parent.ensures ∙ c.in_ok-up.was in
    let l = parent-resolution c.loop-up.up c.in_ok-up.up known in
    record {
      coarser = omega arith;
      same = sym (ancestor-parent c.loop-up.up c.in_ok-up.up c.args.target (omega arith) known) ∙ c.loop-up.invariant.same;
    }

pub returns : goal.returns
returns c = sym (ancestor-own c.loop-up.up c.args.target (omega arith)) ∙ c.loop-up.invariant.same
