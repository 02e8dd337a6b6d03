-- Neighbours that are refused, one of them refused, or all fourteen.
use mathlib.Core.Path.{sym, ap, ◌∙◌}
use native.Mathlib.Omega.{arith}
use Rattle.std.proofs.lemmas.Result.{err_from_is_err_and}
use Rattle.table.specs.Records.{rows_of}
use Rattle.expansion.specs.Inner.Bytes.{going_in}
use Rattle.expansion.proofs.BytesLaws.{entered_by}
use Rattle.expansion.proofs.enter.Goals as goal

pub returns-in_err-cells : goal.returns-in_err-cells
returns-in_err-cells c =
    let args = c.args in
    let p = err_from_is_err_and c.from_residual.result c.from_residual.ensures.1 in
    rw (p.1, p.2)
    (sym (entered_by args.plan (rows_of 20 args.flags.now args.count) args.workspace.now args.heap.now args.sizes args.at args.g (omega arith) _ c.cell_at-c.ensures (sym c.same.ensures ∙ c.if-same.false) _ c.in_err-cells.ensures))

pub returns-in_err-reached : goal.returns-in_err-reached
returns-in_err-reached c =
    let args = c.args in
    let p = err_from_is_err_and c.from_residual-in_err-reached.result c.from_residual-in_err-reached.ensures.1 in
    rw (p.1, p.2)
    (ap going_in c.in_err-reached.ensures
    ∙ sym (entered_by args.plan (rows_of 20 args.flags.now args.count) args.workspace.now args.heap.now args.sizes args.at args.g (omega arith) _ c.cell_at-c.ensures (sym c.same.ensures ∙ c.if-same.false) _ c.in_ok-cells.ensures))

pub returns : goal.returns
returns c =
    let args = c.args in
    ap going_in c.in_ok-reached.ensures
    ∙ sym (entered_by args.plan (rows_of 20 args.flags.now args.count) args.workspace.now args.heap.now args.sizes args.at args.g (omega arith) _ c.cell_at-c.ensures (sym c.same.ensures ∙ c.if-same.false) _ c.in_ok-cells.ensures)
