-- By what the load says.
use mathlib.Core.Path.{ap, ◌∙◌}
use mathlib.Core.List.{List}
use Prim.Native.Nat.{ℕ}
use native.Mathlib.Omega.{arith}
use Rattle.survey.specs.Survey.{written}
use Rattle.survey.proofs.FullRoom.{zeros, length-zeros}
use Rattle.rewrite_bytes.proofs.Rewritten.{refused-line, loaded-file}
use Rattle.rewrite_bytes.proofs.rewrite.Goals as goal

pub returns-in-Err : goal.returns-in-Err
returns-in-Err c =
    let args = c.args in
    c.write_refused.ensures
    ∙ ap (λ (text : List ℕ). written text args.out.now)
    (refused-line args.file.now (zeros 20480) (zeros 24576) (length-zeros 20480) (length-zeros 24576) c.load.ensures c.in-Err.why c.in-Err.is)

pub returns-in-Ok : goal.returns-in-Ok
returns-in-Ok c =
    let args = c.args in
    c.write.ensures
    ∙ loaded-file args.file.now (zeros 20480) (zeros 24576) (length-zeros 20480) (length-zeros 24576) c.load.ensures (λ i. omega (arith, c.type_inv.file i)) c.in-Ok.counts c.in-Ok.is args.out.now
