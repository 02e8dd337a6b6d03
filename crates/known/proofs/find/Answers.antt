-- What is left to seek leads to the same answer, and the bound falls with each link.
use Rattle.std.proofs.Common.{◌≡◌, suc, ◌-◌, sym, ap, ◌∙◌, arith}
use Rattle.refusal.specs.declared.Cell.{Cell}
use Rattle.cell.specs.Cell.{same_cell}
use Rattle.known.specs.Inner.Known.{bucket_of, head_in}
use Rattle.known.specs.Inner.Seek.{seek_in, find_in}
use Rattle.known.proofs.Seek.{seek-none, seek_found, seek-next}
use Rattle.known.proofs.find.Goals as goal

pub loop-bound-init : goal.loop-bound-init
unfolding find_in
loop-bound-init c =
    let args = c.args in
    let head : head_in args.workspace.now (bucket_of args.c args.room) ≡ c.read32_little-link.result = ap (head_in args.workspace.now) (sym c.bucket.ensures.0) ∙ sym c.read32_little-link.ensures.0 in
    (omega arith, (suc args.count, omega arith, ap (seek_in (suc args.count) args.workspace.now args.room args.c args.count) head))

pub returns-then-i-bound : goal.returns-then-i-bound
returns-then-i-bound c =
    let args = c.args in
    let here = c.loop-bound in
    let left = here.invariant.1 in
    sym (left.2 ∙ seek-none args.workspace.now args.room args.c here.bound here.link left.0 (λ some under. omega (arith, c.if-i-bound.true)))

pub returns-then-same : goal.returns-then-same
returns-then-same c =
    let args = c.args in
    let here = c.loop-bound in
    let left = here.invariant.1 in
    let same = ap (λ (d : Cell). same_cell d args.c) (sym c.cell_at.ensures) ∙ sym c.same.ensures ∙ c.if-same.true in
    sym (left.2 ∙ seek_found args.workspace.now args.room args.c here.bound here.link left.0 _ left.1 (omega arith) c.if-i-bound.false same)

pub loop-bound-preserved : goal.loop-bound-preserved
loop-bound-preserved c =
    let args = c.args in
    let here = c.loop-bound in
    let left = here.invariant.1 in
    let other = ap (λ (d : Cell). same_cell d args.c) (sym c.cell_at.ensures) ∙ sym c.same.ensures ∙ c.if-same.false in (
      omega (arith, here.invariant.0),
      (
        left.0 - 1,
        omega (arith, left.1),
        left.2 ∙ seek-next args.workspace.now args.room args.c here.bound here.link left.0 _ left.1 (omega arith) c.if-i-bound.false other
            ∙ ap (seek_in (left.0 - 1) args.workspace.now args.room args.c _) (sym c.read32_little-link-in-loop-bound.ensures.0),
      ),
    )
