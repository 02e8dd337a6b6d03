-- The characters before place i are like the beginning's.
use Rattle.std.proofs.Common.{Some, inl, inr, sym, ap, ◌∙◌, zero-add, arith, rules}
use borrow.Author.Tests.{ne_eqb}
use Rattle.label.specs.Label.{beginning}
use Rattle.label.proofs.Unlike.{NotLike, unlike-at, unlike-none}
use Rattle.label.proofs.unlike_beginning.Goals as goal
use Rattle.label.proofs.unlike_beginning.Goals.{then-i-text-via-then-i-text, then-i-text-via-else-i-text+then-lowered-expected}

pub returns-then-i-text : goal.returns-then-i-text
returns-then-i-text c =
    let s = c.args.text.now in
    let i = c.loop-i.i in
    let here : NotLike beginning s i =
    elim c.then-i-text.branch [
      | then-i-text-via-then-i-text w ↦ inl w.if-i-text.true
      | then-i-text-via-else-i-text+then-lowered-expected w ↦ inr (rw (← w.lowered.ensures) (ne_eqb _ _ w.if-lowered-expected.true))
    ] in
    ap Some (sym (zero-add i)) ∙ sym (unlike-at 0 beginning s i (omega arith) here c.loop-i.invariant)

pub returns : goal.returns
returns c = sym (unlike-none 0 beginning c.args.text.now (search rules))
