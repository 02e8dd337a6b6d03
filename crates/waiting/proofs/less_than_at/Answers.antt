-- Where the two f differ, they decide.
use mathlib.Core.Path.{sym, ap, ◌∙◌}
use borrow.Author.Rules.{rules}
use native.Mathlib.Omega.{arith}
use lib.Dec.{ltb}
use Rattle.waiting.specs.declared.Entry.{Entry}
use Rattle.waiting.specs.Inner.Entries.{entry_key, key_in}
use Rattle.waiting.proofs.Decides.{f-decides-than}
use Rattle.waiting.proofs.less_than_at.Goals as goal

pub returns-then-e-f : goal.returns-then-e-f
unfolding key_in
returns-then-e-f c = c.less_tied.ensures ∙ ap (λ (e : Entry). ltb (entry_key c.args.e) (entry_key e)) c.entry_at.ensures

pub returns : goal.returns
returns c =
    let args = c.args in
    let read = c.read64_little-f.ensures in
    rw read
    (f-decides-than args.heap.now (λ k. omega (arith, c.type_inv.heap k)) args.e (search rules) args.i (λ q. c.if-e-f.false (q ∙ sym read)))
