-- Where the two f differ, they decide.
use mathlib.Core.Path.{sym, ap₂, ◌∙◌}
use native.Mathlib.Omega.{arith}
use lib.Dec.{ltb}
use Rattle.waiting.specs.declared.Entry.{Entry}
use Rattle.waiting.specs.Inner.Entries.{entry_key, key_in}
use Rattle.waiting.proofs.Decides.{f-decides-at}
use Rattle.waiting.proofs.less_at.Goals as goal

pub returns-then-a-b : goal.returns-then-a-b
unfolding key_in
returns-then-a-b c = c.less_tied.ensures ∙ ap₂ (λ (a b : Entry). ltb (entry_key a) (entry_key b)) c.entry_at.ensures c.entry_at-then-a-b.ensures

pub returns : goal.returns
returns c =
    let args = c.args in
    let first = c.read64_little-a.ensures in
    let second = c.read64_little-b.ensures in
    rw (first, second)
    (f-decides-at args.heap.now (λ k. omega (arith, c.type_inv.heap k)) args.i args.j (λ q. c.if-a-b.false (first ∙ q ∙ sym second)))
