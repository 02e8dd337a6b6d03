-- Two answers that meet a contract of the waiting entries agree, and so do the bytes that they leave, whatever the bytes were.
use mathlib.Core.Path.{ap, sym, ◌∙◌}
use denote.Ref.{at_last}
use Rattle.general.specs.OneAnswer.{OneAnswer, OneExit}
use mathlib.Core.List.{List}
use Prim.Native.Nat.{ℕ}
use Rattle.waiting.proofs as here

pub entry-at-one : OneAnswer 1 here.entry_at.Kinds.ps here.entry_at.Kinds.r here.entry_at.Reads.Post
entry-at-one κs a z z' e e' p q = p ∙ sym q

pub store-exit : OneExit 1 here.store.Kinds.ps here.store.Kinds.r here.store.Reads.Post
store-exit κs a z z' last last' p q = let same = p ∙ sym q in λ i. (at_last a.0 (same i), a.1)

pub copy-exit : OneExit 1 here.copy.Kinds.ps here.copy.Kinds.r here.copy.Reads.Post
copy-exit κs a z z' last last' p q = let same = p ∙ sym q in λ i. (at_last a.0 (same i), a.1)

pub less-tied-one : OneAnswer 0 here.less_tied.Kinds.ps here.less_tied.Kinds.r here.less_tied.Reads.Post
less-tied-one κs a z z' e e' p q = p ∙ sym q

pub less-than-at-one : OneAnswer 1 here.less_than_at.Kinds.ps here.less_than_at.Kinds.r here.less_than_at.Reads.Post
less-than-at-one κs a z z' e e' p q = p ∙ sym q

pub less-at-one : OneAnswer 1 here.less_at.Kinds.ps here.less_at.Kinds.r here.less_at.Reads.Post
less-at-one κs a z z' e e' p q = p ∙ sym q

pub lesser-one : OneAnswer 1 here.lesser.Kinds.ps here.lesser.Kinds.r here.lesser.Reads.Post
lesser-one κs a z z' e e' p q = p ∙ sym q

pub least-of-four-one : OneAnswer 1 here.least_of_four.Kinds.ps here.least_of_four.Kinds.r here.least_of_four.Reads.Post
least-of-four-one κs a z z' e e' p q = p ∙ sym q

pub least-child-one : OneAnswer 1 here.least_child.Kinds.ps here.least_child.Kinds.r here.least_child.Reads.Post
least-child-one κs a z z' e e' p q = p ∙ sym q

pub dig-one : OneAnswer 1 here.dig.Kinds.ps here.dig.Kinds.r here.dig.Reads.Post
dig-one κs a z z' e e' p q = ap (λ (x : List ℕ × ℕ). x.1) (p ∙ sym q)

pub dig-exit : OneExit 1 here.dig.Kinds.ps here.dig.Kinds.r here.dig.Reads.Post
dig-exit κs a z z' last last' p q = let same = p ∙ sym q in λ i. (at_last a.0 (same i).0, a.1)

pub rise-exit : OneExit 1 here.rise.Kinds.ps here.rise.Kinds.r here.rise.Reads.Post
rise-exit κs a z z' last last' p q = let same = p ∙ sym q in λ i. (at_last a.0 (same i), a.1)

pub push-exit : OneExit 1 here.push.Kinds.ps here.push.Kinds.r here.push.Reads.Post
push-exit κs a z z' last last' p q = let same = p ∙ sym q in λ i. (at_last a.0 (same i), a.1)

pub first_one : OneAnswer 1 here.first.Kinds.ps here.first.Kinds.r here.first.Reads.Post
first_one κs a z z' e e' p q = p ∙ sym q

pub pop-one : OneAnswer 1 here.pop.Kinds.ps here.pop.Kinds.r here.pop.Reads.Post
pop-one κs a z z' e e' p q = p.0 ∙ sym q.0

pub pop-exit : OneExit 1 here.pop.Kinds.ps here.pop.Kinds.r here.pop.Reads.Post
pop-exit κs a z z' last last' p q = let same = p.1 ∙ sym q.1 in λ i. (at_last a.0 (same i), a.1)
