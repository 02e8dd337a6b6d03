-- Two answers that meet a contract of the search between pops agree, and so do the bytes that they leave in both buffers, whatever the bytes were.
use Rattle.expansion.specs.declared.Step.{Step}
use Rattle.std.specs.Prelude.{Result, Ok, Err}
use Rattle.refusal.specs.declared.Refusal.{Refusal}
use mathlib.Core.Path.{◌≡◌, ap, sym, ◌∙◌}
use denote.Ref.{at_last}
use Rattle.general.specs.OneAnswer.{OneAnswer, OneExit}
use Prim.Native.Nat.{ℕ}
use native.Mathlib.Omega.{arith}
use Rattle.expansion.specs.Estimate.{told_ahead}
use Rattle.expansion.specs.declared.Sizes.{Sizes}
use Rattle.expansion.specs.Inner.Bytes.{After}
use Rattle.expansion.proofs as here

pub plus_one : OneAnswer 0 here.plus.Kinds.ps here.plus.Kinds.r here.plus.Reads.Post
plus_one κs a z z' e e' p q = p.0 ∙ sym q.0

pub cost-one : OneAnswer 0 here.cost.Kinds.ps here.cost.Kinds.r here.cost.Reads.Post
cost-one κs a z z' e e' p q = p.0 ∙ sym q.0

-- what is told of an estimate is the whole of it
told-one : (r r' : Result ℕ Refusal) → told_ahead r ≡ told_ahead r' → r ≡ r'
told-one (Ok x) (Ok y) e = let same : x ≡ y = cc in ap Ok same
told-one (Ok x) (Err s) e = absurd (let c : ◌≡◌ {A = ℕ} 0 1 = cc in omega arith)
told-one (Err r) (Ok y) e = absurd (let c : ◌≡◌ {A = ℕ} 0 1 = cc in omega arith)
told-one (Err r) (Err s) e = let same : r ≡ s = cc in ap Err same

pub ahead-one : OneAnswer 0 here.ahead.Kinds.ps here.ahead.Kinds.r here.ahead.Reads.Post
ahead-one κs a z z' e e' p q = told-one z z' (p.0 ∙ sym q.0)

pub push-known-one : OneAnswer 2 here.push_known.Kinds.ps here.push_known.Kinds.r here.push_known.Reads.Post
push-known-one κs a z z' e e' p q = ap (λ (x : After Sizes). x.2) (p ∙ sym q)

pub push-known-exit : OneExit 2 here.push_known.Kinds.ps here.push_known.Kinds.r here.push_known.Reads.Post
push-known-exit κs a z z' last last' p q = let same = p ∙ sym q in λ i. (at_last a.0 (same i).0, (at_last a.1.0 (same i).1, a.1.1))

pub push-new-one : OneAnswer 2 here.push_new.Kinds.ps here.push_new.Kinds.r here.push_new.Reads.Post
push-new-one κs a z z' e e' p q = ap (λ (x : After Sizes). x.2) (p ∙ sym q)

pub push-new-exit : OneExit 2 here.push_new.Kinds.ps here.push_new.Kinds.r here.push_new.Reads.Post
push-new-exit κs a z z' last last' p q = let same = p ∙ sym q in λ i. (at_last a.0 (same i).0, (at_last a.1.0 (same i).1, a.1.1))

pub try-known-one : OneAnswer 3 here.try_known.Kinds.ps here.try_known.Kinds.r here.try_known.Reads.Post
try-known-one κs a z z' e e' p q = ap (λ (x : After Sizes). x.2) (p ∙ sym q)

pub try-known-exit : OneExit 3 here.try_known.Kinds.ps here.try_known.Kinds.r here.try_known.Reads.Post
try-known-exit κs a z z' last last' p q = let same = p ∙ sym q in λ i. (at_last a.0 (same i).0, (at_last a.1.0 (same i).1, a.1.1))

pub try-new-one : OneAnswer 3 here.try_new.Kinds.ps here.try_new.Kinds.r here.try_new.Reads.Post
try-new-one κs a z z' e e' p q = ap (λ (x : After Sizes). x.2) (p ∙ sym q)

pub try-new-exit : OneExit 3 here.try_new.Kinds.ps here.try_new.Kinds.r here.try_new.Reads.Post
try-new-exit κs a z z' last last' p q = let same = p ∙ sym q in λ i. (at_last a.0 (same i).0, (at_last a.1.0 (same i).1, a.1.1))

pub relax-one : OneAnswer 3 here.relax.Kinds.ps here.relax.Kinds.r here.relax.Reads.Post
relax-one κs a z z' e e' p q = ap (λ (x : After Sizes). x.2) (p ∙ sym q)

pub relax-exit : OneExit 3 here.relax.Kinds.ps here.relax.Kinds.r here.relax.Reads.Post
relax-exit κs a z z' last last' p q = let same = p ∙ sym q in λ i. (at_last a.0 (same i).0, (at_last a.1.0 (same i).1, a.1.1))

pub relax-all-one : OneAnswer 3 here.relax_all.Kinds.ps here.relax_all.Kinds.r here.relax_all.Reads.Post
relax-all-one κs a z z' e e' p q = ap (λ (x : After Sizes). x.2) (p ∙ sym q)

pub relax-all-exit : OneExit 3 here.relax_all.Kinds.ps here.relax_all.Kinds.r here.relax_all.Reads.Post
relax-all-exit κs a z z' last last' p q = let same = p ∙ sym q in λ i. (at_last a.0 (same i).0, (at_last a.1.0 (same i).1, a.1.1))

pub enter_one : OneAnswer 3 here.enter.Kinds.ps here.enter.Kinds.r here.enter.Reads.Post
enter_one κs a z z' e e' p q = ap (λ (x : After Step). x.2) (p ∙ sym q)

pub enter-exit : OneExit 3 here.enter.Kinds.ps here.enter.Kinds.r here.enter.Reads.Post
enter-exit κs a z z' last last' p q = let same = p ∙ sym q in λ i. (at_last a.0 (same i).0, (at_last a.1.0 (same i).1, a.1.1))

pub advance-one : OneAnswer 3 here.advance.Kinds.ps here.advance.Kinds.r here.advance.Reads.Post
advance-one κs a z z' e e' p q = ap (λ (x : After Step). x.2) (p ∙ sym q)

pub advance-exit : OneExit 3 here.advance.Kinds.ps here.advance.Kinds.r here.advance.Reads.Post
advance-exit κs a z z' last last' p q = let same = p ∙ sym q in λ i. (at_last a.0 (same i).0, (at_last a.1.0 (same i).1, a.1.1))

pub is-due-one : OneAnswer 2 here.is_due.Kinds.ps here.is_due.Kinds.r here.is_due.Reads.Post
is-due-one κs a z z' e e' p q = p ∙ sym q

pub is-paused-one : OneAnswer 2 here.is_paused.Kinds.ps here.is_paused.Kinds.r here.is_paused.Reads.Post
is-paused-one κs a z z' e e' p q = p ∙ sym q

pub pops-one : OneAnswer 3 here.pops.Kinds.ps here.pops.Kinds.r here.pops.Reads.Post
pops-one κs a z z' e e' p q = ap (λ (x : After Step). x.2) (p ∙ sym q)

pub pops-exit : OneExit 3 here.pops.Kinds.ps here.pops.Kinds.r here.pops.Reads.Post
pops-exit κs a z z' last last' p q = let same = p ∙ sym q in λ i. (at_last a.0 (same i).0, (at_last a.1.0 (same i).1, a.1.1))

pub is-sized-one : OneAnswer 0 here.is_sized.Kinds.ps here.is_sized.Kinds.r here.is_sized.Reads.Post
is-sized-one κs a z z' e e' p q = p ∙ sym q

pub run-one : OneAnswer 3 here.run.Kinds.ps here.run.Kinds.r here.run.Reads.Post
run-one κs a z z' e e' p q = ap (λ (x : After Step). x.2) (p ∙ sym q)

pub run-exit : OneExit 3 here.run.Kinds.ps here.run.Kinds.r here.run.Reads.Post
run-exit κs a z z' last last' p q = let same = p ∙ sym q in λ i. (at_last a.0 (same i).0, (at_last a.1.0 (same i).1, a.1.1))

pub resume-one : OneAnswer 3 here.resume.Kinds.ps here.resume.Kinds.r here.resume.Reads.Post
resume-one κs a z z' e e' p q = ap (λ (x : After Step). x.2) (p ∙ sym q)

pub resume-exit : OneExit 3 here.resume.Kinds.ps here.resume.Kinds.r here.resume.Reads.Post
resume-exit κs a z z' last last' p q = let same = p ∙ sym q in λ i. (at_last a.0 (same i).0, (at_last a.1.0 (same i).1, a.1.1))
