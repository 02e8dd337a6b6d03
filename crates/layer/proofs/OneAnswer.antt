-- Two answers that meet the contract of a call on a layer agree, and so does what they leave in the memory that was lent to them: on a layer of either kind.
use Rattle.std.proofs.Common.{ℕ, Fits, w8, sym, ◌∙◌}
use denote.Ref.{at_last}
use Rattle.general.specs.OneAnswer.{OneAnswer, OneExit}
use Rattle.general.proofs.ChangedLaws.{same-said, same_bytes}
use Rattle.layer.proofs as here

module _ (kind : ℕ) (fits : Fits w8 kind) where
  pub get-one : OneAnswer 3 (here.get.Kinds.ps kind fits) (here.get.Kinds.r kind fits) (here.get.Reads.Post kind fits)
  get-one κs a z z' e e' p q = p.0 ∙ sym q.0

  pub contains-one : OneAnswer 3 (here.contains.Kinds.ps kind fits) (here.contains.Kinds.r kind fits) (here.contains.Reads.Post kind fits)
  contains-one κs a z z' e e' p q = p ∙ sym q

  pub count-one : OneAnswer 2 (here.count.Kinds.ps kind fits) (here.count.Kinds.r kind fits) (here.count.Reads.Post kind fits)
  count-one κs a z z' e e' p q = p ∙ sym q

  pub is-empty-one : OneAnswer 2 (here.is_empty.Kinds.ps kind fits) (here.is_empty.Kinds.r kind fits) (here.is_empty.Reads.Post kind fits)
  is-empty-one κs a z z' e e' p q = p ∙ sym q

  -- ---- calls that change a table, or write what is lent for a listing

  pub set-one : OneAnswer 3 (here.changes.set.Kinds.ps kind fits) (here.changes.set.Kinds.r kind fits) (here.changes.set.Reads.Post kind fits)
  set-one κs a z z' e e' p q = same-said p q

  pub set-exit : OneExit 3 (here.changes.set.Kinds.ps kind fits) (here.changes.set.Kinds.r kind fits) (here.changes.set.Reads.Post kind fits)
  set-exit κs a z z' last last' p q = λ i. (at_last a.0 (same_bytes p q i), a.1)

  pub remove-one : OneAnswer 3 (here.changes.remove.Kinds.ps kind fits) (here.changes.remove.Kinds.r kind fits) (here.changes.remove.Reads.Post kind fits)
  remove-one κs a z z' e e' p q = same-said p.0 q.0

  pub remove-exit : OneExit 3 (here.changes.remove.Kinds.ps kind fits) (here.changes.remove.Kinds.r kind fits) (here.changes.remove.Reads.Post kind fits)
  remove-exit κs a z z' last last' p q = λ i. (at_last a.0 (same_bytes p.0 q.0 i), a.1)

  pub clear-exit : OneExit 2 (here.clear.Kinds.ps kind fits) (here.clear.Kinds.r kind fits) (here.clear.Reads.Post kind fits)
  clear-exit κs a z z' last last' p q = λ i. (at_last a.0 ((p ∙ sym q) i), tt)

  pub list-one : OneAnswer 3 (here.list.Kinds.ps kind fits) (here.list.Kinds.r kind fits) (here.list.Reads.Post kind fits)
  list-one κs a z z' e e' p q = same-said p q

  pub list-exit : OneExit 3 (here.list.Kinds.ps kind fits) (here.list.Kinds.r kind fits) (here.list.Reads.Post kind fits)
  list-exit κs a z z' last last' p q = λ i. (a.0, (a.1.0, (at_last a.1.1.0 (same_bytes p q i), tt)))
