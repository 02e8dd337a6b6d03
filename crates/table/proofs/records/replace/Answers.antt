-- The rows' own bytes at the front, then zeros up to the room.
use mathlib.Core.Path.{ap, ◌∙◌}
use Prim.Native.Nat.{ℕ}
use native.Mathlib.Omega.{arith}
use Rattle.table.specs.Records.{rows_of, refilled}
use Rattle.table.proofs.Laws.{rows-within}
use Rattle.table.proofs.Refills.{copied-refills}
use Rattle.table.proofs.records.replace.Goals as goal

pub returns : goal.returns
returns c =
    let args = c.args in
    let most = c.room_for-room.result in
    c.zero.ensures
    ∙ copied-refills args.width most args.count args.table.now args.source.now _ (omega arith) (omega arith) (rows-within args.width args.table.now most (omega arith)) c.requires.size (λ i. omega (arith, c.shared_slice_known-1.given i)) c.copy_front.ensures
    ∙ ap (λ (k : ℕ). refilled args.width k (rows_of args.width args.source.now args.count) args.table.now) c.room_for-room.ensures
