-- Zeros up to the end of the last whole record within the limit.
use Rattle.std.specs.Prelude.{◌≡◌, ℕ}
use mathlib.Core.Path.{subst}
use Rattle.layer.specs.Changes.{clear_in}
use Rattle.layer.proofs.Rewritten.{zeros-clear}
use Rattle.layer.proofs.clear.Goals as goal

pub returns : goal.returns
returns g c =
    let args = c.args in
    let width = c.width-width in
    let room = c.room_for-room in
    subst (λ (w : ℕ). c.zero.new.bytes ≡ clear_in w args.table.now) width.ensures.value
    (zeros-clear width.result room.result args.table.now _ room.ensures c.zero.ensures)
