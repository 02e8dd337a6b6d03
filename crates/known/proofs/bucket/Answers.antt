-- A number of 32 bits times the room, without its lower 32 bits, is below the room.
use Rattle.std.proofs.Common.{ℕ, ◌*◌, ◌/◌, ap, arith}
use Rattle.known.specs.Inner.Known.{bucket_of}
use Rattle.known.proofs.Laws.{shared-lt}
use Rattle.known.proofs.bucket.Goals as goal

pub returns : goal.returns
unfolding bucket_of
returns c =
    let room = c.args.room in
    (ap (λ (m : ℕ). m * room / 4294967296) c.mixed.ensures.0, shared-lt c.mixed.result room (omega arith) (omega arith))
