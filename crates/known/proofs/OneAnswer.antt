-- Two answers that meet a contract of the known cells agree, and so do the bytes that they leave, whatever the bytes were.
use Rattle.std.proofs.Common.{sym, ◌∙◌}
use denote.Ref.{at_last}
use Rattle.general.specs.OneAnswer.{OneAnswer, OneExit}
use Rattle.known.proofs as here

pub mixed_one : OneAnswer 0 here.mixed.Kinds.ps here.mixed.Kinds.r here.mixed.Reads.Post
mixed_one κs a z z' e e' p q = p.0 ∙ sym q.0

pub bucket-one : OneAnswer 0 here.bucket.Kinds.ps here.bucket.Kinds.r here.bucket.Reads.Post
bucket-one κs a z z' e e' p q = p.0 ∙ sym q.0

pub cell-at-one : OneAnswer 1 here.cell_at.Kinds.ps here.cell_at.Kinds.r here.cell_at.Reads.Post
cell-at-one κs a z z' e e' p q = p ∙ sym q

pub find-one : OneAnswer 1 here.find.Kinds.ps here.find.Kinds.r here.find.Reads.Post
find-one κs a z z' e e' p q = p ∙ sym q

pub add-exit : OneExit 1 here.add.Kinds.ps here.add.Kinds.r here.add.Reads.Post
add-exit κs a z z' last last' p q = let same = p ∙ sym q in λ i. (at_last a.0 (same i), a.1)

pub clear-exit : OneExit 1 here.clear.Kinds.ps here.clear.Kinds.r here.clear.Reads.Post
clear-exit κs a z z' last last' p q = let same = p ∙ sym q in λ i. (at_last a.0 (same i), a.1)

pub is-room-one : OneAnswer 0 here.is_room.Kinds.ps here.is_room.Kinds.r here.is_room.Reads.Post
is-room-one κs a z z' e e' p q = p ∙ sym q

pub wipe-exit : OneExit 1 here.wipe.Kinds.ps here.wipe.Kinds.r here.wipe.Reads.Post
wipe-exit κs a z z' last last' p q = let same = p ∙ sym q in λ i. (at_last a.0 (same i), tt)
