-- Word by word: the record lies within the room.
use Rattle.known.specs.Inner.Known.{cell_in}
use Rattle.known.proofs.cell_at.Goals as goal

pub returns : goal.returns
unfolding cell_in
returns c = λ i. record { high = c.read64_little.ensures i; low = c.read64_little-2.ensures i }
