-- Word by word.
use Rattle.cell.specs.Bytes.{cell_at}
use Rattle.cell.proofs.read_at.Goals as goal

pub returns : goal.returns
unfolding cell_at
returns c = λ i. record { high = c.read64_big.ensures i; low = c.read64_big-2.ensures i }
