-- Coordinate by coordinate: each is in range.
use Rattle.snap.proofs.Ranges.{all-within}
use Rattle.snap.proofs.even_point.Goals as goal

pub even_near-requires : goal.even_near-requires
even_near-requires c = (all-within c.args.p c.requires).in-x

pub even_near-requires-2 : goal.even_near-requires-2
even_near-requires-2 c = (all-within c.args.p c.requires).in-y

pub even_near-requires-3 : goal.even_near-requires-3
even_near-requires-3 c = (all-within c.args.p c.requires).in-z
