-- Coordinate by coordinate: each is in range.
use Rattle.snap.proofs.Ranges.{all-within}
use Rattle.snap.proofs.odd_point.Goals as goal

pub odd_near-requires : goal.odd_near-requires
odd_near-requires c = (all-within c.args.p c.requires).in-x

pub odd_near-requires-2 : goal.odd_near-requires-2
odd_near-requires-2 c = (all-within c.args.p c.requires).in-y

pub odd_near-requires-3 : goal.odd_near-requires-3
odd_near-requires-3 c = (all-within c.args.p c.requires).in-z
