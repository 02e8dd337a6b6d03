-- The search of `bech32m`, for its own kind.
use Rattle.bech32m.specs.Valid.{is_of}
use Rattle.label.specs.Label.{unknown_at}
use Rattle.label.proofs.unknown_at.Goals as goal

pub returns : goal.returns
unfolding is_of unknown_at
returns c = c.first_of_kind.ensures
