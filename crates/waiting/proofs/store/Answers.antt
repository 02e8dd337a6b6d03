-- Word by word.
use Rattle.waiting.specs.Inner.Entries.{entry_stored}
use Rattle.waiting.proofs.store.Goals as goal

pub returns : goal.returns
unfolding entry_stored
returns c =
    cc
