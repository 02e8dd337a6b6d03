-- The records after i have moved back; then the last one is zeroed.
use Rattle.table.proofs.Moved.{closed}
use Rattle.table.proofs.moves.close_record.Goals as goal

pub returns : goal.returns
returns c =
    let args = c.args in
    closed args.width args.table.now args.count args.i c.requires.within c.requires.size c.copy_within.ensures.after c.zero.ensures
