-- By where the search found the cell.
use Rattle.std.proofs.Common.{sym}
use Rattle.table.proofs.Laws.{found_within, found-held, missing-held}
use Rattle.table.proofs.held.Goals as goal

pub kept_at-requires-clause-i_in_bounds : goal.kept_at-requires-clause-i_in_bounds
kept_at-requires-clause-i_in_bounds c = found_within c.args.width c.args.table.now c.args.c c.args.count _ c.requires.count_value c.find.ensures c.in-Ok.is

pub returns-in-Ok : goal.returns-in-Ok
returns-in-Ok c = sym (found-held c.args.width c.args.table.now c.args.c c.args.count _ c.requires.count_value c.find.ensures c.in-Ok.is c.kept_at.ensures)

pub returns-in-Err : goal.returns-in-Err
returns-in-Err c = sym (missing-held c.args.width c.args.table.now c.args.c c.args.count _ c.find.ensures c.in-Err.is)
