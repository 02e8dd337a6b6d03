-- By the cell's place.
use native.Mathlib.Omega.{arith}
use Rattle.std.proofs.Common.{rules}
use Rattle.words.specs.Word.{Bytes}
use Rattle.table.specs.Inner.Places.{Stands}
use Rattle.table.proofs.Laws.{found_within}
use Rattle.layer.proofs.Rewritten.{replaced}
use Rattle.layer.proofs.changes.set_cell.Goals as goal

pub put_record-requires-clause-i_in_bounds : goal.put_record-requires-clause-i_in_bounds
put_record-requires-clause-i_in_bounds c =
    let args = c.args in
    found_within args.width args.table.now args.c args.count _ c.requires.count_value c.find.ensures c.in-Ok.is

pub insert-requires : goal.insert-requires
unfolding Stands
insert-requires c = record { wide = c.requires.wide; sound = c.requires.count_value; place = c.in-Err.ensures }

pub returns-in-Ok : goal.returns-in-Ok
unfolding Stands
returns-in-Ok c =
    let args = c.args in
    let bytes : Bytes args.table.now = search rules in
    replaced args.width args.table.now args.count args.c _ c.requires.count_value c.in-Ok.ensures (omega arith) bytes args.kept c.put_record.ensures
