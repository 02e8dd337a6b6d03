-- By the cell's place.
use native.Mathlib.Omega.{arith}
use Rattle.std.proofs.Common.{rules}
use Rattle.words.specs.Word.{Bytes}
use Rattle.table.specs.Inner.Places.{Stands}
use Rattle.table.proofs.Laws.{sound-room, rows-within, found_within}
use Rattle.layer.proofs.Rewritten.{removed, not-removed}
use Rattle.layer.proofs.changes.remove_cell.Goals as goal

pub kept_at-kept-requires-clause-i_in_bounds : goal.kept_at-kept-requires-clause-i_in_bounds
kept_at-kept-requires-clause-i_in_bounds c =
    let args = c.args in
    found_within args.width args.table.now args.c args.count _ c.requires.count_value c.find.ensures c.in-Ok.is

pub close_record-requires : goal.close_record-requires
unfolding Stands
close_record-requires c =
    let args = c.args in
    record { wide = c.requires.wide; within = c.in-Ok.ensures.within; size = rows-within args.width args.table.now args.count (sound-room args.width args.table.now args.count c.requires.count_value) }

pub returns-in-Ok : goal.returns-in-Ok
unfolding Stands
returns-in-Ok c =
    let args = c.args in
    let bytes : Bytes args.table.now = search rules in
    removed args.width args.table.now args.count args.c _ c.requires.count_value c.in-Ok.ensures (omega arith) bytes c.kept_at-kept.ensures c.close_record.ensures

pub returns-in-Err : goal.returns-in-Err
unfolding Stands
returns-in-Err c =
    let args = c.args in
    let bytes : Bytes args.table.now = search rules in
    not-removed args.width args.table.now args.count args.c _ c.requires.count_value c.in-Err.ensures (omega arith) bytes
