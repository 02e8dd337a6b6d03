-- The records from the cell's place on move, and its own is written there.
use Prim.Native.Nat.{◌+◌, ◌<◌}
use native.Mathlib.Omega.{arith}
use Rattle.std.proofs.Common.{rules}
use Rattle.words.specs.Word.{Bytes}
use Rattle.table.specs.Records.{room_for}
use Rattle.table.proofs.Laws.{sound-room, rows-within}
use Rattle.table.proofs.Moved.{ends-within}
use Rattle.layer.proofs.Rewritten.{no_room, inserted}
use Rattle.layer.proofs.changes.insert.Goals as goal

pub returns-then-count-room_for : goal.returns-then-count-room_for
returns-then-count-room_for c =
    let args = c.args in
    no_room args.width args.table.now args.count args.c args.i c.requires.place args.kept (omega (arith, sound-room args.width args.table.now args.count c.requires.sound))

pub open_record-requires : goal.open_record-requires
open_record-requires c =
    let args = c.args in
    let room : args.count < room_for args.width args.table.now = omega (arith, sound-room args.width args.table.now args.count c.requires.sound) in
    record { wide = c.requires.wide; within = omega (arith, c.requires.place.within); size = rows-within args.width args.table.now (args.count + 1) (omega arith) }

pub put_record-requires-clause-i_in_bounds : goal.put_record-requires-clause-i_in_bounds
put_record-requires-clause-i_in_bounds c =
    let args = c.args in
    let room : args.count < room_for args.width args.table.now = omega (arith, sound-room args.width args.table.now args.count c.requires.sound) in
    omega (arith, ends-within args.width (args.count + 1) args.i (omega (arith, c.requires.place.within)) (rows-within args.width args.table.now (args.count + 1) (omega arith)))

pub overflow_add-result : goal.overflow_add-result
overflow_add-result c =
    let args = c.args in
    omega (arith, sound-room args.width args.table.now args.count c.requires.sound)

pub returns : goal.returns
returns c =
    let args = c.args in
    let bytes : Bytes args.table.now = search rules in
    inserted args.width args.table.now args.count args.c args.i c.requires.place args.kept (omega arith) bytes
    (omega (arith, sound-room args.width args.table.now args.count c.requires.sound))
    c.open_record.ensures c.put_record.ensures
