-- Each answer by the tests that led to it: is the cell known, is there known room, is there waiting room.
use Rattle.std.proofs.Common.{rules}
use Rattle.ring.proofs.Seen.{seen-known, no-known-room, no-waiting-room, seen-new}
use Rattle.ring.proofs.see.Goals as goal

pub returns-then-is_some : goal.returns-then-is_some
returns-then-is_some c =
    let a = c.args in
    seen-known a.rooms a.next a.count a.workspace.now a.c c.requires.known (search rules) (search rules) c.find.ensures (cc)

pub returns-then-count-rooms : goal.returns-then-count-rooms
returns-then-count-rooms c =
    let a = c.args in
    no-known-room a.rooms a.next a.count a.workspace.now a.c c.requires.known (search rules) (search rules) c.find.ensures (cc) c.if-count-rooms.true

pub returns-then-count-next : goal.returns-then-count-next
returns-then-count-next c =
    let a = c.args in
    no-waiting-room a.rooms a.next a.count a.workspace.now a.c c.requires.known (search rules) (search rules) c.find.ensures (cc) c.if-count-rooms.false c.if-count-next.true

pub returns : goal.returns
returns c =
    let a = c.args in
    seen-new a.rooms a.next a.count a.workspace.now a.c c.requires.known (search rules) (search rules) c.find.ensures (cc) c.if-count-rooms.false c.if-count-next.false c.add.ensures
