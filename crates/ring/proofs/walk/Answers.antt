-- From the one known cell to the last cells, which are listed.
use Rattle.std.proofs.Common.{rules}
use Rattle.std.proofs.lemmas.Result.{err_from_is_err_and}
use Rattle.known.proofs.Emptied.{emptied-by}
use Rattle.known.proofs.Added.{added-by}
use Rattle.ring.proofs.Started.{walked-stopped, walked_all}
use Rattle.ring.proofs.walk.Goals as goal

pub levels-requires : goal.levels-requires
levels-requires c =
    let a = c.args in
    let none = emptied-by a.workspace.now _ a.rooms.known c.requires.roomy c.clear.ensures in
    (added-by _ a.rooms.known 0 a.c none.known c.requires.roomy.least (search rules) _ c.add.ensures).known

pub returns-in_err-last-clause-output_after : goal.returns-in_err-last-clause-output_after
returns-in_err-last-clause-output_after c =
    let a = c.args in
    let none = emptied-by a.workspace.now _ a.rooms.known c.requires.roomy c.clear.ensures in
    let one = added-by _ a.rooms.known 0 a.c none.known c.requires.roomy.least (search rules) _ c.add.ensures in
    let p = err_from_is_err_and c.from_residual.result c.from_residual.ensures.1 in
    rw (p.1, p.2) (walked-stopped a.every a.rooms a.k a.c _ _ one _ _ a.output.now c.in_err-last.ensures)

pub returns-clause-output_after : goal.returns-clause-output_after
returns-clause-output_after c =
    let a = c.args in
    let none = emptied-by a.workspace.now _ a.rooms.known c.requires.roomy c.clear.ensures in
    let one = added-by _ a.rooms.known 0 a.c none.known c.requires.roomy.least (search rules) _ c.add.ensures in
    walked_all a.every a.rooms a.k a.c _ _ one _ _ a.output.now c.in_ok-last.ensures c.finish.ensures
