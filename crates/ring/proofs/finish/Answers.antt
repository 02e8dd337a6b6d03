-- The records from the first one to be listed up to the last are written where they fit.
use Rattle.std.specs.Prelude.{Ok}
use mathlib.Core.Path.{◌≡◌, refl, ap, ◌∙◌}
use mathlib.Core.List.{List}
use Prim.Native.Nat.{ℕ, ◌-◌}
use Rattle.general.specs.Changed.{changed}
use Rattle.ring.proofs.Finished.{first_of, finished-all, finished-refused}
use Rattle.ring.proofs.finish.Goals as goal
use Rattle.ring.proofs.finish.Goals.{Joined-every, then-every, else-every}

chosen : (c : Joined-every) → c.if-every.first ≡ first_of c.args.every c.args.last.start
chosen c = elim c.if-every.branch [ then-every w ↦ rw (w.if-every.true, w.first-is) refl | else-every w ↦ rw (w.if-every.false, w.first-is) refl ]

pub returns-then-count-rooms : goal.returns-then-count-rooms
returns-then-count-rooms c =
    let a = c.args in
    finished-refused a.every a.workspace.now a.rooms a.last.start a.last.end c.if-every.first a.output.now c.requires.ordered (chosen (goal.at.returns-then-count-rooms c).Joined-every) c.requires.listed c.if-count-rooms.true

pub returns : goal.returns
returns c =
    let a = c.args in
    let first = c.if-every.first in
    ap (λ (l : List ℕ). changed (Ok (a.last.end - first)) l) c.write.ensures
    ∙ finished-all a.every a.workspace.now a.rooms a.last.start a.last.end first a.output.now c.requires.ordered (chosen (goal.at.returns c).Joined-every) c.if-count-rooms.false
