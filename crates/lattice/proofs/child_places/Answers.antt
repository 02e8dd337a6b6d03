-- Twice the point and each step of the table from there fit, as there is room; the answers are the table's, one by one.
use Prim.Native.Nat.{ℕ}
use mathlib.Core.Path.{sym, subst, ◌∙◌, ap}
use mathlib.Core.List.{[], ◌∷◌, map}
use lib.ListN.{get_or}
use Rattle.refusal.specs.declared.Coord.{Coord}
use Rattle.lattice.specs.Lattice.{moved, Fitting, child_steps, child_places}
use Rattle.lattice.proofs.Origin.{origin}
use Rattle.lattice.proofs.Room.{twice, lower}
use Rattle.lattice.proofs.child_places.Goals as goal
use Rattle.lattice.proofs.child_places.Goals.{After-doubled-twice}

step : (c : After-doubled-twice) (k : ℕ) → Fitting (moved c.doubled-twice.result (get_or child_steps k origin))
step c k =
    subst (λ (p : Coord). Fitting (moved p (get_or child_steps k origin))) (sym c.doubled-twice.ensures)
    (lower c.args.c c.requires k)

pub doubled-twice-requires : goal.doubled-twice-requires
doubled-twice-requires c = twice c.args.c c.requires

pub moved-requires-2 : goal.moved-requires-2
unfolding child_steps
moved-requires-2 c = step c.before 1

pub moved-requires-3 : goal.moved-requires-3
unfolding child_steps
moved-requires-3 c = step c.before.before 2

pub moved-requires-4 : goal.moved-requires-4
unfolding child_steps
moved-requires-4 c = step c.before.before.before 3

pub moved-requires-5 : goal.moved-requires-5
unfolding child_steps
moved-requires-5 c = step c.before.before.before.before 4

pub moved-requires-6 : goal.moved-requires-6
unfolding child_steps
moved-requires-6 c = step c.before.before.before.before.before 5

pub moved-requires-7 : goal.moved-requires-7
unfolding child_steps
moved-requires-7 c = step c.before.before.before.before.before.before 6

pub returns : goal.returns
unfolding child_steps child_places
returns c =
    (λ i.
    c.moved.ensures i
    ∷ c.moved-2.ensures i
    ∷ c.moved-3.ensures i
    ∷ c.moved-4.ensures i
    ∷ c.moved-5.ensures i
    ∷ c.moved-6.ensures i
    ∷ c.moved-7.ensures i
    ∷ c.moved-8.ensures i
    ∷ [])
    ∙ ap (λ (p : Coord). map (moved p) child_steps) c.doubled-twice.ensures
