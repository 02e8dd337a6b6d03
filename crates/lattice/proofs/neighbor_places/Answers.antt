-- Each step of the table fits, as there is room; the answers are the table's, one by one.
use Prim.Native.Nat.{ℕ}
use mathlib.Core.List.{[], ◌∷◌}
use lib.ListN.{get_or}
use Rattle.lattice.specs.Lattice.{moved, Fitting, neighbor_steps, neighbor_places}
use Rattle.lattice.proofs.Origin.{origin}
use Rattle.lattice.proofs.Room.{near}
use Rattle.lattice.proofs.neighbor_places.Goals as goal
use Rattle.lattice.proofs.neighbor_places.Goals.{Start}

step : (c : Start) (k : ℕ) → Fitting (moved c.args.c (get_or neighbor_steps k origin))
step c k = near c.args.c c.requires k

pub moved-requires : goal.moved-requires
unfolding neighbor_steps
moved-requires c = step c 0

pub moved-requires-2 : goal.moved-requires-2
unfolding neighbor_steps
moved-requires-2 c = step c.before 1

pub moved-requires-3 : goal.moved-requires-3
unfolding neighbor_steps
moved-requires-3 c = step c.before.before 2

pub moved-requires-5 : goal.moved-requires-5
unfolding neighbor_steps
moved-requires-5 c = step c.before.before.before.before 4

pub moved-requires-9 : goal.moved-requires-9
unfolding neighbor_steps
moved-requires-9 c = step c.before.before.before.before.before.before.before.before 8

pub moved-requires-10 : goal.moved-requires-10
unfolding neighbor_steps
moved-requires-10 c = step c.before.before.before.before.before.before.before.before.before 9

pub moved-requires-11 : goal.moved-requires-11
unfolding neighbor_steps
moved-requires-11 c = step c.before.before.before.before.before.before.before.before.before.before 10

pub moved-requires-12 : goal.moved-requires-12
unfolding neighbor_steps
moved-requires-12 c = step c.before.before.before.before.before.before.before.before.before.before.before 11

pub moved-requires-13 : goal.moved-requires-13
unfolding neighbor_steps
moved-requires-13 c = step c.before.before.before.before.before.before.before.before.before.before.before.before 12

pub moved-requires-14 : goal.moved-requires-14
unfolding neighbor_steps
moved-requires-14 c = step c.before.before.before.before.before.before.before.before.before.before.before.before.before 13

pub returns : goal.returns
unfolding neighbor_steps neighbor_places
returns c =
    (λ i.
    c.moved.ensures i
    ∷ c.moved-2.ensures i
    ∷ c.moved-3.ensures i
    ∷ c.moved-4.ensures i
    ∷ c.moved-5.ensures i
    ∷ c.moved-6.ensures i
    ∷ c.moved-7.ensures i
    ∷ c.moved-8.ensures i
    ∷ c.moved-9.ensures i
    ∷ c.moved-10.ensures i
    ∷ c.moved-11.ensures i
    ∷ c.moved-12.ensures i
    ∷ c.moved-13.ensures i
    ∷ c.moved-14.ensures i
    ∷ [])
