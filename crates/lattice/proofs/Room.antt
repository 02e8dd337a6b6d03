-- Where there is room, each step of a table fits.
use mathlib.Core.Path.{◌≡◌, refl, subst}
use mathlib.Core.Bool.{Bool, true}
use mathlib.Core.List.{List, [], ◌∷◌}
use Prim.Native.Nat.{ℕ, zero, suc}
use lib.IntN.{◌+ℤ◌, +ℤ_idr}
use lib.ListN.{get_or}
use Rattle.refusal.specs.declared.Coord.{Coord}
use Rattle.lattice.specs.Lattice.{at, moved, doubled, Fitting, neighbor_steps, has_neighbor_room, child_steps, has_child_room, halves}
use Rattle.lattice.proofs.Origin.{origin}
use Rattle.general.proofs.Tests.{both}
use Rattle.general.proofs.Lists.{passes}
use Rattle.lattice.proofs.Fitting.{short, childlike, moved-fits, doubled_fits}
use Rattle.lattice.proofs.Signs.{half-near}

-- what a test says of every entry it says of the entry at k, and past the end of no step
each : (t : Coord → Bool) → t origin ≡ true → (l : List Coord) → passes t l ≡ true → (k : ℕ) → t (get_or l k origin) ≡ true
each t o [] e k = o
each t o (d ∷ l) e zero = (both (t d) (passes t l) e).0
each t o (d ∷ l) e (suc k) = each t o l (both (t d) (passes t l) e).1 k

pub near : (c : Coord) → has_neighbor_room c ≡ true → (k : ℕ) → Fitting (moved c (get_or neighbor_steps k origin))
unfolding neighbor_steps
near c e k = moved-fits c (get_or neighbor_steps k origin) e (each short refl neighbor_steps refl k)

pub lower : (c : Coord) → has_child_room c ≡ true → (k : ℕ) → Fitting (moved (doubled c) (get_or child_steps k origin))
unfolding child_steps
lower c e k = doubled_fits c (get_or child_steps k origin) e (each childlike refl child_steps refl k)

-- twice the point is the child of no step
pub twice : (c : Coord) → has_child_room c ≡ true → Fitting (doubled c)
twice c e =
    subst Fitting (λ i. at (+ℤ_idr (c.x +ℤ c.x) i) (+ℤ_idr (c.y +ℤ c.y) i) (+ℤ_idr (c.z +ℤ c.z) i)) (doubled_fits c origin e refl)

-- halves have room, so that one more or one less fits
pub halves-near : (c : Coord) → Fitting c → has_neighbor_room (halves c) ≡ true
unfolding has_neighbor_room
halves-near c f =
    rw (half-near c.x f.in-x, half-near c.y f.in-y, half-near c.z f.in-z)
