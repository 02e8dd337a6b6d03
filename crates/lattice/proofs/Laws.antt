-- What follows from the lattice's definitions alone. `List.Memᴰ d l` says that d is a member of l: it is a place at which l has d.
use Rattle.std.specs.Prelude.{Ok}
use mathlib.Core.Path.{◌≡◌, refl, ap, ◌∙◌}
use mathlib.Core.Bool.{Bool, true, false, cond}
use mathlib.Core.List.Memᴰ
use mathlib.Core.List.{Memᴰ}
use Rattle.refusal.specs.declared.Coord.{Coord}
use Rattle.lattice.specs.declared.Parity.{Parity}
use Rattle.lattice.specs.declared.Parity.TheVariants.{Even, Odd}
use Rattle.lattice.specs.Lattice.{Fitting, is_odd, is_lattice_point, parity_of, moved, neighbor_places, neighbor_steps, has_neighbor_room, has_child_room, doubled, child_places, child_steps, halves, parent_of, manhattan}
use Rattle.lattice.specs.Middle.{middle}
use Rattle.lattice.proofs.SignsLaws.{either}
use Rattle.general.proofs.Lists.{at-member, at-image, by-test}
use Rattle.lattice.proofs.Odds.{oddness, answer, answered, same-parity, point-odds, parity-odds, moved-odds, child-odds, back, ways-back, there_and_back, child-home, parent-cases, parent-point, middle-mixed}
use Rattle.lattice.proofs.Fitting.{short, childlike, moved-fits, doubled_fits, halves-fit}

-- ---- lattice points

-- what has a parity is a lattice point
pub parity-point : (c : Coord) (p : Parity) → parity_of c ≡ Ok p → is_lattice_point c ≡ true
unfolding parity_of
parity-point c p e = answered (is_lattice_point c) (is_odd c.x) c p e

-- a lattice point has a parity: that of its first coordinate
pub point-parity : (c : Coord) → is_lattice_point c ≡ true → parity_of c ≡ Ok (cond (is_odd c.x) Odd Even)
unfolding parity_of
point-parity c e = ap (λ (t : Bool). answer t (is_odd c.x) c) e

-- each child is a lattice point
pub children-are-points : (c d : Coord) → Memᴰ d (child_places c) → is_lattice_point d ≡ true
unfolding child_places is_lattice_point
children-are-points c d m =
    by-test (moved (doubled c)) (λ (d : Coord). is_lattice_point d ≡ true) is_lattice_point child_steps refl
    (λ (s : Coord) (e : is_lattice_point s ≡ true). same-parity (is_odd s.x) (moved (doubled c) s) (child-odds c s (point-odds s e))) m

-- each neighbour of a lattice point is one
pub neighbors-are-points : (c d : Coord) → is_lattice_point c ≡ true → Memᴰ d (neighbor_places c) → is_lattice_point d ≡ true
unfolding neighbor_places is_lattice_point
neighbors-are-points c d p m =
    by-test (moved c) (λ (d : Coord). is_lattice_point d ≡ true) is_lattice_point neighbor_steps refl
    (λ (s : Coord) (e : is_lattice_point s ≡ true). same-parity (either (is_odd c.x) (is_odd s.x)) (moved c s) (moved-odds c s (point-odds c p) (point-odds s e))) m

-- a parent is a lattice point
pub parent-is-point : (c p : Coord) → parent_of c ≡ Ok p → is_lattice_point p ≡ true
parent-is-point c p e = parent-cases (λ (p : Coord). is_lattice_point p ≡ true) c p (λ (q : Parity). parent-point q (halves c)) e

-- ---- children and neighbours

-- the parent of each child of a lattice point is that point
pub child-parent : (c d : Coord) → is_lattice_point c ≡ true → Memᴰ d (child_places c) → parent_of d ≡ Ok c
unfolding child_places
child-parent c d e m = at-image (moved (doubled c)) (λ (d : Coord). parent_of d ≡ Ok c) child_steps m (child-home c (is_odd c.x) (point-odds c e))

-- a point is a neighbour of each of its neighbours
pub neighbor-symmetric : (c d : Coord) → Memᴰ d (neighbor_places c) → Memᴰ c (neighbor_places d)
unfolding neighbor_places
neighbor-symmetric c d m =
    let r = Memᴰ.of_map (moved c) neighbor_steps m in
    let b = at-member (λ (s : Coord). Memᴰ (back s) neighbor_steps) r.1 ways-back in
    Memᴰ.cast (there_and_back c r.0 ∙ ap (λ (q : Coord). moved q (back r.0)) r.2) (Memᴰ.map (moved d) b)

-- ---- room

-- 32 bits hold each neighbour of a point with neighbour room
pub room_fits : (c d : Coord) → has_neighbor_room c ≡ true → Memᴰ d (neighbor_places c) → Fitting d
unfolding neighbor_places
room_fits c d e m = by-test (moved c) Fitting short neighbor_steps refl (λ (s : Coord) (f : short s ≡ true). moved-fits c s e f) m

-- and each child of a point with child room
pub child-room-fits : (c d : Coord) → has_child_room c ≡ true → Memᴰ d (child_places c) → Fitting d
unfolding child_places
child-room-fits c d e m = by-test (moved (doubled c)) Fitting childlike child_steps refl (λ (s : Coord) (f : childlike s ≡ true). doubled_fits c s e f) m

-- and the parent of any point that they hold
pub parent-fits : (c p : Coord) → Fitting c → parent_of c ≡ Ok p → Fitting p
parent-fits c p f e = parent-cases Fitting c p (λ (q : Parity). halves-fit q c f) e

-- ---- between two points

-- the middle of two points of one parity at Manhattan distance 2 is no lattice point: it is one step from both, on one axis
pub between-is-mixed : (a b : Coord) (p : Parity) → parity_of a ≡ Ok p → parity_of b ≡ Ok p → manhattan a b ≡ 2 → is_lattice_point (middle a b) ≡ false
between-is-mixed a b p e f m = middle-mixed a b (oddness p) (parity-odds a p (parity-point a p e) e) (parity-odds b p (parity-point b p f) f) m
