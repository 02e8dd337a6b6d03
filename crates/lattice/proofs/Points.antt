-- The ends of the ranges, by computation. The known points of the scope document stand in one table, in the top crate.
use Rattle.std.specs.Prelude.{Result, Ok, Err}
use Rattle.refusal.specs.declared.Refusal.{Refusal}
use mathlib.Core.List.{List, [], ◌∷◌, map}
use mathlib.Core.Path.{◌≡◌, refl}
use lib.IntN.{pos, negsuc}
use lib.ListN.{get_or, replicate}
use Rattle.refusal.specs.declared.Refusal.TheVariants.{CoordOverflow}
use Rattle.refusal.specs.declared.Coord.{Coord}
use Rattle.lattice.specs.declared.Axis.{Axis}
use Rattle.lattice.specs.declared.Axis.TheVariants.{X, Z, Neither}
use Rattle.lattice.specs.declared.Parity.TheVariants.{Even}
use Rattle.lattice.specs.Lattice.{at, is_odd, is_lattice_point, parity_of, child_steps, child_places, has_child_room, children_of, halves, differing_axis, even_parent, parent_of, has_neighbor_room, neighbor_places, neighbor_steps, neighbors_of, manhattan, manhattan_of}
use Rattle.lattice.proofs.Origin.{origin}
use Rattle.lattice.specs.Terms.{divided_by_two, counted_parent}

-- whether there is an answer, whatever it is
abbrev whether : {A : Type 0} → Result A Refusal → Result (Unit {0}) Refusal
whether (Ok x) = Ok tt
whether (Err r) = Err r

abbrev around-of : Coord → Result (Unit {0}) Refusal
around-of c = whether (neighbors_of c)

-- neighbours: -2147483646 and 2147483645 are the last that are answered
pub neighbor-ends : map around-of (at (negsuc 2147483645) (pos 0) (pos 0) ∷ at (pos 1) (pos 2147483645) (pos 1) ∷ []) ≡ (Ok tt) ∷ (Ok tt) ∷ []
unfolding neighbors_of parity_of is_lattice_point has_neighbor_room neighbor_places neighbor_steps
neighbor-ends = refl

pub neighbor-past : map around-of (at (negsuc 2147483646) (pos 1) (pos 1) ∷ at (pos 2147483646) (pos 0) (pos 0) ∷ at (pos 0) (pos 0) (pos 2147483646) ∷ []) ≡ Err CoordOverflow ∷ Err CoordOverflow ∷ Err CoordOverflow ∷ []
unfolding neighbors_of parity_of is_lattice_point has_neighbor_room neighbor_places neighbor_steps
neighbor-past = refl

abbrev below_of : Coord → Result (Unit {0}) Refusal
below_of c = whether (children_of c)

-- children: x from -1073741824, y and z from -1073741823, all to 1073741822
pub child-ends : map below_of (at (negsuc 1073741823) (pos 0) (pos 0) ∷ at (pos 1073741822) (pos 0) (pos 0) ∷ at (pos 1) (negsuc 1073741822) (negsuc 1073741822) ∷ at (pos 0) (pos 1073741822) (pos 1073741822) ∷ []) ≡ (Ok tt) ∷ (Ok tt) ∷ (Ok tt) ∷ (Ok tt) ∷ []
unfolding children_of parity_of is_lattice_point has_child_room child_places child_steps
child-ends = refl

pub child-past : map below_of (at (negsuc 1073741824) (pos 1) (pos 1) ∷ at (pos 1073741823) (pos 1) (pos 1) ∷ at (pos 0) (negsuc 1073741823) (pos 0) ∷ at (pos 0) (pos 0) (negsuc 1073741823) ∷ at (pos 1) (pos 1073741823) (pos 1) ∷ at (pos 1) (pos 1) (pos 1073741823) ∷ []) ≡ Err CoordOverflow ∷ Err CoordOverflow ∷ Err CoordOverflow ∷ Err CoordOverflow ∷ Err CoordOverflow ∷ Err CoordOverflow ∷ []
unfolding children_of parity_of is_lattice_point has_child_room child_places child_steps
child-past = refl

-- Manhattan distances from (0, 0, 0): 2147483647 is the last that is answered
pub far : map (manhattan_of origin) (at (pos 2147483645) (pos 1) (pos 1) ∷ at (pos 2147483646) (negsuc 1) (pos 0) ∷ at (negsuc 2147483647) (pos 0) (pos 0) ∷ []) ≡ Ok (pos 2147483647) ∷ Err CoordOverflow ∷ Err CoordOverflow ∷ []
unfolding manhattan_of parity_of is_lattice_point manhattan
far = refl

-- the last point of all has a parent, whose children no call lists: one of them would leave 32 bits
pub last-point : parent_of (at (pos 2147483646) (pos 2147483646) (pos 2147483646)) ≡ Ok (at (pos 1073741823) (pos 1073741823) (pos 1073741823))
unfolding parent_of parity_of is_lattice_point
last-point = refl

pub last-children : children_of (at (pos 1073741823) (pos 1073741823) (pos 1073741823)) ≡ Err CoordOverflow
unfolding children_of parity_of is_lattice_point has_child_room
last-children = refl

-- (3, 3, 1) has the parent (1, 1, 1), and is the sixth that is listed for it
pub sixth-child : (parent_of (at (pos 3) (pos 3) (pos 1)) ≡ Ok (at (pos 1) (pos 1) (pos 1)))
    × (children_of (at (pos 1) (pos 1) (pos 1)) ≡ Ok (child_places (at (pos 1) (pos 1) (pos 1)))) × (get_or (child_places (at (pos 1) (pos 1) (pos 1))) 5 origin ≡ at (pos 3) (pos 3) (pos 1))
unfolding children_of parent_of parity_of is_lattice_point has_child_room child_places child_steps
sixth-child = (refl, refl, refl)

-- ---- the parent of an even point

-- cells worked out by hand
abbrev worked_cells : List Coord
worked_cells =
    let o = pos 0 in
    let t = pos 2 in
    at t t t ∷ at t o o ∷ at t t o ∷ at o t t ∷ at (negsuc 1) o o ∷ at (pos 4) t t ∷ at (pos 2147483646) (pos 2147483646) (negsuc 2147483647) ∷ []

-- of a point its halves, the axis whose parity differs from the other two, and its parent
abbrev worked : Coord → Coord × Axis × Result Coord Refusal
worked c =
    let q = halves c in
    (q, differing_axis (is_odd q.x) (is_odd q.y) (is_odd q.z), parent_of c)

pub worked-parents : map worked worked_cells
    ≡ (at (pos 1) (pos 1) (pos 1), Neither, Ok (at (pos 1) (pos 1) (pos 1)))
    ∷ (at (pos 1) (pos 0) (pos 0), X, Ok (at (pos 0) (pos 0) (pos 0)))
    ∷ (at (pos 1) (pos 1) (pos 0), Z, Ok (at (pos 1) (pos 1) (negsuc 0)))
    ∷ (at (pos 0) (pos 1) (pos 1), X, Ok (at (negsuc 0) (pos 1) (pos 1)))
    ∷ (at (negsuc 0) (pos 0) (pos 0), X, Ok (at (negsuc 1) (pos 0) (pos 0)))
    ∷ (at (pos 2) (pos 1) (pos 1), X, Ok (at (pos 1) (pos 1) (pos 1)))
    ∷ (at (pos 1073741823) (pos 1073741823) (negsuc 1073741823), Z, Ok (at (pos 1073741823) (pos 1073741823) (negsuc 1073741824)))
    ∷ []
unfolding parent_of parity_of is_lattice_point
worked-parents = refl

-- the count of odd halves gives the same parents; all these points are even
pub worked-counts : (map parity_of worked_cells ≡ replicate 7 (Ok Even)) × (map (λ c. Ok (counted_parent (divided_by_two c))) worked_cells ≡ map parent_of worked_cells)
unfolding parent_of parity_of is_lattice_point
worked-counts = (refl, refl)

-- the rule is for even points alone: of (-3, 1, -1) it would make (-2, 0, -2)
pub odd-kept : (parent_of (at (negsuc 2) (pos 1) (negsuc 0)) ≡ Ok (at (negsuc 1) (pos 0) (pos 0)))
    × (even_parent (halves (at (negsuc 2) (pos 1) (negsuc 0))) ≡ at (negsuc 1) (pos 0) (negsuc 1))
unfolding parent_of parity_of is_lattice_point
odd-kept = (refl, refl)
