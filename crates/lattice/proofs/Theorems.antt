-- What is shown in this crate beside the contracts of src/: the theorems that docs/PROMISES.md names, in words of specs/. The law behind each is the one that its proof names.
use Rattle.std.specs.Prelude.{List, Ok}
use mathlib.Core.List.{Memᴰ}
use mathlib.Core.Path.{◌≡◌}
use mathlib.Core.Bool.{true, false}
use borrow.Fn.Kinds.{Dens, res_t, ended_of}
use contract.Lifetimes.{Lfts}
use denote.Triple.Clauses.{AtExit}
use Rattle.refusal.specs.declared.Coord.{Coord}
use Rattle.lattice.proofs.get_children.Kinds as get-children-kinds
use Rattle.lattice.proofs.get_children.Reads as get-children
use Rattle.lattice.proofs.get_parent.Kinds as get-parent-kinds
use Rattle.lattice.proofs.get_parent.Reads as get-parent
use Rattle.lattice.specs.Lattice.{neighbor_places, is_lattice_point, child_places, even_parent, parent_of, parity_of, manhattan}
use Rattle.lattice.specs.Middle.{middle}
use Rattle.lattice.specs.Terms.{OnlyParent, divided_by_two, counted_parent}
use Rattle.lattice.specs.declared.Parity.{Parity}
use Rattle.lattice.specs.declared.Parity.TheVariants.{Even}
use Rattle.lattice.proofs as laws

-- A place is a neighbour of each of its neighbours.
pub neighbor-symmetric : (c d : Coord) → Memᴰ d (neighbor_places c) → Memᴰ c (neighbor_places d)
neighbor-symmetric = laws.Laws.neighbor-symmetric

-- Each neighbour of a lattice point is a lattice point.
pub neighbors-are-points : (c d : Coord) → is_lattice_point c ≡ true → Memᴰ d (neighbor_places c) → is_lattice_point d ≡ true
neighbors-are-points = laws.Laws.neighbors-are-points

-- Each of the eight child places of a place is a lattice point, whether the place is one or not.
pub children-are-points : (c d : Coord) → Memᴰ d (child_places c) → is_lattice_point d ≡ true
children-are-points = laws.Laws.children-are-points

-- The parent of each child of a lattice point is that point.
pub child-parent : (c d : Coord) → is_lattice_point c ≡ true → Memᴰ d (child_places c) → parent_of d ≡ Ok c
child-parent = laws.Laws.child-parent

-- A parent that is answered is a lattice point.
pub parent-is-point : (c p : Coord) → parent_of c ≡ Ok p → is_lattice_point p ≡ true
parent-is-point = laws.Laws.parent-is-point

-- The middle of two points of one parity at Manhattan distance 2 is no lattice point.
pub between-is-mixed :
    (a b : Coord) (p : Parity) → parity_of a ≡ Ok p → parity_of b ≡ Ok p → manhattan a b ≡ 2 → is_lattice_point (middle a b) ≡ false
between-is-mixed = laws.Laws.between-is-mixed

-- Every point that has a parent is one of the eight child places of that parent.
pub parent-child : (c p : Coord) → parent_of c ≡ Ok p → Memᴰ c (child_places p)
parent-child = laws.OneParent.parent-child

-- Every lattice point has exactly one parent: the one that `parent_of` tells has it among its child places, and no other lattice point does.
pub one_parent : (c : Coord) → is_lattice_point c ≡ true → (p : Coord) × OnlyParent c p
one_parent = laws.OneParent.one_parent

-- Where `get_parent` answers a point with its parent, and `get_children` answers that parent with its eight children, the point is among them: said over the two calls' own contracts.
pub told-among-children :
    (κs : Lfts 0) (a : Dens κs get-parent-kinds.ps) (z : (res_t get-parent-kinds.r κs).Denot)
    (e : AtExit (ended_of 0 get-parent-kinds.ps get-parent-kinds.r) κs) (b : Dens κs get-children-kinds.ps) (y : (res_t get-children-kinds.r κs).Denot)
    (f : AtExit (ended_of 0 get-children-kinds.ps get-children-kinds.r) κs) (l : List Coord) → get-parent.Post κs a z e → get-children.Post κs b y f
    → z ≡ Ok b.0 → y ≡ Ok l → Memᴰ a.0 l
told-among-children = laws.OneParent.told-among-children

-- The match on the count of odd halves, lines 231 to 245 of oracle/octaindex3d/lattice.rs, gives the same point as the axis whose parity differs, for every three halves.
pub count-of-odd-halves : (q : Coord) → counted_parent q ≡ even_parent q
count-of-odd-halves = laws.OddCount.count-of-odd-halves

-- So what `get_parent` tells of an even point is what the arm `Parity::Even` of lattice.rs, lines 226 to 246, makes of it: said over the call's own contract.
pub told-by-odd-count :
    (κs : Lfts 0) (a : Dens κs get-parent-kinds.ps) (z : (res_t get-parent-kinds.r κs).Denot)
    (e : AtExit (ended_of 0 get-parent-kinds.ps get-parent-kinds.r) κs)
    → get-parent.Post κs a z e → parity_of a.0 ≡ Ok Even → z ≡ Ok (counted_parent (divided_by_two a.0))
told-by-odd-count = laws.OddCount.told-by-odd-count
