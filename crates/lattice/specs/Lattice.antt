-- "Cell and lattice" of the scope document, as far as it speaks of coordinates, with the tables and the parent of lattice.rs. A coordinate is an integer; that
-- every sum here fits 32 bits is what the ranges say. Each call that takes a point begins with its parity, as LatticeCoord::new does. Definitions only.
use Rattle.std.specs.Prelude.{Bool, not, cond, ◌&&◌, List, [], ◌∷◌, map, ℕ, ◌+◌, ◌%◌, eqb, leb, ℤ, pos, negsuc, nat_abs, ◌+ℤ◌, ◌-ℤ◌, Result, Ok, Err}
use Rattle.std.specs.Bool.{beq}
use Rattle.std.specs.Int.Signed.{le_z, shr_z}
use Rattle.std.specs.Int.{w32}
use Rattle.std.proofs.Common.{SFits}
use Rattle.refusal.specs.declared.Coord.{Coord}
use Rattle.refusal.specs.declared.Refusal.{Refusal}
use Rattle.refusal.specs.declared.Refusal.TheVariants.{InvalidParity, CoordOverflow}
use Rattle.lattice.specs.declared.Parity.{Parity}
use Rattle.lattice.specs.declared.Parity.TheVariants.{Even, Odd}
use Rattle.lattice.specs.declared.Axis.{Axis}
use Rattle.lattice.specs.declared.Axis.TheVariants.{X, Y, Z, Neither}
use Rattle.general.specs.Refuse.{refuse_unless}

-- the place with these coordinates
abbrev pub at : ℤ → ℤ → ℤ → Coord
at x y z = record { x = x; y = y; z = z }

-- each coordinate fits 32 bits
pub record Fitting (c : Coord) : Type 0 where
  pub in-x : SFits w32 c.x
  pub in-y : SFits w32 c.y
  pub in-z : SFits w32 c.z

-- ---- parity

-- odd: the distance from zero leaves 1 at a division by 2
abbrev pub is_odd : ℤ → Bool
is_odd z = eqb (nat_abs z % 2) 1

-- the coordinates are all even or all odd
unfoldable pub is_lattice_point : Coord → Bool
is_lattice_point c = beq (is_odd c.x) (is_odd c.y) && beq (is_odd c.y) (is_odd c.z)

-- their parity, or refusal 1 with the coordinates
unfoldable pub parity_of : Coord → Result Parity Refusal
unfolding is_lattice_point
parity_of c = refuse_unless (is_lattice_point c) (Err (InvalidParity c)) (Ok (cond (is_odd c.x) Odd Even))

-- what is said of a point by its parity, or of the refusal of it
abbrev pub on_parity : {A : Type 0} → (Refusal → A) → (Parity → A) → Result Parity Refusal → A
on_parity refused f (Err r) = refused r
on_parity refused f (Ok p) = f p

-- the same of two points: the first is tested first
abbrev pub on_parities : {A : Type 0} → (Refusal → A) → (Parity → Parity → A) → Result Parity Refusal → Result Parity Refusal → A
on_parities refused f p q = on_parity refused (λ a. on_parity refused (f a) q) p

-- the other parity
abbrev pub opposite_of : Parity → Parity
opposite_of Even = Odd
opposite_of Odd = Even

-- ---- neighbours

-- BCC_NEIGHBORS_14: the eight that change the parity, then the six that keep it
unfoldable pub neighbor_steps : List Coord
neighbor_steps =
    let p = pos 1 in
    let n = negsuc 0 in
    let o = pos 0 in
    at p p p ∷ at p p n ∷ at p n p ∷ at p n n ∷ at n p p ∷ at n p n ∷ at n n p ∷ at n n n
    ∷ at (pos 2) o o ∷ at (negsuc 1) o o ∷ at o (pos 2) o ∷ at o (negsuc 1) o ∷ at o o (pos 2) ∷ at o o (negsuc 1) ∷ []

-- a place moved by a step, axis by axis
abbrev pub moved : Coord → Coord → Coord
moved c d = at (c.x +ℤ d.x) (c.y +ℤ d.y) (c.z +ℤ d.z)

-- the 14 places around a place, in the order of the steps
unfoldable pub neighbor_places : Coord → List Coord
unfolding neighbor_steps
neighbor_places c = map (moved c) neighbor_steps

-- from low to high, both ends counted
abbrev pub within : ℤ → ℤ → ℤ → Bool
within low high z = le_z low z && le_z z high

-- the greatest number of 32 bits with a sign
abbrev pub most_number : ℕ
most_number = 2147483647

-- whether an integer is a number of 32 bits: the least is one further from 0 than the greatest
abbrev pub fits32 : ℤ → Bool
fits32 = within (negsuc most_number) (pos most_number)

-- "each coordinate is in -2147483646..=2147483645"
unfoldable pub has_neighbor_room : Coord → Bool
has_neighbor_room c =
    let roomy = within (negsuc 2147483645) (pos 2147483645) in
    roomy c.x && (roomy c.y && roomy c.z)

-- "Parity first, then CoordOverflow": an answer about a point, where there is room for it
abbrev pub spread : {A : Type 0} → (Refusal → A) → Coord → Bool → A → A
spread refused c room answer = on_parity refused (λ p. refuse_unless room (refused CoordOverflow) answer) (parity_of c)

-- the 14 neighbours: "Parity first, then CoordOverflow"
unfoldable pub neighbors_of : Coord → Result (List Coord) Refusal
unfolding parity_of has_neighbor_room neighbor_places
neighbors_of c = spread Err c (has_neighbor_room c) (Ok (neighbor_places c))

-- ---- children

-- CHILD_OFFSETS: twice the parent itself, the three positive steps along an axis, and the four diagonals with positive x
unfoldable pub child_steps : List Coord
child_steps =
    let p = pos 1 in
    let n = negsuc 0 in
    let o = pos 0 in
    at o o o ∷ at (pos 2) o o ∷ at o (pos 2) o ∷ at o o (pos 2) ∷ at p p p ∷ at p p n ∷ at p n p ∷ at p n n ∷ []

-- the same place one resolution finer: each coordinate doubled
abbrev pub doubled : Coord → Coord
doubled c = moved c c

-- the places of the eight children, in the order of the steps
unfoldable pub child_places : Coord → List Coord
unfolding child_steps
child_places c = map (moved (doubled c)) child_steps

-- "x is in -1073741824..=1073741822 and y, z in -1073741823..=1073741822"
unfoldable pub has_child_room : Coord → Bool
has_child_room c =
    let high = pos 1073741822 in
    within (negsuc 1073741823) high c.x && (within (negsuc 1073741822) high c.y && within (negsuc 1073741822) high c.z)

-- the eight children: parity, then CoordOverflow
unfoldable pub children_of : Coord → Result (List Coord) Refusal
unfolding parity_of has_child_room child_places
children_of c = spread Err c (has_child_room c) (Ok (child_places c))

-- ---- parent

-- half of a coordinate, rounded down: -3 to -2 (`shr_z z 2` is the division by 2)
abbrev pub half : ℤ → ℤ
half z = shr_z z 2

-- one more where the test holds
abbrev pub raised : Bool → ℤ → ℤ
raised b z = cond b (z +ℤ pos 1) z

-- the first parity stands alone against the other two
abbrev pub alone : Bool → Bool → Bool → Bool
alone a b d = not (beq a b) && beq b d

-- the axis whose parity differs from the other two, by the parities of x, y and z
abbrev pub differing_axis : Bool → Bool → Bool → Axis
differing_axis a b d = cond (alone a b d) X (cond (alone b a d) Y (cond (alone d a b) Z Neither))

-- one taken off that axis; the place itself where there is none
abbrev pub take_one_off : Axis → Coord → Coord
take_one_off X c = at (c.x -ℤ pos 1) c.y c.z
take_one_off Y c = at c.x (c.y -ℤ pos 1) c.z
take_one_off Z c = at c.x c.y (c.z -ℤ pos 1)
take_one_off Neither c = c

-- of an even point: each coordinate halved, and one taken off the axis whose parity differs from the other two; if none differs the halves are kept
abbrev pub even_parent : Coord → Coord
even_parent q = take_one_off (differing_axis (is_odd q.x) (is_odd q.y) (is_odd q.z)) q

-- of an odd point: each halved, and y and z raised by one where their half has another parity than that of x
abbrev pub odd_parent : Coord → Coord
odd_parent q =
    let a = is_odd q.x in
    at q.x (raised (not (beq a (is_odd q.y))) q.y) (raised (not (beq a (is_odd q.z))) q.z)

-- each coordinate halved
abbrev pub halves : Coord → Coord
halves c = at (half c.x) (half c.y) (half c.z)

-- the parent's point of a point of each parity, by its halves
abbrev pub parent_as : Parity → Coord → Coord
parent_as Even q = even_parent q
parent_as Odd q = odd_parent q

-- the one lattice point whose child it is: `one_parent` of proofs/Theorems.antt
unfoldable pub parent_of : Coord → Result Coord Refusal
unfolding parity_of
parent_of c = on_parity Err (λ p. Ok (parent_as p (halves c))) (parity_of c)

-- ---- Manhattan distance

-- how far apart two coordinates are on one axis
abbrev pub apart : ℤ → ℤ → ℕ
apart a b = nat_abs (a -ℤ b)

-- the Manhattan distance of two places: how far apart they are on the three axes, added
unfoldable pub manhattan : Coord → Coord → ℕ
manhattan a b = apart a.x b.x + apart a.y b.y + apart a.z b.z

-- "parity of the first, of the second; CoordOverflow when a difference leaves i32 [...] also when the sum passes 2147483647": a difference that leaves i32 is itself above 2147483647,
-- so the sum decides: `both-tests` of distance/proofs/Theorems.antt
unfoldable pub manhattan_of : Coord → Coord → Result ℤ Refusal
unfolding parity_of manhattan
manhattan_of a b =
    on_parities Err (λ p q. refuse_unless (leb (manhattan a b) most_number) (Err CoordOverflow) (Ok (pos (manhattan a b)))) (parity_of a) (parity_of b)
