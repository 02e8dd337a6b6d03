-- What it is to be a point's one parent, which `one_parent` of proofs/Theorems.antt shows, and the parent of an even point as lattice.rs takes it, which
-- `count-of-odd-halves` shows to be the same. Definitions only.
use Rattle.std.specs.Prelude.{Bool, true, not, cond, ◌||◌, ◌≡◌, ℕ, ◌+◌, eqb, pos, ◌-ℤ◌, Ok}
use mathlib.Core.List.{Memᴰ}
use Rattle.std.specs.Int.Signed.{quot_z}
use Rattle.refusal.specs.declared.Coord.{Coord}
use Rattle.lattice.specs.Lattice.{at, is_odd, is_lattice_point, child_places, parent_of}

-- p is the one parent of c: it is the one told, a lattice point with c among its child places, and no other lattice point has c there
pub record OnlyParent (c p : Coord) : Type 0 where
  pub told : parent_of c ≡ Ok p
  pub point : is_lattice_point p ≡ true
  pub child : Memᴰ c (child_places p)
  pub only : (q : Coord) → is_lattice_point q ≡ true → Memᴰ c (child_places q) → q ≡ p

-- ---- the arm `Parity::Even` of `get_parent`: oracle/octaindex3d/lattice.rs, lines 226 to 246

-- line 230: each coordinate divided by 2, towards zero
abbrev pub divided_by_two : Coord → Coord
divided_by_two c = at (quot_z c.x (pos 2)) (quot_z c.y (pos 2)) (quot_z c.z (pos 2))

-- a truth as a number: `odd[0] as i32` of line 237, and what `count` adds up in line 232
abbrev pub as_number : Bool → ℕ
as_number t = cond t 1 0

-- lines 238 and 243: the three truths, as numbers, taken off
abbrev pub less_truths : Bool → Bool → Bool → Coord → Coord
less_truths a b d q = at (q.x -ℤ pos (as_number a)) (q.y -ℤ pos (as_number b)) (q.z -ℤ pos (as_number d))

-- lines 233 to 245: with 0 or 3 odd halves the halves, with 1 one off the odd axis, else one off the even axis
abbrev pub by_odd_count : ℕ → Bool → Bool → Bool → Coord → Coord
by_odd_count n a b d q = cond (eqb n 0 || eqb n 3) q (cond (eqb n 1) (less_truths a b d q) (less_truths (not a) (not b) (not d) q))

-- lines 231 to 245: from the halves, by how many of them are odd
abbrev pub counted_parent : Coord → Coord
counted_parent q =
    let a = is_odd q.x in
    let b = is_odd q.y in
    let d = is_odd q.z in
    by_odd_count (as_number a + as_number b + as_number d) a b d q
