-- Lemmas that sums, doubles and halves of coordinates stay among those that 32 bits hold.
use mathlib.Core.Path.{◌≡◌}
use mathlib.Core.Bool.{Bool, true, false, not, cond, ◌&&◌, beq}
use Prim.Native.Nat.{ℕ, ◌+◌, ◌^◌, ◌<◌}
use native.Mathlib.Omega.{arith}
use lib.Dec.{leb}
use lib.IntN.{ℤ, pos, negsuc, nat_abs, ◌+ℤ◌}
use mir.Syntax.{w32}
use mir.Val.{SFits}
use borrow.Author.Tests.{leb-true}
use Rattle.refusal.specs.declared.Coord.{Coord}
use Rattle.lattice.specs.declared.Parity.{Parity}
use Rattle.lattice.specs.declared.Parity.TheVariants.{Even, Odd}
use Rattle.lattice.specs.Lattice.{Fitting, is_odd, moved, doubled, within, has_neighbor_room, has_child_room, half, alone, halves}
use Rattle.general.proofs.Tests.{both, three}
use Rattle.lattice.proofs.SignsLaws.{mag-add, rise, fall, within-mag, double-mag, mag-half}
use Rattle.lattice.proofs.Odds.{parent-from, parent-of-halves}

-- ---- neighbours

step_fits : (z s : ℤ) → within (negsuc 2147483645) (pos 2147483645) z ≡ true → leb (nat_abs s) 2 ≡ true → SFits w32 (z +ℤ s)
step_fits z s e f = record { sfits = omega (arith, mag-add z s, within-mag 2147483645 z e, leb-true (nat_abs s) 2 f) }

-- no coordinate of the step is more than two
abbrev pub short : Coord → Bool
short s = leb (nat_abs s.x) 2 && (leb (nat_abs s.y) 2 && leb (nat_abs s.z) 2)

pub moved-fits : (c s : Coord) → has_neighbor_room c ≡ true → short s ≡ true → Fitting (moved c s)
unfolding has_neighbor_room
moved-fits c s e f =
    let roomy = within (negsuc 2147483645) (pos 2147483645) in
    let r = three (roomy c.x) (roomy c.y) (roomy c.z) e in
    let g = three (leb (nat_abs s.x) 2) (leb (nat_abs s.y) 2) (leb (nat_abs s.z) 2) f in
    record { in-x = step_fits c.x s.x r.0 g.0; in-y = step_fits c.y s.y r.1 g.1; in-z = step_fits c.z s.z r.2 g.2 }

-- ---- children

-- up by two at most, and down by this
abbrev gentle : ℕ → ℤ → Bool
gentle down s = leb (rise s) 2 && leb (fall s) down

double-fits : (low down : ℕ) (z s : ℤ) → within (negsuc low) (pos 1073741822) z ≡ true → gentle down s ≡ true → low + low + 1 + down < 2 ^ 31 → SFits w32 (z +ℤ z +ℤ s)
double-fits low down z s e f l =
    let g = both (leb (rise s) 2) (leb (fall s) down) f in
    record { sfits = double-mag low 1073741822 2 down (2 ^ 31) z s e (leb-true (rise s) 2 g.0) (leb-true (fall s) down g.1) (omega arith) l (omega arith) (omega arith) }

-- never down on the first axis, and by one at most on the others
abbrev pub childlike : Coord → Bool
childlike s = gentle 0 s.x && (gentle 1 s.y && gentle 1 s.z)

pub doubled_fits : (c s : Coord) → has_child_room c ≡ true → childlike s ≡ true → Fitting (moved (doubled c) s)
unfolding has_child_room
doubled_fits c s e f =
    let high = pos 1073741822 in
    let r = three (within (negsuc 1073741823) high c.x) (within (negsuc 1073741822) high c.y) (within (negsuc 1073741822) high c.z) e in
    let g = three (gentle 0 s.x) (gentle 1 s.y) (gentle 1 s.z) f in
    record {
      in-x = double-fits 1073741823 0 c.x s.x r.0 g.0 (omega arith);
      in-y = double-fits 1073741822 1 c.y s.y r.1 g.1 (omega arith);
      in-z = double-fits 1073741822 1 c.z s.z r.2 g.2 (omega arith);
    }

-- ---- the parent

-- a half and a step of one
stepped-fits : (s : ℤ) → nat_abs s < 2 → (t : Bool) (z : ℤ) → SFits w32 z → SFits w32 (cond t (half z +ℤ s) (half z))
stepped-fits s h true z f = record { sfits = omega (arith, mag-half z, mag-add (half z) s) }
stepped-fits s h false z f = record { sfits = omega (arith, mag-half z) }

from-fits : (p : Parity) (a b d : Bool) (c : Coord) → Fitting c → Fitting (parent-from p a b d (halves c))
from-fits Even a b d c f =
    let lower = stepped-fits (negsuc 0) (omega arith) in
    record { in-x = lower (alone a b d) c.x f.in-x; in-y = lower (alone b a d) c.y f.in-y; in-z = lower (alone d a b) c.z f.in-z }
from-fits Odd a b d c f =
    let raise = stepped-fits (pos 1) (omega arith) in
    record { in-x = raise false c.x f.in-x; in-y = raise (not (beq a b)) c.y f.in-y; in-z = raise (not (beq a d)) c.z f.in-z }

pub halves-fit : (p : Parity) (c : Coord) → Fitting c → Fitting (parent-of-halves p (halves c))
halves-fit p c f = from-fits p (is_odd (half c.x)) (is_odd (half c.y)) (is_odd (half c.z)) c f
