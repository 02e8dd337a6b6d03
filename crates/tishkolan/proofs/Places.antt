-- Places as the code reads and stores them.
use Rattle.std.specs.Prelude.{Result, Ok, Err}
use Rattle.lattice.specs.declared.Parity.{Parity}
use Rattle.refusal.specs.declared.Refusal.{Refusal}
use mathlib.Core.Path.{◌≡◌, sym, ap}
use mathlib.Core.Bool.{Bool, true, false}
use mathlib.Core.List.{List}
use Prim.Native.Nat.{ℕ, suc, ◌+◌}
use native.Mathlib.Omega.{arith}
use lib.IntN.{ℤ}
use lib.ListN.{length, set}
use lib.Seq.{sets}
use mir.Syntax.{w32}
use mir.Val.{SFits, of_z, to_z}
use mir.Facts.{to_z-of_z}
use Rattle.refusal.specs.declared.Coord.{Coord}
use Rattle.lattice.specs.Lattice.{at, parity_of, child_steps, child_places, has_child_room, children_of}
use Rattle.lattice.proofs.Split.{children_in, children_by}
use Rattle.general.proofs.Results.{ok-path, err-is-no-ok}
use Rattle.face.specs.Points.{triple}

-- a place is that of its coordinates' bits
pub kept-place : {x y z : ℤ} → SFits w32 x → SFits w32 y → SFits w32 z → at (to_z w32 (of_z w32 x)) (to_z w32 (of_z w32 y)) (to_z w32 (of_z w32 z)) ≡ at x y z
kept-place f g h = λ i. at (to_z-of_z f i) (to_z-of_z g i) (to_z-of_z h i)

-- a run of stores of its coordinates, store by store
pub sets-three : (l : List ℤ) (p : ℕ) (c : Coord) → sets l p (triple c) ≡ set (set (set l p c.x) (p + 1) c.y) (p + 2) c.z
sets-three l p c =
    let one : p + 1 ≡ suc p = omega arith in
    let two : p + 2 ≡ suc (suc p) = omega arith in
    rw (one, two)

-- ---- how many children there are, where they are answered

pub children-long : (c : Coord) (l : List Coord) → children_of c ≡ Ok l → length l ≡ 8
unfolding children_of child_places child_steps
children-long c l e = by-parity (parity_of c) e
  where
    by-room : (room : Bool) → children_in room c ≡ Ok l → length l ≡ 8
    by-room true f = ap length (sym (ok-path f))
    by-room false f = absurd (err-is-no-ok f)

    by-parity : (a : Result Parity Refusal) → children_by a c ≡ Ok l → length l ≡ 8
    by-parity (Err r) f = absurd (err-is-no-ok f)
    by-parity (Ok p) f = by-room (has_child_room c) f
