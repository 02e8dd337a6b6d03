-- "CoordOverflow when a difference leaves i32. Manhattan: also when the sum passes 2147483647." `manhattan_of` leaves the first test out: a difference that leaves i32 makes the sum pass
-- 2147483647, so both tests together refuse where the second alone does.
use Rattle.std.specs.Prelude.{Result, Ok, Err}
use Rattle.lattice.specs.declared.Parity.{Parity}
use Rattle.refusal.specs.declared.Refusal.{Refusal}
use mathlib.Core.Path.{◌≡◌, refl, sym, ◌∙◌}
use mathlib.Core.Bool.{Bool, true, false, cond, false≢true}
use Prim.Native.Nat.{◌<◌, ◌≤◌}
use native.Mathlib.Omega.{arith}
use lib.Dec.{leb}
use lib.IntN.{ℤ, pos, negsuc, nat_abs, ◌-ℤ◌}
use borrow.Author.Tests.{leb-true, leb-false, le-leb}
use Rattle.refusal.specs.declared.Coord.{Coord}
use Rattle.refusal.specs.declared.Refusal.TheVariants.{CoordOverflow}
use Rattle.lattice.specs.Lattice.{parity_of, within, manhattan, manhattan_of}
use Rattle.lattice.proofs.Split.{manhattan_by}
use Rattle.distance.specs.Distance.{differences_fit}
use Rattle.distance.specs.Terms.{both_by, both_tests}

-- a number that is no further from zero than this is in i32
near_within : (z : ℤ) → nat_abs z ≤ 2147483647 → within (negsuc 2147483647) (pos 2147483647) z ≡ true
near_within (pos n) h = le-leb n 2147483647 h
near_within (negsuc n) h = rw (le-leb n 2147483647 (omega arith))

sum_fits : (a b : Coord) → manhattan a b ≤ 2147483647 → differences_fit a b ≡ true
unfolding manhattan differences_fit
sum_fits a b h =
    rw (near_within (a.x -ℤ b.x) (omega arith), near_within (a.y -ℤ b.y) (omega arith), near_within (a.z -ℤ b.z) (omega arith))

-- where a difference leaves i32, the sum passes 2147483647
pub sum-passes : (a b : Coord) → differences_fit a b ≡ false → 2147483647 < manhattan a b
sum-passes a b e = go (leb (manhattan a b) 2147483647) refl
  where
    go : (t : Bool) → leb (manhattan a b) 2147483647 ≡ t → 2147483647 < manhattan a b
    go true f = absurd (false≢true (sym e ∙ sum_fits a b (leb-true (manhattan a b) 2147483647 f)))
    go false f = leb-false (manhattan a b) 2147483647 f

-- a test of the differences before that of the sum changes nothing
pub sum-decides : {A : Type 0} (a b : Coord) (x y : A) → cond (differences_fit a b) (cond (leb (manhattan a b) 2147483647) x y) y ≡ cond (leb (manhattan a b) 2147483647) x y
sum-decides a b x y = go (leb (manhattan a b) 2147483647) (differences_fit a b) refl refl
  where
    go : (t d : Bool) → leb (manhattan a b) 2147483647 ≡ t → differences_fit a b ≡ d → cond d (cond t x y) y ≡ cond t x y
    go t true f g = refl
    go false false f g = refl
    go true false f g = absurd (false≢true (sym g ∙ sum_fits a b (leb-true (manhattan a b) 2147483647 f)))

-- the definition of the calls is that
pub both-tests : (a b : Coord) → both_tests a b ≡ manhattan_of a b
unfolding manhattan_of
both-tests a b = by-parity (parity_of a) (parity_of b)
  where
    by-parity : (p q : Result Parity Refusal) → both_by p q (differences_fit a b) (manhattan a b) ≡ manhattan_by p q (manhattan a b)
    by-parity (Err r) q = refl
    by-parity (Ok p) (Err r) = refl
    by-parity (Ok p) (Ok q) = sum-decides a b (Ok (pos (manhattan a b))) (Err CoordOverflow)
