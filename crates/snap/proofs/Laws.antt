-- What snap answers is a lattice point, and its coordinates are from -2147483647 to 2147483647.
use Rattle.std.specs.Prelude.{Ok}
use mathlib.Core.Path.{◌≡◌, refl, sym, ap, subst, ◌∙◌}
use mathlib.Core.Bool.{Bool, true, false, cond, ◌&&◌, beq}
use Prim.Native.Nat.{ℕ, ◌≤◌}
use native.Mathlib.Omega.{arith}
use lib.Dec.{lit≤}
use lib.IntN.{ℤ, pos, negsuc, ◌+ℤ◌, +ℤ_idr}
use lib.Ieee.{Float, binary64, div, sub, le}
use borrow.Author.Tests.{le-leb}
use Rattle.refusal.specs.declared.Coord.{Coord}
use Rattle.lattice.specs.Lattice.{is_odd, is_lattice_point}
use Rattle.lattice.proofs.SignsLaws.{odd-double}
use Rattle.float.specs.Round.{whole_away}
use Rattle.snap.specs.declared.Point.{Point}
use Rattle.snap.specs.Snap.{in_range, float_one, float_two, scaled, all_in_range, even_near, odd_near, even_point, odd_point, squares_off, nearer, snap_in, snap_of}
use Rattle.snap.proofs.Ranges.{Range, even-range, odd-range, all-within}
use Rattle.snap.specs.Terms.{bounded, Bounded}

-- ---- what an answer is

record Answered (p : Point) (resolution : ℕ) (c : Coord) : Type 0 where
  in-range : all_in_range (scaled p resolution) ≡ true
  is : nearer (scaled p resolution) ≡ c

answered : (p : Point) (resolution : ℕ) (c : Coord) → snap_of p resolution ≡ Ok c → Answered p resolution c
unfolding snap_of
answered p resolution c e = go (all_in_range s) refl e
  where
    s : Point
    s = scaled p resolution

    go : (b : Bool) → all_in_range s ≡ b → snap_in b s ≡ Ok c → Answered p resolution c
    go true a e = record { in-range = a; is = cc }
    go false a e = record { in-range = cc; is = cc }

-- a fact of both candidates is one of the nearer
of-nearer : (P : Coord → Type 0) (p : Point) → P (even_point p) → P (odd_point p) → P (nearer p)
unfolding nearer
of-nearer P p even odd = go (le (squares_off (even_point p) p) (squares_off (odd_point p) p))
  where
    go : (b : Bool) → P (cond b (even_point p) (odd_point p))
    go true = even
    go false = odd

-- ---- the answer is a lattice point

even-near : (v : Float) → is_odd (even_near v) ≡ false
unfolding even_near
even-near v = let n = whole_away (div binary64 v float_two) in ap is_odd (sym (+ℤ_idr (n +ℤ n))) ∙ odd-double n (pos 0)

odd-near : (v : Float) → is_odd (odd_near v) ≡ true
unfolding odd_near
odd-near v = odd-double (whole_away (div binary64 (sub binary64 v float_one) float_two)) (pos 1)

even-valid : (p : Point) → is_lattice_point (even_point p) ≡ true
unfolding is_lattice_point
even-valid p = (λ i. beq (even-near p.x i) (even-near p.y i) && beq (even-near p.y i) (even-near p.z i))

odd-valid : (p : Point) → is_lattice_point (odd_point p) ≡ true
unfolding is_lattice_point
odd-valid p = (λ i. beq (odd-near p.x i) (odd-near p.y i) && beq (odd-near p.y i) (odd-near p.z i))

-- snap answers with a lattice point
pub snap-is-point : (p : Point) (resolution : ℕ) (c : Coord) → snap_of p resolution ≡ Ok c → is_lattice_point c ≡ true
snap-is-point p resolution c e =
    let s = scaled p resolution in
    subst (λ (d : Coord). is_lattice_point d ≡ true) (answered p resolution c e).is
    (of-nearer (λ (d : Coord). is_lattice_point d ≡ true) s (even-valid s) (odd-valid s))

-- ---- its coordinates

range-bounded : (low high : ℕ) → low ≤ 2147483647 → high ≤ 2147483647 → (n : ℤ) → Range low high n → bounded n ≡ true
range-bounded low high l k (pos n) h = le-leb n 2147483647 (omega arith)
range-bounded low high l k (negsuc n) h = ap (λ (b : Bool). b && true) (le-leb n 2147483646 (omega arith))

even-bounded : (v : Float) → in_range v ≡ true → bounded (even_near v) ≡ true
even-bounded v h = range-bounded 2147483646 2147483646 (lit≤ tt) (lit≤ tt) (even_near v) (even-range v h)

odd-bounded : (v : Float) → in_range v ≡ true → bounded (odd_near v) ≡ true
odd-bounded v h = range-bounded 2147483647 2147483647 (lit≤ tt) (lit≤ tt) (odd_near v) (odd-range v h)

-- snap answers with coordinates from -2147483647 to 2147483647
pub snap-fits : (p : Point) (resolution : ℕ) (c : Coord) → snap_of p resolution ≡ Ok c → Bounded c
snap-fits p resolution c e =
    let s = scaled p resolution in
    let a = answered p resolution c e in
    let w = all-within s a.in-range in
    subst Bounded a.is
    (of-nearer Bounded s
    (record { in-x = even-bounded s.x w.in-x; in-y = even-bounded s.y w.in-y; in-z = even-bounded s.z w.in-z })
    (record { in-x = odd-bounded s.x w.in-x; in-y = odd-bounded s.y w.in-y; in-z = odd-bounded s.z w.in-z }))
