-- A point with a NaN is refused: the NaN times the scale is a NaN, which is in no range.
use Rattle.std.specs.Prelude.{Err}
use mathlib.Core.Path.{◌≡◌, sym, ap, ◌∙◌}
use mathlib.Core.Bool.{Bool, true, false, ◌&&◌, and-false}
use Prim.Native.Nat.{ℕ}
use lib.IntN.{pos}
use lib.Ieee.{Float, fin, binary64, mul, le, of_bits, nan_bits}
use Rattle.float.proofs.Laws.{nan-value}
use Rattle.refusal.specs.declared.Refusal.TheVariants.{OutOfRange}
use Rattle.snap.specs.declared.Point.{Point}
use Rattle.snap.specs.Snap.{point, scaled, in_range, all_in_range, snap_in, snap_of}

refused : (p : Point) (resolution : ℕ) → all_in_range (scaled p resolution) ≡ false → Err OutOfRange ≡ snap_of p resolution
unfolding snap_of
refused p resolution e = ap (λ (b : Bool). snap_in b (scaled p resolution)) (sym e)

module _ (x y z resolution : ℕ) where
  abbrev there : Point
  there = point (of_bits binary64 x) (of_bits binary64 y) (of_bits binary64 z)

  abbrev passes : Float → Bool
  passes v = in_range (mul binary64 v (fin false 1 (pos resolution)))

  pub nan_x : nan_bits binary64 x ≡ true → Err OutOfRange ≡ snap_of there resolution
  unfolding scaled all_in_range mul le
  nan_x e = refused there resolution (ap (λ (v : Float). passes v && (passes there.y && passes there.z)) (nan-value x e))

  pub nan_y : nan_bits binary64 y ≡ true → Err OutOfRange ≡ snap_of there resolution
  unfolding scaled all_in_range mul le
  nan_y e = refused there resolution (ap (λ (v : Float). passes there.x && (passes v && passes there.z)) (nan-value y e) ∙ and-false (passes there.x))

  pub nan_z : nan_bits binary64 z ≡ true → Err OutOfRange ≡ snap_of there resolution
  unfolding scaled all_in_range mul le
  nan_z e =
      refused there resolution
      (ap (λ (v : Float). passes there.x && (passes there.y && passes v)) (nan-value z e)
      ∙ ap (λ (b : Bool). passes there.x && b) (and-false (passes there.y))
      ∙ and-false (passes there.x))
