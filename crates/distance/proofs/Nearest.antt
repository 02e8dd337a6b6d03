-- Demand 2 of distances, in one sentence: `distance-nearest`. A distance that is answered is the f64 nearest to the true square root of `squared_distance`, the sum of the squares rounded
-- in source order; where that is 0, it is +0.
use Rattle.std.specs.Prelude.{Result, Ok, Err}
use Rattle.refusal.specs.declared.Refusal.{Refusal}
use mathlib.Core.Path.{◌≡◌, refl, sym, ◌∙◌, subst}
use mathlib.Core.Bool.{Bool, true, false}
use Prim.Native.Nat.{ℕ, zero, suc, ◌+◌, ◌*◌, ◌≤◌, ◌<◌}
use native.Mathlib.Nat.{mul-pos}
use native.Mathlib.Omega.{arith}
use lib.IntN.{pos}
use lib.Ieee.{Float, fin, fits}
use lib.Ieee.Exact.{HasValue}
use lib.Ieee.Positive.{num, den, own_value}
use Rattle.refusal.specs.declared.Coord.{Coord}
use Rattle.lattice.specs.declared.Parity.{Parity}
use Rattle.lattice.specs.Lattice.{parity_of}
use Rattle.root.specs.Root.{root_whole}
use Rattle.root.proofs.Answers.{answers}
use Rattle.root.specs.Terms.{Nearer}
use Rattle.root.proofs.Nearest.{whole-nearest, root-zero}
use Rattle.root.proofs.Bounds.{root-bounds}
use Rattle.distance.specs.Distance.{differences_fit, squared_distance, distance_of}
use Rattle.distance.proofs.Split.{distance_in, distance_by}
use Rattle.distance.proofs.Laws.{squared-whole, distance-root}
use Rattle.distance.specs.Nearest.{NearestRoot}

-- the root of 0 is +0, and every other size is further from it
zero-root : root_whole 0 ≡ fin false 0 (pos 0)
zero-root = same (sym (answers (fin false 0 (pos 0)) 0 (refl, refl) (omega arith)) ∙ root-zero)
  where
    same : {u v : Float} → ◌≡◌ {A = Result Float Refusal} (Ok u) (Ok v) → u ≡ v
    same e = cc

zero-nearest : (y : Float) → Nearer 0 (fin false 0 (pos 0)) y
zero-nearest y =
    let both = 0 * den y + num y * 1 in
    record { above = λ h. let p : 0 < both = omega arith in let s = mul-pos p p in omega arith; below = λ h. absurd (omega arith) }

-- of each whole number up to 2 ^ 64
whole-root : (x : Float) (n : ℕ) → HasValue x false n 1 → n ≤ 18446744073709551616 → NearestRoot x (root_whole n)
unfolding fits
whole-root x zero v most =
    subst (NearestRoot x) (sym zero-root) (record { square = 0; value = v; representable = tt; not_negative = (refl, refl); nearest = λ y f p. zero-nearest y })
whole-root x (suc n) v most =
    let first : 1 ≤ suc n = omega arith in
    let b = root-bounds (suc n) first most in
    record { square = suc n; value = v; representable = b.holds; not_negative = own_value (root_whole (suc n)) b.above; nearest = whole-nearest (suc n) first most }

-- THE THEOREM: a distance that is answered is the f64 nearest to the square root of the rounded sum of the squares, which is a whole number
pub distance-nearest : (a b : Coord) (d : Float) → distance_of a b ≡ Ok d → NearestRoot (squared_distance a b) d
unfolding distance_of
distance-nearest a b d h = by (parity_of a) (parity_of b) refl refl h
  where
    tested : {p q : Parity} (t : Bool) → parity_of a ≡ Ok p → parity_of b ≡ Ok q → differences_fit a b ≡ t → distance_in t a b ≡ Ok d → NearestRoot (squared_distance a b) d
    tested true first second e g =
        let w = squared-whole a b e in
        let same : root_whole w.number ≡ d = cc (distance-root a b first second e) in
        subst (NearestRoot (squared_distance a b)) same (whole-root (squared_distance a b) w.number w.value w.most)
    tested false first second e g = absurd (let z : ◌≡◌ {A = ℕ} 0 1 = cc in omega arith)

    by : (p q : Result Parity Refusal) → parity_of a ≡ p → parity_of b ≡ q → distance_by p q a b ≡ Ok d → NearestRoot (squared_distance a b) d
    by (Err r) q first second g = absurd (let z : ◌≡◌ {A = ℕ} 0 1 = cc in omega arith)
    by (Ok p) (Err r) first second g = absurd (let z : ◌≡◌ {A = ℕ} 0 1 = cc in omega arith)
    by (Ok p) (Ok q) first second g = tested (differences_fit a b) first second refl g
