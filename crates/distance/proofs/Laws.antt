-- Laws of the Euclidean distance: where both ends are lattice points and the differences fit, the answer is a number.
use Rattle.std.specs.Prelude.{Result, Ok, Err}
use Rattle.refusal.specs.declared.Refusal.{Refusal}
use mathlib.Core.Path.{◌≡◌, refl, sym, ap, ◌∙◌, subst}
use mathlib.Core.Bool.{Bool, true, false, not}
use Prim.Native.Nat.{ℕ, suc, ◌+◌, ◌*◌, ◌^◌, ◌≤◌, ◌<◌}
use native.Mathlib.Nat.{mul-le-mul, le_trans, pow-suc}
use native.Mathlib.Omega.{arith}
use lib.Dec.{T, lit<, lit≤}
use lib.Pow.{pow_mono}
use lib.IntN.{ℤ, pos, negsuc, ◌-ℤ◌}
use lib.Ieee.{Float, binary64, of_int, round, add, mul, is_nan}
use lib.Ieee.Back.{round_whole}
use mir.Syntax.{w32}
use mir.Val.{SFits}
use Rattle.refusal.specs.declared.Coord.{Coord}
use Rattle.lattice.specs.declared.Parity.{Parity}
use Rattle.lattice.specs.Lattice.{Fitting, within, parity_of}
use Rattle.general.proofs.Tests.{three}
use Rattle.lattice.proofs.SignsLaws.{within-mag}
use Rattle.root.specs.Root.{root_of, root_whole}
use Rattle.root.proofs.Answers.{answers}
use Rattle.root.proofs.Number.{of_number}
use Rattle.distance.specs.Distance.{difference_fits, differences_fit, square_apart, squared_distance, distance_of}
use Rattle.distance.proofs.Split.{distance_in, distance_by}
use Rattle.distance.proofs.Whole.{WholeTo, rounded-whole, square-at, sum-at}
use Rattle.distance.specs.Inner.Differences.{difference}

-- ---- the test of the differences

fits : (d : ℤ) → within (negsuc 2147483647) (pos 2147483647) d ≡ true → SFits w32 d
fits d e = record { sfits = omega (arith, within-mag 2147483647 d e) }

-- differences that pass the test are 32-bit numbers
pub differences-fit : (a b : Coord) → differences_fit a b ≡ true → Fitting (difference a b)
unfolding differences_fit
differences-fit a b e =
    let h = three (difference_fits a.x b.x) (difference_fits a.y b.y) (difference_fits a.z b.z) e in
    record { in-x = fits (a.x -ℤ b.x) h.0; in-y = fits (a.y -ℤ b.y) h.1; in-z = fits (a.z -ℤ b.z) h.2 }

-- ---- the square of the distance is a whole number of at most 2 ^ 64

square-small : (n : ℕ) → n ≤ 2147483648 → n * n ≤ 4611686018427387904
square-small n h = mul-le-mul h h

-- a 32-bit number is an f64 of its size, and its square is rounded once
of_size : (s : Bool) (n : ℕ) → n ≤ 2147483648 → WholeTo 62 (mul binary64 (round binary64 s n 1) (round binary64 s n 1))
of_size s n h =
    subst (WholeTo 62) (sym (square-at binary64 (round binary64 s n 1) s n (round_whole binary64 s n (omega arith))))
    (rounded-whole binary64 62 (n * n) (lit< tt) (square-small n h))

square-whole : (d : ℤ) → SFits w32 d → WholeTo 62 (mul binary64 (of_int binary64 d) (of_int binary64 d))
unfolding of_int
square-whole (pos n) f = let h : n < 2147483648 = f.sfits in of_size false n (omega arith)
square-whole (negsuc n) f = let h : n < 2147483648 = f.sfits in of_size true (suc n) (omega arith)

sum-whole : (j k : ℕ) (x y : Float) → suc j < 1024 → k ≤ j → WholeTo j x → WholeTo k y → WholeTo (suc j) (add binary64 x y)
sum-whole j k x y fine less v w =
    subst (WholeTo (suc j)) (sym (sum-at binary64 x y v.number w.number v.value w.value))
    (rounded-whole binary64 (suc j) (v.number + w.number) fine (added v.most (le_trans w.most (pow_mono less))))
  where
    added : {a b : ℕ} → a ≤ 2 ^ j → b ≤ 2 ^ j → a + b ≤ 2 ^ suc j
    added {a} {b} p q = rw pow-suc (omega arith)

pub squared-whole : (a b : Coord) → differences_fit a b ≡ true → WholeTo 64 (squared_distance a b)
unfolding squared_distance square_apart
squared-whole a b e =
    let f = differences-fit a b e in
    let in-x = square_apart a.x b.x in
    let in-y = square_apart a.y b.y in
    let in-z = square_apart a.z b.z in
    let first = sum-whole 62 62 in-x in-y (lit< tt) (lit≤ tt) (square-whole (a.x -ℤ b.x) f.in-x) (square-whole (a.y -ℤ b.y) f.in-y) in
    sum-whole 63 62 (add binary64 in-x in-y) in-z (lit< tt) (lit≤ tt) first (square-whole (a.z -ℤ b.z) f.in-z)

-- ---- the answer

module _ (a b : Coord) {p q : Parity} (first : parity_of a ≡ Ok p) (second : parity_of b ≡ Ok q) where
  -- of two lattice points: the test decides
  pub distance-tested : {t : Bool} → differences_fit a b ≡ t → distance_of a b ≡ distance_in t a b
  unfolding distance_of
  distance-tested e = (λ i. distance_by (first i) (second i) a b) ∙ ap (λ (t : Bool). distance_in t a b) e

  -- where the differences fit, it is the root of a whole number of at most 2 ^ 64
  pub distance-root : (e : differences_fit a b ≡ true) → distance_of a b ≡ Ok (root_whole (squared-whole a b e).number)
  distance-root e = let w = squared-whole a b e in distance-tested e ∙ answers (squared_distance a b) w.number w.value w.most

  -- THE LAW: the answer is a number, and the root never refuses
  pub distance-answers : differences_fit a b ≡ true → (d : Float) × (distance_of a b ≡ Ok d)
  distance-answers e = (root_whole (squared-whole a b e).number, distance-root e)

-- what is answered is no NaN, so that its bits can be taken
pub distance-number : (a b : Coord) (d : Float) → distance_of a b ≡ Ok d → T (not (is_nan d))
unfolding distance_of
distance-number a b d = by (parity_of a) (parity_of b)
  where
    tested : (t : Bool) → distance_in t a b ≡ Ok d → T (not (is_nan d))
    tested true h = of_number (squared_distance a b) d h
    tested false h = absurd (let z : ◌≡◌ {A = ℕ} 0 1 = cc in omega arith)

    by : (p q : Result Parity Refusal) → distance_by p q a b ≡ Ok d → T (not (is_nan d))
    by (Err r) q h = absurd (let z : ◌≡◌ {A = ℕ} 0 1 = cc in omega arith)
    by (Ok p) (Err r) h = absurd (let z : ◌≡◌ {A = ℕ} 0 1 = cc in omega arith)
    by (Ok p) (Ok q) h = tested (differences_fit a b) h
