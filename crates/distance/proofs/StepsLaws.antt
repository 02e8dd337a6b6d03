-- What a step to a neighbour costs. The distance depends on the difference alone, so a step's is its distance from the origin.
use Rattle.std.specs.Prelude.{Ok}
use mathlib.Core.Path.{◌≡◌, refl, sym, ap, ◌∙◌}
use mathlib.Core.Bool.{Bool, true, false, ◌&&◌}
use mathlib.Core.List.Memᴰ
use mathlib.Core.List.{Memᴰ}
use lib.IntN.{ℤ, pos, negsuc, ◌+ℤ◌, ◌-ℤ◌, neg_ℤ, neg_ℤ-+ℤ, +ℤ_assoc, +ℤ_invr}
use lib.Ieee.{Float, binary64, of_bits, of_int, add, mul}
use Rattle.refusal.specs.declared.Coord.{Coord}
use Rattle.lattice.specs.declared.Parity.{Parity}
use Rattle.lattice.specs.Lattice.{at, moved, within, parity_of, neighbor_steps, neighbor_places}
use Rattle.lattice.proofs.Origin.{origin}
use Rattle.lattice.proofs.Laws.{parity-point, point-parity, neighbors-are-points}
use Rattle.general.specs.Each.{Each}
use Rattle.general.proofs.Lists.{at-member}
use Rattle.root.specs.Root.{root_of}
use Rattle.distance.specs.Distance.{differences_fit, square_apart, squared_distance, distance_of}
use Rattle.distance.proofs.Split.{distance_in}
use Rattle.distance.specs.Inner.Differences.{difference}
use Rattle.distance.proofs.Laws.{distance-tested}
use Rattle.distance.specs.Steps.{step_cost}

-- ---- by the difference

fit-by-difference : (a b c d : Coord) → difference a b ≡ difference c d → differences_fit a b ≡ differences_fit c d
unfolding differences_fit
fit-by-difference a b c d e =
    λ i.
    within (negsuc 2147483647) (pos 2147483647) (e i).x
    && (within (negsuc 2147483647) (pos 2147483647) (e i).y && within (negsuc 2147483647) (pos 2147483647) (e i).z)

-- two places as far apart, axis by axis, as two others: the squares of their distances are the same
pub squared-by-difference : (a b c d : Coord) → difference a b ≡ difference c d → squared_distance a b ≡ squared_distance c d
unfolding squared_distance square_apart
squared-by-difference a b c d e = λ i. add binary64 (add binary64 (square (e i).x) (square (e i).y)) (square (e i).z)
  where
    square : ℤ → Float
    square z = mul binary64 (of_int binary64 z) (of_int binary64 z)

tested-by-difference : (a b c d : Coord) → difference a b ≡ difference c d → distance_in (differences_fit a b) a b ≡ distance_in (differences_fit c d) c d
tested-by-difference a b c d e = ap (λ (t : Bool). distance_in t a b) (fit-by-difference a b c d e) ∙ go (differences_fit c d)
  where
    go : (t : Bool) → distance_in t a b ≡ distance_in t c d
    go true = ap root_of (squared-by-difference a b c d e)
    go false = refl

-- ---- the steps

from-origin : Each (λ (d : Coord). distance_in (differences_fit origin d) origin d ≡ Ok (step_cost d)) neighbor_steps
unfolding neighbor_steps differences_fit squared_distance root_of of_bits
from-origin = (refl, (refl, (refl, (refl, (refl, (refl, (refl, (refl, (refl, (refl, (refl, (refl, (refl, (refl, tt))))))))))))))

step-difference : (c d : Coord) → difference c (moved c d) ≡ difference origin d
step-difference c d = λ i. at (on-axis c.x d.x i) (on-axis c.y d.y i) (on-axis c.z d.z i)
  where
    on-axis : (a s : ℤ) → a -ℤ (a +ℤ s) ≡ pos 0 -ℤ s
    on-axis a s = ap (λ (z : ℤ). a +ℤ z) (neg_ℤ-+ℤ a s) ∙ sym (+ℤ_assoc a (neg_ℤ a) (neg_ℤ s)) ∙ ap (λ (z : ℤ). z +ℤ neg_ℤ s) (+ℤ_invr a)

-- each step of the table from a lattice point
pub step-costs : (c d : Coord) {p : Parity} → parity_of c ≡ Ok p → Memᴰ d neighbor_steps → distance_of c (moved c d) ≡ Ok (step_cost d)
unfolding neighbor_places
step-costs c d {p} e m =
    distance-tested c (moved c d) e (point-parity (moved c d) (neighbors-are-points c (moved c d) (parity-point c p e) (Memᴰ.map (moved c) m))) refl
    ∙ tested-by-difference c (moved c d) origin d (step-difference c d)
    ∙ at-member (λ (s : Coord). distance_in (differences_fit origin s) origin s ≡ Ok (step_cost s)) m from-origin
