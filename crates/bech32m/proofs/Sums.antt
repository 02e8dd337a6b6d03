-- Sums, part by part: the sum of two strings is made behind that of the first.
use mathlib.Core.Path.{◌≡◌, refl, sym, ap, ap₂, ◌∙◌}
use mathlib.Core.List.{List, [], ◌∷◌, ◌++◌, map, map-map}
use Prim.Native.Nat.{ℕ, ◌/◌, ◌%◌}
use lib.Dec.{eqb}
use Rattle.std.specs.List.{fold}
use Rattle.bech32m.specs.Text.{lowered}
use Rattle.bech32m.specs.Checksum.{step, sum_from, polymod, highs, lows, expanded, constant, verified}

-- a sum is made by a fold
pub sum-fold : (begin : ℕ) (vs : List ℕ) → sum_from begin vs ≡ fold step begin vs
unfolding sum_from
sum-fold begin [] = refl
sum-fold begin (v ∷ vs) = sum-fold (step begin v) vs

pub sum-append : (begin : ℕ) (s t : List ℕ) → sum_from begin (s ++ t) ≡ sum_from (sum_from begin s) t
unfolding sum_from
sum-append begin [] t = refl
sum-append begin (v ∷ s) t = sum-append (step begin v) s t

pub sum-behind : (begin : ℕ) (s t : List ℕ) {sum whole : ℕ} → sum ≡ sum_from begin s → whole ≡ fold step sum t → whole ≡ sum_from begin (s ++ t)
sum-behind begin s t {sum} e g = g ∙ sym (sum-fold sum t) ∙ ap (λ (n : ℕ). sum_from n t) e ∙ sym (sum-append begin s t)

-- the sum of a prefix is made of its characters' high bits, and behind them and a 0 of their low bits
pub prefix-behind : (s : List ℕ) {high zero whole : ℕ} → high ≡ fold step 1 (map (λ x. lowered x / 32) s) → zero ≡ step high 0 → whole ≡ fold step zero (map (λ x. lowered x % 32) s) → whole ≡ polymod (expanded (map lowered s))
prefix-behind s {high} e h g =
    let m = map lowered s in
    let first : high ≡ sum_from 1 (highs m) = e ∙ ap (fold step 1) (sym (map-map (λ (x : ℕ). x / 32) lowered s)) ∙ sym (sum-fold 1 (highs m)) in
    sum-behind 1 (highs m) (0 ∷ lows m) first (g ∙ ap₂ (fold step) h (sym (map-map (λ (x : ℕ). x % 32) lowered s)))

-- values are verified behind the sum of a prefix
pub verified-behind : (hrp values : List ℕ) {sum whole : ℕ} → sum ≡ polymod (expanded hrp) → whole ≡ fold step sum values → eqb whole constant ≡ verified hrp values
verified-behind hrp values e g = ap (λ (n : ℕ). eqb n constant) (sum-behind 1 (expanded hrp) values e g)
