-- A whole number that is rounded is a whole number, and no larger than a power of two that bounded it; so squares and sums of whole numbers stay whole.
use mathlib.Core.Path.{◌≡◌, sym, ap, ◌∙◌, subst}
use mathlib.Core.Bool.{Bool, true, false, not, true≢false}
use Prim.Native.Nat.{ℕ, suc, ◌+◌, ◌-◌, ◌*◌, ◌/◌, ◌%◌, ◌^◌, ◌≤◌, ◌<◌, compare}
use native.Mathlib.Nat.{mul-one, one-mul, mul_assoc, mul_comm, mul_right_comm, mul-mul-mul_comm, add-mul, mul-pos, mul-le-mul_right, eq_of_mul-eq-mul_right, div-one, mod-one, le_trans, le_of_eq, le_of_lt, lt_of_lt_of_le, lt_of_le_of_lt, lt_of_not-le, not-le_of_lt, zero-lt-suc}
use native.Mathlib.Omega.{arith}
use lib.IntN.{ℤ}
use lib.Dec.{T, leb, leb→le, nleb→lt}
use lib.Pow.{pow-add, pow_pos, pow_mono, pow-lt}
use lib.Ieee.{Float, nan, inf, fin, Format, prec, emax, low, up, down, size, nearest, round, sum, add, mul}
use lib.Ieee.Digits.{size-lt, size-le}
use lib.Ieee.Fits.{two, down_pos}
use lib.Ieee.Exact.{HasValue}
use lib.Ieee.Back.{round_whole}
use lib.Ieee.Nearest.{closest, closest_mono}
use lib.Ieee.Order.{drop, kept}
use lib.Ieee.Scale.{grid, round_val, round_same}
use Rattle.root.proofs.Isqrt.{pow-split}

-- x is a whole number of at most 2 ^ j, not below zero
pub record WholeTo (j : ℕ) (x : Float) : Type 0 where
  pub number : ℕ
  pub value : HasValue x false number 1
  pub most : number ≤ 2 ^ j

-- ---- rounded

size-gt : (n j : ℕ) → 2 ^ j ≤ n → j < size n
size-gt n j h = lt_of_not-le (λ (g : size n ≤ j). not-le_of_lt (lt_of_lt_of_le (size-lt n) (pow_mono g)) h)

-- a whole number is its own closest
closest-whole : (n : ℕ) → closest n 1 ≡ n
closest-whole n = ap (λ (q : ℕ). nearest q (compare (n % 1 * 2) 1)) (div-one n) ∙ ap (λ (r : ℕ). nearest n (compare (r * 2) 1)) (mod-one n)

-- m * l units of 1 / l are m
in-units : (x : Float) (m l : ℕ) → 0 < l → HasValue x false (m * l) l → HasValue x false m 1
in-units nan m l p v = v
in-units (inf s) m l p v = v
in-units (fin s q e) m l p v = (v.0, mul-one (q * up e) ∙ eq_of_mul-eq-mul_right l p (q * up e) (m * down e) (v.1 ∙ mul_right_comm m l (down e)))

-- a number of more digits than the format keeps loses whole units only
module _ (f : Format) (j n : ℕ) (fine : j < suc (emax f)) (most : n ≤ 2 ^ j) (large : 2 ^ prec f < n) where
  large-whole : WholeTo j (round f false n 1)
  large-whole =
      let l = low f in
      let p = prec f in
      let P = two f in
      let units = n * 2 ^ l in
      let same : units / 1 ≡ units = div-one units in
      let k = drop p units 1 in
      let top : units ≤ 2 ^ (j + l) = le_trans (mul-le-mul_right (2 ^ l) most) (le_of_eq (sym (pow-add 2 j l))) in
      let reach : 2 ^ (p + l) ≤ units / 1 = le_trans (le_of_eq (pow-add 2 p l)) (le_trans (mul-le-mul_right (2 ^ l) (le_of_lt large)) (le_of_eq (sym same))) in
      let digits : p + l < size (units / 1) = size-gt (units / 1) (p + l) reach in
      let few : size (units / 1) ≤ suc (j + l) = size-le (units / 1) (suc (j + l)) (lt_of_le_of_lt (le_trans (le_of_eq same) top) (pow-lt (below (j + l)))) in
      let l≤k : l ≤ k = drops (size (units / 1)) p l digits in
      let k≤j : k ≤ j + l = spare (size (units / 1)) p (j + l) P few in
      let keeps : kept p units 1 ≤ 2 ^ (j + l - k) =
      le_trans
      (closest_mono units (1 * 2 ^ k) (2 ^ (j + l - k)) 1 (mul-pos (zero-lt-suc 0) (pow_pos k)) (zero-lt-suc 0)
      (le_trans (le_of_eq (mul-one units)) (le_trans top (le_of_eq (pow-split (j + l) k k≤j ∙ ap (λ (u : ℕ). 2 ^ (j + l - k) * u) (sym (one-mul (2 ^ k))))))))
      (le_of_eq (closest-whole (2 ^ (j + l - k)))) in
      let in-grid : grid f n 1 ≤ 2 ^ (j + l) = le_trans (mul-le-mul_right (2 ^ k) keeps) (le_of_eq (sym (pow-split (j + l) k k≤j))) in
      let whole : grid f n 1 ≡ kept p units 1 * 2 ^ (k - l) * 2 ^ l = ap (λ (u : ℕ). kept p units 1 * u) (pow-split k l l≤k) ∙ sym (mul_assoc (kept p units 1) (2 ^ (k - l)) (2 ^ l)) in
      record {
        number = kept p units 1 * 2 ^ (k - l);
        value = in-units (round f false n 1) (kept p units 1 * 2 ^ (k - l)) (2 ^ l) (pow_pos l)
            (subst (λ (u : ℕ). HasValue (round f false n 1) false u (2 ^ l)) whole (round_val f n 1 (lt_of_le_of_lt in-grid (pow-lt (room j l (emax f) fine)))));
        most = le_trans (mul-le-mul_right (2 ^ (k - l)) keeps) (le_of_eq (sym (pow-add 2 (j + l - k) (k - l)) ∙ ap (λ (u : ℕ). 2 ^ u) (over j l k l≤k k≤j)));
      }
    where
      below : (a : ℕ) → a < suc a
      below a = omega arith

      drops : (z p l : ℕ) → p + l < z → l ≤ z - p
      drops z p l h = omega arith

      spare : (z p a : ℕ) → 2 ≤ p → z ≤ suc a → z - p ≤ a
      spare z p a h g = omega arith

      room : (j l e : ℕ) → j < suc e → j + l < l + suc e
      room j l e h = omega arith

      over : (j l k : ℕ) → l ≤ k → k ≤ j + l → j + l - k + (k - l) ≡ j
      over j l k h g = omega arith

pub rounded-whole : (f : Format) (j n : ℕ) → j < suc (emax f) → n ≤ 2 ^ j → WholeTo j (round f false n 1)
rounded-whole f j n fine most = go (leb n (2 ^ prec f)) (leb→le n (2 ^ prec f)) (nleb→lt n (2 ^ prec f))
  where
    go : (b : Bool) → (T b → n ≤ 2 ^ prec f) → (T (not b) → 2 ^ prec f < n) → WholeTo j (round f false n 1)
    go true small large = record { number = n; value = round_whole f false n (small tt); most = most }
    go false small large = large-whole f j n fine most (large tt)

-- ---- the square and the sum

squared : (f : Format) (m : ℕ) (e : ℤ) (n : ℕ) → m * up e * 1 ≡ n * down e → round f false (m * up e * (m * up e)) (down e * down e) ≡ round f false (n * n) 1
squared f m e n v =
    let q : m * up e ≡ n * down e = sym (mul-one (m * up e)) ∙ v in
    round_same f false (m * up e * (m * up e)) (down e * down e) (n * n) 1 (mul-pos (down_pos e) (down_pos e)) (zero-lt-suc 0)
    (mul-one (m * up e * (m * up e)) ∙ (λ i. q i * q i) ∙ mul-mul-mul_comm n (down e) n (down e))

pub square-at : (f : Format) (x : Float) (s : Bool) (n : ℕ) → HasValue x s n 1 → mul f x x ≡ round f false (n * n) 1
unfolding mul
square-at f nan s n v = absurd v
square-at f (inf t) s n v = absurd v
square-at f (fin true m e) s n v = squared f m e n v.1
square-at f (fin false m e) s n v = squared f m e n v.1

pub sum-at : (f : Format) (x y : Float) (a b : ℕ) → HasValue x false a 1 → HasValue y false b 1 → add f x y ≡ round f false (a + b) 1
unfolding add sum
sum-at f nan y a b v w = absurd v
sum-at f (inf s) y a b v w = absurd v
sum-at f (fin true m e) y a b v w = absurd (true≢false v.0)
sum-at f (fin false m e) nan a b v w = absurd w
sum-at f (fin false m e) (inf t) a b v w = absurd w
sum-at f (fin false m e) (fin true n d) a b v w = absurd (true≢false w.0)
sum-at f (fin false m e) (fin false n d) a b v w =
    let p : m * up e ≡ a * down e = sym (mul-one (m * up e)) ∙ v.1 in
    let q : n * up d ≡ b * down d = sym (mul-one (n * up d)) ∙ w.1 in
    round_same f false (m * up e * down d + n * up d * down e) (down e * down d) (a + b) 1 (mul-pos (down_pos e) (down_pos d)) (zero-lt-suc 0)
    (mul-one (m * up e * down d + n * up d * down e)
    ∙ (λ i. p i * down d + q i * down e)
    ∙ (λ i. mul_assoc a (down e) (down d) i + (mul_assoc b (down d) (down e) ∙ ap (λ (u : ℕ). b * u) (mul_comm (down d) (down e))) i)
    ∙ sym (add-mul a b (down e * down d)))
