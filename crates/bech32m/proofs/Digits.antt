-- Laws of numbers written in base 32: a number's digits make it again, and digits below 32 are those of the number that they make.
use mathlib.Core.List.{List, [], ◌∷◌, ◌++◌}
use mathlib.Core.Path.{◌≡◌, refl, sym, ap, ap₂, ◌∙◌}
use Prim.Native.Nat.{ℕ, zero, suc, ◌+◌, ◌*◌, ◌/◌, ◌%◌, ◌^◌, ◌<◌}
use native.Mathlib.Nat.{add-mul, mul_assoc, div-one, mod-lt, one-le-pow, pow-succ', div-div-eq-div-mul}
use native.Mathlib.Omega.{arith}
use lib.Arith.{digits_lt, digits_div, mod-mul}
use lib.Dec.{lit<}
use lib.ListN.{length}
use Rattle.general.specs.Each.{Each}
use Rattle.bech32m.specs.Checksum.{digits, number_from}

-- ---- digits

pub length_digits : (k n : ℕ) → length (digits k n) ≡ k
unfolding digits
length_digits zero n = refl
length_digits (suc k) n = ap suc (length_digits k n)

-- the last digit
pub digits-snoc : (k n : ℕ) → digits (suc k) n ≡ digits k (n / 32) ++ (n % 32 ∷ [])
unfolding digits
digits-snoc zero n = ap (λ (m : ℕ). m % 32 ∷ []) (div-one n)
digits-snoc (suc k) n =
    let first : n / 32 ^ suc k ≡ n / 32 / 32 ^ k = ap (λ (m : ℕ). n / m) (pow-succ' 32 k) ∙ sym (div-div-eq-div-mul n 32 (32 ^ k)) in
    ap₂ (λ (d : ℕ) (ds : List ℕ). d % 32 ∷ ds) first (digits-snoc k n)

pub digits-below : (k n : ℕ) → Each (λ v. v < 32) (digits k n)
unfolding digits
digits-below zero n = tt
digits-below (suc k) n = (mod-lt (n / 32 ^ k) (lit< tt), digits-below k n)

-- ---- the number that they make

pub number-snoc : (a : ℕ) (vs : List ℕ) (v : ℕ) → number_from a (vs ++ (v ∷ [])) ≡ number_from a vs * 32 + v
unfolding number_from
number-snoc a [] v = refl
number-snoc a (w ∷ vs) v = number-snoc (a * 32 + w) vs v

-- one digit more in front
front : (a v p : ℕ) → (a * 32 + v) * p ≡ a * (32 * p) + v * p
front a v p = add-mul (a * 32) v p ∙ ap (λ (m : ℕ). m + v * p) (mul_assoc a 32 p)

-- a number's lowest digits make what is left of it
pub number_digits : (a k n : ℕ) → number_from a (digits k n) ≡ a * 32 ^ k + n % 32 ^ k
unfolding digits number_from
number_digits a zero n = omega arith
number_digits a (suc k) n =
    let p = 32 ^ k in
    let d = n / p % 32 in
    let whole : n % (32 * p) ≡ d * p + n % p = mod-mul n {m = 32} {c = p} (lit< tt) (one-le-pow k 32 (lit< tt)) in
    number_digits (a * 32 + d) k n ∙ rw (pow-succ', whole) (omega (arith, front a d p))

-- the digits of a number in front of it stand above
number-from : (a : ℕ) (vs : List ℕ) → number_from a vs ≡ a * 32 ^ length vs + number_from 0 vs
unfolding number_from
number-from a [] = omega arith
number-from a (v ∷ vs) =
    let p = 32 ^ length vs in
    number-from (a * 32 + v) vs ∙ rw (number-from (0 * 32 + v) vs, pow-succ') (omega (arith, front a v p))

pub number-below : (vs : List ℕ) → Each (λ v. v < 32) vs → number_from 0 vs < 32 ^ length vs
unfolding number_from
number-below [] h = lit< tt
number-below (v ∷ vs) h =
    let p = 32 ^ length vs in
    rw (number-from (0 * 32 + v) vs, pow-succ') (digits_lt {q = 0 * 32 + v} {m = 32} {r = number_from 0 vs} {c = p} (omega (arith, h.0)) (number-below vs h.1))

-- digits are those of the number that they make
pub digits_number : (a : ℕ) (vs : List ℕ) → Each (λ v. v < 32) vs → digits (length vs) (number_from a vs) ≡ vs
unfolding digits number_from
digits_number a [] h = refl
digits_number a (v ∷ vs) h =
    let p = 32 ^ length vs in
    let b = a * 32 + v in
    let above : number_from b vs / p ≡ b = ap (λ (m : ℕ). m / p) (number-from b vs) ∙ digits_div b (number-below vs h.1) in
    let first : number_from b vs / p % 32 ≡ v = ap (λ (m : ℕ). m % 32) above ∙ omega (arith, h.0) in
    ap₂ (λ (d : ℕ) (ds : List ℕ). d ∷ ds) first (digits_number b vs h.1)
