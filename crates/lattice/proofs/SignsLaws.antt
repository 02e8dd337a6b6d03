-- Laws of signed numbers that the lattice's laws rest on: the parity of a sum, the half of a double, and how far from zero a sum is.
use mathlib.Core.Path.{◌≡◌, refl, sym, ap, ap₂, ◌∙◌}
use mathlib.Core.Bool.{Bool, true, false, not, cond, beq}
use Prim.Native.Nat.{ℕ, zero, suc, ◌+◌, ◌-◌, ◌/◌, ◌%◌, ◌≤◌, ◌<◌}
use native.Mathlib.Nat.{mod-lt}
use native.Mathlib.Omega.{arith}
use lib.Dec.{eqb, leb, ltb}
use lib.IntN.{ℤ, pos, negsuc, neg_ℤ, nat_abs, sub_ℕ, ◌+ℤ◌, ◌-ℤ◌, +ℤ_comm, neg_ℤ-+ℤ, neg_ℤ-neg_ℤ}
use lib.Signed.{mag, quot_z}
use borrow.Author.Tests.{ltb-true, ltb-false, leb-true, lt-ltb, le-ltb}
use Rattle.lattice.specs.Middle.{halfway}
use Rattle.lattice.specs.Lattice.{is_odd, within, half, apart}
use Rattle.general.proofs.Tests.{both}

-- ---- a difference of two naturals, by its sign

sub_by : (t : Bool) (a b : ℕ) (P : ℤ → Type 0) → ltb a b ≡ t → (a < b → P (negsuc (b - suc a))) → (b ≤ a → P (pos (a - b))) → P (cond t (negsuc (b - suc a)) (pos (a - b)))
sub_by true a b P e f g = f (ltb-true a b e)
sub_by false a b P e f g = g (ltb-false a b e)

pub sub_cases : (a b : ℕ) (P : ℤ → Type 0) → (a < b → P (negsuc (b - suc a))) → (b ≤ a → P (pos (a - b))) → P (sub_ℕ a b)
sub_cases a b P f g = sub_by (ltb a b) a b P refl f g

sub-below : (a b k : ℕ) → a < b → k ≡ b - suc a → negsuc k ≡ sub_ℕ a b
sub-below a b k h e = rw (lt-ltb a b h) (ap negsuc e)

sub-above : (a b k : ℕ) → b ≤ a → k ≡ a - b → pos k ≡ sub_ℕ a b
sub-above a b k h e = rw (le-ltb a b h) (ap pos e)

-- ---- parity

sub-parity : (a b : ℕ) → nat_abs (sub_ℕ a b) % 2 ≡ (a + b) % 2
sub-parity a b = sub_cases a b (λ (z : ℤ). nat_abs z % 2 ≡ (a + b) % 2) (λ h. omega arith) (λ h. omega arith)

sum-parity : (a b : ℤ) → nat_abs (a +ℤ b) % 2 ≡ (nat_abs a + nat_abs b) % 2
sum-parity (pos a) (pos b) = refl
sum-parity (pos a) (negsuc b) = sub-parity a (suc b)
sum-parity (negsuc a) (pos b) = omega (arith, sub-parity b (suc a))
sum-parity (negsuc a) (negsuc b) = omega arith

-- one of two, and not the other
abbrev pub either : Bool → Bool → Bool
either a b = not (beq a b)

pub either-false : (a : Bool) → a ≡ either a false
either-false true = refl
either-false false = refl

either-self : (a : Bool) → either a a ≡ false
either-self true = refl
either-self false = refl

-- changing both or neither changes nothing on whether they agree
pub agree-turned : (t a b : Bool) → beq (either t a) (either t b) ≡ beq a b
agree-turned true true true = refl
agree-turned true true false = refl
agree-turned true false true = refl
agree-turned true false false = refl
agree-turned false true true = refl
agree-turned false true false = refl
agree-turned false false true = refl
agree-turned false false false = refl

-- a digit that is not 0 is 1
pub odd-digit : (r : ℕ) → r < 2 → not (eqb r 0) ≡ eqb r 1
odd-digit zero h = refl
odd-digit (suc zero) h = refl
odd-digit (suc (suc r)) h = absurd (omega arith)

digits : (a b : ℕ) → a < 2 → b < 2 → eqb ((a + b) % 2) 1 ≡ either (eqb a 1) (eqb b 1)
digits zero zero h g = refl
digits zero (suc zero) h g = refl
digits zero (suc (suc b)) h g = absurd (omega arith)
digits (suc zero) zero h g = refl
digits (suc zero) (suc zero) h g = refl
digits (suc zero) (suc (suc b)) h g = absurd (omega arith)
digits (suc (suc a)) b h g = absurd (omega arith)

-- a sum is odd where one of the two is
pub odd-sum : (a b : ℤ) → is_odd (a +ℤ b) ≡ either (is_odd a) (is_odd b)
odd-sum a b =
    let e : nat_abs (a +ℤ b) % 2 ≡ (nat_abs a % 2 + nat_abs b % 2) % 2 = omega (arith, sum-parity a b) in
    ap (λ (n : ℕ). eqb n 1) e ∙ digits (nat_abs a % 2) (nat_abs b % 2) (mod-lt (nat_abs a) (omega arith)) (mod-lt (nat_abs b) (omega arith))

-- a number added twice changes no parity
pub odd-double : (z s : ℤ) → is_odd (z +ℤ z +ℤ s) ≡ is_odd s
odd-double z s =
    let e : nat_abs (z +ℤ z +ℤ s) % 2 ≡ nat_abs s % 2 = omega (arith, sum-parity (z +ℤ z) s, sum-parity z z) in
    ap (λ (n : ℕ). eqb n 1) e

-- ---- the half, rounded down

-- of a double and a step: the number and half the step
pub half-double : (z s : ℤ) → half (z +ℤ z +ℤ s) ≡ z +ℤ half s
half-double (pos n) (pos m) = ap pos (omega arith)
half-double (pos n) (negsuc m) =
    sub_cases (n + n) (suc m) (λ (z : ℤ). half z ≡ sub_ℕ n (suc (m / 2)))
    (λ h. sub-below n (suc (m / 2)) ((suc m - suc (n + n)) / 2) (omega arith) (omega arith))
    (λ h. sub-above n (suc (m / 2)) ((n + n - suc m) / 2) (omega arith) (omega arith))
half-double (negsuc n) (pos m) =
    sub_cases m (suc (suc (n + n))) (λ (z : ℤ). half z ≡ sub_ℕ (m / 2) (suc n))
    (λ h. sub-below (m / 2) (suc n) ((suc (suc (n + n)) - suc m) / 2) (omega arith) (omega arith))
    (λ h. sub-above (m / 2) (suc n) ((m - suc (suc (n + n))) / 2) (omega arith) (omega arith))
half-double (negsuc n) (negsuc m) = ap negsuc (omega arith)

-- ---- ranges

-- a sum is no further from zero than its parts together
pub mag-add : (a b : ℤ) → mag (a +ℤ b) ≤ mag a + nat_abs b
mag-add (pos a) (pos b) = omega arith
mag-add (pos a) (negsuc b) = sub_cases a (suc b) (λ (z : ℤ). mag z ≤ a + suc b) (λ h. omega arith) (λ h. omega arith)
mag-add (negsuc a) (pos b) = sub_cases b (suc a) (λ (z : ℤ). mag z ≤ a + b) (λ h. omega arith) (λ h. omega arith)
mag-add (negsuc a) (negsuc b) = omega arith

-- how far a step goes up, and how far down
abbrev pub rise : ℤ → ℕ
rise (pos n) = n
rise (negsuc n) = 0

abbrev pub fall : ℤ → ℕ
fall (pos n) = 0
fall (negsuc n) = suc n

-- no further from zero than the range
pub within-mag : (bound : ℕ) (z : ℤ) → within (negsuc bound) (pos bound) z ≡ true → mag z ≤ bound
within-mag bound (pos n) e = leb-true n bound e
within-mag bound (negsuc n) e = leb-true n bound (both (leb n bound) true e).0

-- a double and a step fit a bound
pub double-mag : (low high up down bound : ℕ) (z s : ℤ) → within (negsuc low) (pos high) z ≡ true → rise s ≤ up → fall s ≤ down → high + high + up < bound → low + low + 1 + down < bound → down < bound → up < bound → mag (z +ℤ z +ℤ s) < bound
double-mag low high up down bound (pos n) (pos m) e r f h l k u = omega (arith, leb-true n high e)
double-mag low high up down bound (pos n) (negsuc m) e r f h l k u =
    let g = leb-true n high e in
    sub_cases (n + n) (suc m) (λ (z : ℤ). mag z < bound) (λ side. omega arith) (λ side. omega arith)
double-mag low high up down bound (negsuc n) (pos m) e r f h l k u =
    let g = leb-true n low (both (leb n low) true e).0 in
    sub_cases m (suc (suc (n + n))) (λ (z : ℤ). mag z < bound) (λ side. omega arith) (λ side. omega arith)
double-mag low high up down bound (negsuc n) (negsuc m) e r f h l k u = omega (arith, leb-true n low (both (leb n low) true e).0)

pub mag-half : (z : ℤ) → mag (half z) ≡ mag z / 2
mag-half (pos n) = refl
mag-half (negsuc n) = refl

-- ---- distances and the way half there

nat_abs-neg : (z : ℤ) → nat_abs (neg_ℤ z) ≡ nat_abs z
nat_abs-neg (pos zero) = refl
nat_abs-neg (pos (suc n)) = refl
nat_abs-neg (negsuc n) = refl

turned_round : (p q : ℤ) → q -ℤ p ≡ neg_ℤ (p -ℤ q)
turned_round p q = sym (neg_ℤ-+ℤ p (neg_ℤ q) ∙ ap (λ (z : ℤ). neg_ℤ p +ℤ z) (neg_ℤ-neg_ℤ q) ∙ +ℤ_comm (neg_ℤ p) q)

apart-comm : (p q : ℤ) → nat_abs (q -ℤ p) ≡ apart p q
apart-comm p q = ap nat_abs (turned_round p q) ∙ nat_abs-neg (p -ℤ q)

abs-half : (d : ℤ) → nat_abs (quot_z d (pos 2)) ≡ nat_abs d / 2
abs-half (pos n) = refl
abs-half (negsuc n) = nat_abs-neg (pos (suc n / 2))

-- two numbers of one parity are an even way apart
pub apart-even : (p q : ℤ) → is_odd p ≡ is_odd q → eqb (apart p q % 2) 1 ≡ false
apart-even p q e = odd-sum p (neg_ℤ q) ∙ ap₂ either e (ap (λ (n : ℕ). eqb (n % 2) 1) (nat_abs-neg q)) ∙ either-self (is_odd q)

pub odd-halfway : (p q : ℤ) → is_odd (halfway p q) ≡ either (is_odd p) (eqb (apart p q / 2 % 2) 1)
odd-halfway p q =
    odd-sum p (quot_z (q -ℤ p) (pos 2))
    ∙ ap (λ (n : ℕ). either (is_odd p) (eqb (n % 2) 1)) (abs-half (q -ℤ p) ∙ ap (λ (n : ℕ). n / 2) (apart-comm p q))
