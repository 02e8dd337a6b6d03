-- The key's order is IEEE 754's total_order: both are the order of the patterns without their signs, turned around where both signs are negative.
use Rattle.std.proofs.Common.{◌≡◌, ℕ, ◌+◌, ◌-◌, ◌*◌, ◌/◌, ◌%◌, ◌^◌, ◌<◌, ◌≤◌, Bool, true, false, cond, not, ◌&&◌, eqb, ltb, leb, sym, refl, ap, ◌∙◌, le_of_lt, arith, ltb-false, ltb-true, le-ltb, lt-ltb, eq-eqb, eqb-true, le-leb, leb-false, leb-true}
use mathlib.Core.Bool.{beq}
use borrow.Author.Tests.{lt-leb, eqb-false}
use lib.Ieee.{binary64, below, nan_bits}
use lib.Ieee.Bits.{nan_bits_above}
use Rattle.float.specs.TotalOrder.{negative, quiet, payload, equals, numbers, classes, nans, total_order, total_key}
use Rattle.float.proofs.Sizes.{unsigned, numbers-order}

-- ---- both orders, on a sign and the rest of the pattern
abbrev key_at : Bool → ℕ → ℕ
key_at true p = 9223372036854775807 - p
key_at false p = p + 9223372036854775808

abbrev at_or_below : Bool → ℕ → Bool → ℕ → Bool
at_or_below false p false q = leb p q
at_or_below false p true q = false
at_or_below true p false q = true
at_or_below true p true q = leb q p

key-is : (a : ℕ) → a < 2 ^ 64 → total_key a ≡ key_at (negative a) (unsigned a)
unfolding total_key
key-is a h = go (negative a) refl
  where
    low : a < 9223372036854775808 → a ≡ a % 9223372036854775808
    low l = omega arith

    high : 9223372036854775808 ≤ a → 18446744073709551615 - a ≡ 9223372036854775807 - a % 9223372036854775808
    high l = omega arith

    go : (s : Bool) → negative a ≡ s → cond (ltb a 9223372036854775808) (a + 9223372036854775808) (18446744073709551615 - a) ≡ key_at s (unsigned a)
    go true e = let l = leb-true 9223372036854775808 a e in rw (le-ltb a 9223372036854775808 l) (high l)
    go false e =
        let l = leb-false 9223372036854775808 a e in
        rw (lt-ltb a 9223372036854775808 l) (ap (λ (n : ℕ). n + 9223372036854775808) (low l))

same-order : (p q x y : ℕ) → (p ≤ q → x ≤ y) → (q < p → y < x) → leb x y ≡ leb p q
same-order p q x y f g = go (leb p q) (leb-true p q) (leb-false p q)
  where
    go : (b : Bool) → (b ≡ true → p ≤ q) → (b ≡ false → q < p) → leb x y ≡ b
    go true h k = le-leb x y (f (h refl))
    go false h k = lt-leb x y (g (k refl))

keys-order : (s t : Bool) (p q : ℕ) → p < 9223372036854775808 → q < 9223372036854775808 → leb (key_at s p) (key_at t q) ≡ at_or_below s p t q
keys-order false false p q h k = same-order p q (p + 9223372036854775808) (q + 9223372036854775808) (λ l. up l) (λ l. over l)
  where
    up : p ≤ q → p + 9223372036854775808 ≤ q + 9223372036854775808
    up l = omega arith

    over : q < p → q + 9223372036854775808 < p + 9223372036854775808
    over l = omega arith
keys-order false true p q h k = lt-leb (p + 9223372036854775808) (9223372036854775807 - q) (omega arith)
keys-order true false p q h k = le-leb (9223372036854775807 - p) (q + 9223372036854775808) (omega arith)
keys-order true true p q h k = same-order q p (9223372036854775807 - p) (9223372036854775807 - q) (λ l. up l) (λ l. over l)
  where
    up : q ≤ p → 9223372036854775807 - p ≤ 9223372036854775807 - q
    up l = omega arith

    over : p < q → 9223372036854775807 - q < 9223372036854775807 - p
    over l = omega arith

-- ---- two numbers
in_order : (p q : ℕ) (z : Bool) → (p ≡ q → z ≡ true) → cond (ltb p q) true (cond (ltb q p) false z) ≡ leb p q
in_order p q z e = go (ltb p q) (ltb q p) (ltb-true p q) (ltb-false p q) (ltb-true q p) (ltb-false q p)
  where
    level : q ≤ p → p ≤ q → p ≡ q
    level h k = omega arith

    go : (x y : Bool) → (x ≡ true → p < q) → (x ≡ false → q ≤ p) → (y ≡ true → q < p) → (y ≡ false → p ≤ q) → cond x true (cond y false z) ≡ leb p q
    go true y f g h k = sym (le-leb p q (le_of_lt (f refl)))
    go false true f g h k = sym (lt-leb p q (h refl))
    go false false f g h k = e (level (g refl) (k refl)) ∙ sym (le-leb p q (k refl))

unless-zero : (n : ℕ) (x z : Bool) → (n ≡ 0 → z ≡ x) → cond (ltb 0 n) x z ≡ x
unless-zero n x z e = go (ltb 0 n) (ltb-false 0 n)
  where
    none : n ≤ 0 → n ≡ 0
    none h = omega arith

    go : (b : Bool) → (b ≡ false → n ≤ 0) → cond b x z ≡ x
    go true g = refl
    go false g = e (none (g refl))

module _ (a b : ℕ) where
  equals-false : a ≡ 0 → b ≡ 9223372036854775808 → equals a b ≡ false
  unfolding equals
  equals-false x y = rw (eq-eqb a 0 x, eq-eqb b 9223372036854775808 y)

  equals-true : (a ≡ 0 → b ≡ 9223372036854775808 → ⊥) → equals a b ≡ true
  unfolding equals
  equals-true n = go (eqb a 0) (eqb b 9223372036854775808) (eqb-true a 0) (eqb-true b 9223372036854775808)
    where
      go : (x y : Bool) → (x ≡ true → a ≡ 0) → (y ≡ true → b ≡ 9223372036854775808) → cond (x && y) false true ≡ true
      go true true f g = absurd (n (f refl) (g refl))
      go true false f g = refl
      go false y f g = refl

module _ (a b : ℕ) (A : a < 2 ^ 64) (B : b < 2 ^ 64) where
  not-zero : a ≡ 0 → 9223372036854775808 ≤ a → ⊥
  not-zero x l = omega arith

  signed-numbers : (s t : Bool) → negative a ≡ s → negative b ≡ t
      → cond (below s (unsigned a) t (unsigned b)) true (cond (below t (unsigned b) s (unsigned a)) false (equals a b)) ≡ at_or_below s (unsigned a) t (unsigned b)
  signed-numbers false false e f = in_order (unsigned a) (unsigned b) (equals a b) (λ _. equals-true a b (λ _ y. no y (leb-false 9223372036854775808 b f)))
    where
      no : b ≡ 9223372036854775808 → b < 9223372036854775808 → ⊥
      no y l = omega arith
  signed-numbers true true e f = in_order (unsigned b) (unsigned a) (equals a b) (λ _. equals-true a b (λ x _. not-zero x (leb-true 9223372036854775808 a e)))
  signed-numbers true false e f = unless-zero (unsigned a + unsigned b) true (equals a b) (λ _. equals-true a b (λ x _. not-zero x (leb-true 9223372036854775808 a e)))
  signed-numbers false true e f =
      unless-zero (unsigned b + unsigned a) false (equals a b)
      (λ z. equals-false a b (plus z (leb-false 9223372036854775808 a e)) (minus z (leb-true 9223372036854775808 b f)))
    where
      plus : unsigned b + unsigned a ≡ 0 → a < 9223372036854775808 → a ≡ 0
      plus z l = omega arith

      minus : unsigned b + unsigned a ≡ 0 → 9223372036854775808 ≤ b → b ≡ 9223372036854775808
      minus z l = omega arith

  two-numbers : nan_bits binary64 a ≡ false → nan_bits binary64 b ≡ false → numbers a b ≡ at_or_below (negative a) (unsigned a) (negative b) (unsigned b)
  unfolding numbers
  two-numbers m n = rw (numbers-order a b m n, numbers-order b a n m) (signed-numbers (negative a) (negative b) refl refl)

-- ---- NaNs
-- the pattern of a NaN without its sign: the exponent's field of ones, the quiet bit and the payload
abbrev bit : ℕ → ℕ
bit a = a / 2251799813685248 % 2

nan-parts : (a : ℕ) → 9218868437227405312 < unsigned a → unsigned a ≡ 2251799813685248 * (4094 + bit a) + payload a
nan-parts a h = omega arith

module _ (a b : ℕ) (A : 9218868437227405312 < unsigned a) (B : 9218868437227405312 < unsigned b) where
  one_class : bit a ≡ bit b → leb (payload a) (payload b) ≡ leb (unsigned a) (unsigned b)
  one_class e = same-order (unsigned a) (unsigned b) (payload a) (payload b) (λ l. keeps (nan-parts a A) (nan-parts b B) l) (λ l. over (nan-parts a A) (nan-parts b B) l)
    where
      keeps : {p q : ℕ} → p ≡ 2251799813685248 * (4094 + bit a) + payload a → q ≡ 2251799813685248 * (4094 + bit b) + payload b → p ≤ q → payload a ≤ payload b
      keeps m n l = omega arith

      over : {p q : ℕ} → p ≡ 2251799813685248 * (4094 + bit a) + payload a → q ≡ 2251799813685248 * (4094 + bit b) + payload b → q < p → payload b < payload a
      over m n l = omega arith

  apart-classes : (bit a ≡ 1 → ⊥) → bit b ≡ 1 → unsigned a < unsigned b
  apart-classes e f = less (nan-parts a A) (nan-parts b B)
    where
      less : {p q : ℕ} → p ≡ 2251799813685248 * (4094 + bit a) + payload a → q ≡ 2251799813685248 * (4094 + bit b) + payload b → p < q
      less m n = omega arith

classes-order : (a b : ℕ) → 9218868437227405312 < unsigned a → 9218868437227405312 < unsigned b → classes a b ≡ leb (unsigned a) (unsigned b)
unfolding classes
classes-order a b A B = go (quiet a) (quiet b) (eqb-true (bit a) 1) (eqb-false (bit a) 1) (eqb-true (bit b) 1) (eqb-false (bit b) 1)
  where
    clear : (bit a ≡ 1 → ⊥) → (bit b ≡ 1 → ⊥) → bit a ≡ bit b
    clear g k = omega arith

    go : (x y : Bool) → (x ≡ true → bit a ≡ 1) → (x ≡ false → bit a ≡ 1 → ⊥) → (y ≡ true → bit b ≡ 1) → (y ≡ false → bit b ≡ 1 → ⊥) → cond (beq x y) (leb (payload a) (payload b)) y ≡ leb (unsigned a) (unsigned b)
    go true true f g h k = one_class a b A B (f refl ∙ sym (h refl))
    go false false f g h k = one_class a b A B (clear (g refl) (k refl))
    go true false f g h k = sym (lt-leb (unsigned a) (unsigned b) (apart-classes b a B A (k refl) (f refl)))
    go false true f g h k = sym (le-leb (unsigned a) (unsigned b) (le_of_lt (apart-classes a b A B (g refl) (h refl))))

two-nans : (a b : ℕ) → 9218868437227405312 < unsigned a → 9218868437227405312 < unsigned b → nans a b ≡ at_or_below (negative a) (unsigned a) (negative b) (unsigned b)
unfolding nans
two-nans a b A B = go (negative a) (negative b)
  where
    go : (s t : Bool) → cond (beq s t) (cond s (classes b a) (classes a b)) s ≡ at_or_below s (unsigned a) t (unsigned b)
    go false false = classes-order a b A B
    go false true = refl
    go true false = refl
    go true true = classes-order b a B A

-- a NaN and a number
nan-first : (s t : Bool) (p q : ℕ) → q < p → s ≡ at_or_below s p t q
nan-first false false p q h = sym (lt-leb p q h)
nan-first false true p q h = refl
nan-first true false p q h = refl
nan-first true true p q h = sym (le-leb q p (le_of_lt h))

nan-second : (s t : Bool) (p q : ℕ) → p < q → not t ≡ at_or_below s p t q
nan-second false false p q h = sym (le-leb p q (le_of_lt h))
nan-second false true p q h = refl
nan-second true false p q h = refl
nan-second true true p q h = sym (lt-leb q p h)

-- ---- the two orders are one
nan-above : (a : ℕ) → nan_bits binary64 a ≡ true → 9218868437227405312 < unsigned a
nan-above a e = ltb-true 9218868437227405312 (unsigned a) (sym (nan_bits_above binary64 a) ∙ e)

number-within : (a : ℕ) → nan_bits binary64 a ≡ false → unsigned a ≤ 9218868437227405312
number-within a e = ltb-false 9218868437227405312 (unsigned a) (sym (nan_bits_above binary64 a) ∙ e)

module _ (a b : ℕ) (A : a < 2 ^ 64) (B : b < 2 ^ 64) where
  total-order-is : total_order a b ≡ at_or_below (negative a) (unsigned a) (negative b) (unsigned b)
  unfolding total_order
  total-order-is = go (nan_bits binary64 a) (nan_bits binary64 b) refl refl
    where
      apart : (p q : ℕ) → p ≤ 9218868437227405312 → 9218868437227405312 < q → p < q
      apart p q h k = omega arith

      go : (x y : Bool) → nan_bits binary64 a ≡ x → nan_bits binary64 b ≡ y
          → cond x (cond y (nans a b) (negative a)) (cond y (not (negative b)) (numbers a b)) ≡ at_or_below (negative a) (unsigned a) (negative b) (unsigned b)
      go true true e f = two-nans a b (nan-above a e) (nan-above b f)
      go true false e f = nan-first (negative a) (negative b) (unsigned a) (unsigned b) (apart (unsigned b) (unsigned a) (number-within b f) (nan-above a e))
      go false true e f = nan-second (negative a) (negative b) (unsigned a) (unsigned b) (apart (unsigned a) (unsigned b) (number-within a e) (nan-above b f))
      go false false e f = two-numbers a b A B e f

  keys-are : leb (total_key a) (total_key b) ≡ at_or_below (negative a) (unsigned a) (negative b) (unsigned b)
  keys-are = rw (key-is a A, key-is b B) (keys-order (negative a) (negative b) (unsigned a) (unsigned b) (omega arith) (omega arith))

-- Keys compare as numbers the way `total_order` compares the patterns.
pub key-is-total-order : (a b : ℕ) → a < 2 ^ 64 → b < 2 ^ 64 → total_order a b ≡ leb (total_key a) (total_key b)
key-is-total-order a b A B = total-order-is a b A B ∙ sym (keys-are a b A B)
