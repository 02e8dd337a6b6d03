-- A word taken apart into its fields and put together again, and two words as one number: lemmas for the laws and the proofs.
use mathlib.Core.Path.{◌≡◌, refl, sym, ap, ◌∙◌}
use mathlib.Core.Bool.{Bool, true, false, cond}
use Prim.Native.Nat.{ℕ, ◌+◌, ◌*◌, ◌/◌, ◌%◌, ◌^◌, ◌<◌}
use native.Mathlib.Nat.{div-add-mod', div-div-eq-div-mul, mod-mod, mul-le-mul_right, suc-mul}
use native.Mathlib.Omega.{arith}
use borrow.Author.Tests.{ltb-true, ltb-false, lt-ltb, le-ltb, eqb-true, eqb-false, eq-eqb, ne_eqb}
use lib.Arith.{digits_div}
use lib.Dec.{eqb, ltb}

-- ---- the low word: x, flags, exponent, resolution, frame

abbrev pub low_word : ℕ → ℕ → ℕ → ℕ → ℕ → ℕ
low_word x flags exponent resolution frame = (((x * 16 * 256 + flags) * 16 + exponent % 16) * 256 + resolution) * 256 + frame

pub record LowParts (x flags exponent resolution frame word : ℕ) : Type 0 where
  pub is-frame : word % 256 ≡ frame
  pub is-resolution : word / 256 % 256 ≡ resolution
  pub is-exponent : word / 65536 % 16 ≡ exponent % 16
  pub is-flags : word / 1048576 % 256 ≡ flags
  pub is-reserved : word / 268435456 % 16 ≡ 0
  pub is_x : word / 4294967296 ≡ x

pub low_parts : (x flags exponent resolution frame : ℕ) → flags < 256 → resolution < 256 → frame < 256 → LowParts x flags exponent resolution frame (low_word x flags exponent resolution frame)
low_parts x flags exponent resolution frame hg hr hf =
    record {
      is-frame = omega arith;
      is-resolution = omega arith;
      is-exponent = omega arith;
      is-flags = omega arith;
      is-reserved = omega arith;
      is_x = omega arith;
    }

pub low-word : (x flags exponent resolution frame : ℕ) → x < 2 ^ 32 → flags < 256 → resolution < 256 → frame < 256 → low_word x flags exponent resolution frame < 2 ^ 64
low-word x flags exponent resolution frame hx hg hr hf = omega arith

-- what is left above the m lowest, split at its lowest digit to the base k
digit : (n m k : ℕ) → n / m ≡ n / (m * k) * k + n / m % k
digit n m k = rw (← div-div-eq-div-mul) (sym (div-add-mod' (n / m) k))

glue : (x g e r f : ℕ) {n n8 n16 n20 n28 : ℕ} → n28 ≡ x * 16 + 0 → n20 ≡ n28 * 256 + g → n16 ≡ n20 * 16 + e → n8 ≡ n16 * 256 + r → n ≡ n8 * 256 + f → (((x * 16 * 256 + g) * 16 + e) * 256 + r) * 256 + f ≡ n
glue x g e r f h₁ h₂ h₃ h₄ h₅ = omega arith

pub low-whole : (n : ℕ) → n / 268435456 % 16 ≡ 0 → low_word (n / 4294967296) (n / 1048576 % 256) (n / 65536 % 16) (n / 256 % 256) (n % 256) ≡ n
low-whole n e =
    rw mod-mod
    (glue (n / 4294967296) (n / 1048576 % 256) (n / 65536 % 16) (n / 256 % 256) (n % 256)
    (digit n 268435456 16 ∙ ap (λ (r : ℕ). n / 4294967296 * 16 + r) e) (digit n 1048576 256) (digit n 65536 16) (digit n 256 256) (sym (div-add-mod' n 256)))

-- ---- the high word: z, y

pub record HighParts (z y word : ℕ) : Type 0 where
  pub is-z : word / 4294967296 ≡ z
  pub is_y : word % 4294967296 ≡ y
  pub is_word : word < 2 ^ 64

pub high_parts : (z y : ℕ) → z < 2 ^ 32 → y < 2 ^ 32 → HighParts z y (z * 4294967296 + y)
high_parts z y hz hy = record { is-z = omega arith; is_y = omega arith; is_word = omega arith }

-- ---- two digits as one number, high * base + low with low below the base: they are compared as the numbers are

-- the high digits decide
ahead : (base : ℕ) {a b c : ℕ} (d : ℕ) → b < base → a < c → a * base + b < c * base + d
ahead base {a} d h g = omega (arith, suc-mul a base, mul-le-mul_right base g)

-- two tests that follow from each other
pub agree : (p q : Bool) → (p ≡ true → q ≡ true) → (q ≡ true → p ≡ true) → p ≡ q
agree true q f g = sym (f refl)
agree false true f g = g refl
agree false false f g = refl

module _ (base a b d : ℕ) where
  pub less-low : ltb b d ≡ ltb (a * base + b) (a * base + d)
  less-low =
      agree _ _ (λ e. lt-ltb (a * base + b) (a * base + d) (omega (arith, ltb-true b d e)))
      (λ e. lt-ltb b d (omega (arith, ltb-true (a * base + b) (a * base + d) e)))

  pub same_low : eqb b d ≡ eqb (a * base + b) (a * base + d)
  same_low =
      agree _ _ (λ e. eq-eqb (a * base + b) (a * base + d) (omega (arith, eqb-true b d e)))
      (λ e. eq-eqb b d (omega (arith, eqb-true (a * base + b) (a * base + d) e)))

module _ (base a b c d : ℕ) (hb : b < base) (hd : d < base) where
  -- the same number has the same digits
  pub same_digits : a * base + b ≡ c * base + d → (a ≡ c) × (b ≡ d)
  same_digits e =
      let high : a ≡ c = sym (digits_div a hb) ∙ ap (λ (n : ℕ). n / base) e ∙ digits_div c hd in
      (high, omega (arith, ap (λ (n : ℕ). n * base) high))

  less_by : (a ≡ c → ⊥) → (t : Bool) → ltb a c ≡ t → t ≡ ltb (a * base + b) (c * base + d)
  less_by apart true e = sym (lt-ltb (a * base + b) (c * base + d) (ahead base d hb (ltb-true a c e)))
  less_by apart false e = sym (le-ltb (a * base + b) (c * base + d) (let h = ltb-false a c e in let g = ahead base {a = c} {b = d} {c = a} b hd (omega arith) in omega arith))

  pub less-high : (a ≡ c → ⊥) → ltb a c ≡ ltb (a * base + b) (c * base + d)
  less-high apart = less_by apart (ltb a c) refl

  pub same-high : (a ≡ c → ⊥) → false ≡ eqb (a * base + b) (c * base + d)
  same-high apart = sym (ne_eqb (a * base + b) (c * base + d) (λ e. apart (same_digits e).0))

  less-where : (t : Bool) → eqb a c ≡ t → ltb (a * base + b) (c * base + d) ≡ cond t (ltb b d) (ltb a c)
  less-where true e = sym (less-low base a b d ∙ ap (λ (h : ℕ). ltb (a * base + b) (h * base + d)) (eqb-true a c e))
  less-where false e = sym (less-high (eqb-false a c e))

  -- the first digits that differ decide
  pub less-digits : ltb (a * base + b) (c * base + d) ≡ cond (eqb a c) (ltb b d) (ltb a c)
  less-digits = less-where (eqb a c) refl
