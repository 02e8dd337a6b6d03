-- Numbers compare as their patterns do: with the sign taken off, a larger pattern is a larger size, an infinity's included.
use Rattle.std.proofs.Common.{◌≡◌, ℕ, zero, suc, ◌+◌, ◌*◌, ◌/◌, ◌%◌, ◌^◌, ◌<◌, ◌≤◌, Bool, true, false, cond, not, ◌&&◌, ◌||◌, eqb, ltb, ◌⊎◌, ℤ, sym, refl, ap, ◌∙◌, subst, inl, inr, le_trans, le_of_eq, lt_of_lt_of_le, le-add_right, le_of_lt, mul-le-mul_right, mul_assoc, mul_comm, lt_of_mul-lt-mul_right, eq-or-lt_of_le, mul-le-mul_left, mul-lt-mul_of_pos_right, mul-pos, zero-mul, mul-one, mul_right_comm, le_of_mul-le-mul_right, arith, pow_pos, pow_mono, ltb-false, ltb-true, le-ltb, lt-ltb, eq-eqb, eqb-true}
use native.Mathlib.Nat.{pow-succ'}
use borrow.Author.Tests.{eqb-false}
use lib.Ieee.{Float, nan, inf, fin, binary64, up, down, odd, lt, below, of_fields, of_bits, nan_bits}
use lib.Ieee.Fits.{down_pos}
use lib.Ieee.Exact.{HasValue, odd_sign}
use lib.Ieee.Bits.{nan_bits_above}
use Rattle.float.specs.TotalOrder.{negative}

-- ---- the size that an exponent's field x and the digits t stand for, in units of the smallest number
abbrev pub size_at : ℕ → ℕ → ℕ
size_at zero t = t * 2 ^ 0
size_at (suc x) t = (4503599627370496 + t) * 2 ^ x

abbrev pub unsigned : ℕ → ℕ
unsigned b = b % 9223372036854775808

-- the size of a pattern without a sign
abbrev pub size_of : ℕ → ℕ
size_of p = size_at (p / 4503599627370496) (p % 4503599627370496)

size-under : (x t : ℕ) → t < 4503599627370496 → size_at x t < 4503599627370496 * 2 ^ x
size-under zero t h = subst (λ (n : ℕ). n < 4503599627370496) (sym (mul-one t)) h
size-under (suc x) t h =
    subst (λ (n : ℕ). (4503599627370496 + t) * 2 ^ x < n) (sym (ap (λ (n : ℕ). 4503599627370496 * n) (pow-succ' 2 x) ∙ sym (mul_assoc 4503599627370496 2 (2 ^ x))))
    (mul-lt-mul_of_pos_right (twice h) (pow_pos x))
  where
    twice : t < 4503599627370496 → 4503599627370496 + t < 9007199254740992
    twice h = omega arith

size-over : (x t : ℕ) → 4503599627370496 * 2 ^ x ≤ size_at (suc x) t
size-over x t = mul-le-mul_right (2 ^ x) (le-add_right 4503599627370496 t)

within-field : (x t u : ℕ) → t < u → size_at x t < size_at x u
within-field zero t u h = mul-lt-mul_of_pos_right h (pow_pos 0)
within-field (suc x) t u h = mul-lt-mul_of_pos_right (more h) (pow_pos x)
  where
    more : t < u → 4503599627370496 + t < 4503599627370496 + u
    more h = omega arith

across-fields : (x y t u : ℕ) → x < y → t < 4503599627370496 → size_at x t < size_at y u
across-fields x zero t u l h = absurd (none l)
  where
    none : x < 0 → ⊥
    none l = omega arith
across-fields x (suc y) t u l h = lt_of_lt_of_le (size-under x t h) (le_trans (mul-le-mul_left 4503599627370496 (pow_mono (at l))) (size-over y u))
  where
    at : x < suc y → x ≤ y
    at l = omega arith

pub size-grows : (p q : ℕ) → p < q → size_of p < size_of q
size-grows p q h = go (eq-or-lt_of_le (fields h))
  where
    fields : p < q → p / 4503599627370496 ≤ q / 4503599627370496
    fields h = omega arith

    digits : p < q → p / 4503599627370496 ≡ q / 4503599627370496 → p % 4503599627370496 < q % 4503599627370496
    digits h e = omega arith

    short : p % 4503599627370496 < 4503599627370496
    short = omega arith

    go : (p / 4503599627370496 ≡ q / 4503599627370496) ⊎ (p / 4503599627370496 < q / 4503599627370496) → size_of p < size_of q
    go (inl e) =
        subst (λ (x : ℕ). size_of p < size_at x (q % 4503599627370496)) e (within-field (p / 4503599627370496) (p % 4503599627370496) (q % 4503599627370496) (digits h e))
    go (inr l) = across-fields (p / 4503599627370496) (q / 4503599627370496) (p % 4503599627370496) (q % 4503599627370496) l short

-- ---- what a pattern that is no NaN's stands for
pub data Stands : Float → Bool → ℕ → Type 0 where
  finite : {m : ℕ} {e : ℤ} {s : Bool} {p : ℕ} → p < 9218868437227405312 → m * up e * 2 ^ 1074 ≡ size_of p * down e → Stands (fin s m e) s p
  infinite : {s : Bool} → Stands (inf s) s 9218868437227405312

number : (x : Float) (s : Bool) (p : ℕ) → p < 9218868437227405312 → HasValue x s (size_of p) (2 ^ 1074) → Stands x s p
number nan s p h v = elim v [ ]
number (inf _) s p h v = elim v [ ]
number (fin t m e) s p h v = subst (λ (u : Bool). Stands (fin t m e) u p) v.0 (finite h v.1)

fields-stand : (s : Bool) (x t p : ℕ) → p / 4503599627370496 ≡ x → p % 4503599627370496 ≡ t → p ≤ 9218868437227405312 → Stands (of_fields binary64 s x t) s p
unfolding of_fields
fields-stand s zero t p f d h =
    number (odd 53 s t 0 1074) s p (low f)
    (subst (λ (n : ℕ). HasValue (odd 53 s t 0 1074) s n (2 ^ 1074)) (sym (ap (λ (n : ℕ). size_at n (p % 4503599627370496)) f ∙ ap (λ (n : ℕ). n * 2 ^ 0) d)) (odd_sign 53 s t 0 1074))
  where
    low : p / 4503599627370496 ≡ 0 → p < 9218868437227405312
    low f = omega arith
fields-stand s (suc x) t p f d h = go (eqb (suc x) 2047) (eqb-true (suc x) 2047) (eqb-false (suc x) 2047)
  where
    none : p / 4503599627370496 ≡ suc x → p % 4503599627370496 ≡ t → suc x ≡ 2047 → t ≡ 0
    none f d e = omega arith

    top : p / 4503599627370496 ≡ suc x → suc x ≡ 2047 → p ≡ 9218868437227405312
    top f e = omega arith

    less : p / 4503599627370496 ≡ suc x → (suc x ≡ 2047 → ⊥) → p < 9218868437227405312
    less f n = omega arith

    go : (b : Bool) → (b ≡ true → suc x ≡ 2047) → (b ≡ false → suc x ≡ 2047 → ⊥) → Stands (cond b (cond (eqb t 0) (inf s) nan) (odd 53 s (4503599627370496 + t) x 1074)) s p
    go true y n =
        subst (λ (b : Bool). Stands (cond b (inf s) nan) s p) (sym (eq-eqb t 0 (none f d (y refl))))
        (subst (λ (q : ℕ). Stands (inf s) s q) (sym (top f (y refl))) infinite)
    go false y n =
        number (odd 53 s (4503599627370496 + t) x 1074) s p (less f (n refl))
        (subst (λ (n : ℕ). HasValue (odd 53 s (4503599627370496 + t) x 1074) s n (2 ^ 1074)) (sym (ap (λ (n : ℕ). size_at n (p % 4503599627370496)) f ∙ ap (λ (n : ℕ). (4503599627370496 + n) * 2 ^ x) d)) (odd_sign 53 s (4503599627370496 + t) x 1074))

pub stands : (b : ℕ) → nan_bits binary64 b ≡ false → Stands (of_bits binary64 b) (negative b) (unsigned b)
unfolding of_bits
stands b n =
    fields-stand (negative b) (unsigned b / 4503599627370496) (b % 4503599627370496) (unsigned b) refl (omega arith)
    (ltb-false 9218868437227405312 (unsigned b) (sym (nan_bits_above binary64 b) ∙ n))

-- ---- the order of two sizes X and Y, which are A * C and B * C where A and B are in the order of p and q
size-keeps : (p q : ℕ) → p ≤ q → size_of p ≤ size_of q
size-keeps p q h = go (eq-or-lt_of_le h)
  where
    go : (p ≡ q) ⊎ (p < q) → size_of p ≤ size_of q
    go (inl e) = le_of_eq (ap (λ (n : ℕ). size_of n) e)
    go (inr l) = le_of_lt (size-grows p q l)

less-same : (X Y L C p q : ℕ) → 0 < L → 0 < C → X * L ≡ size_of p * C → Y * L ≡ size_of q * C → ltb X Y ≡ ltb p q
less-same X Y L C p q l c x y = go (ltb p q) (ltb-true p q) (ltb-false p q)
  where
    go : (b : Bool) → (b ≡ true → p < q) → (b ≡ false → q ≤ p) → ltb X Y ≡ b
    go true f g =
        lt-ltb X Y (lt_of_mul-lt-mul_right L (subst (λ (n : ℕ). n < Y * L) (sym x) (subst (λ (n : ℕ). size_of p * C < n) (sym y) (mul-lt-mul_of_pos_right (size-grows p q (f refl)) c))))
    go false f g =
        le-ltb X Y (le_of_mul-le-mul_right (subst (λ (n : ℕ). n ≤ X * L) (sym y) (subst (λ (n : ℕ). size_of q * C ≤ n) (sym x) (mul-le-mul_right C (size-keeps q p (g refl))))) l)

either-some : (a b : ℕ) → ltb 0 (a + b) ≡ (ltb 0 a || ltb 0 b)
either-some a b = go (ltb 0 a) (ltb 0 b) (ltb-true 0 a) (ltb-false 0 a) (ltb-true 0 b) (ltb-false 0 b)
  where
    left : 0 < a → 0 < a + b
    left h = omega arith

    right : 0 < b → 0 < a + b
    right h = omega arith

    neither : a ≤ 0 → b ≤ 0 → a + b ≤ 0
    neither h k = omega arith

    go : (x y : Bool) → (x ≡ true → 0 < a) → (x ≡ false → a ≤ 0) → (y ≡ true → 0 < b) → (y ≡ false → b ≤ 0) → ltb 0 (a + b) ≡ (x || y)
    go true y f g h k = lt-ltb 0 (a + b) (left (f refl))
    go false true f g h k = lt-ltb 0 (a + b) (right (h refl))
    go false false f g h k = le-ltb 0 (a + b) (neither (g refl) (k refl))

module _ (X Y L C p q : ℕ) (l : 0 < L) (c : 0 < C) (x : X * L ≡ size_of p * C) (y : Y * L ≡ size_of q * C) where
  nothing : 0 * L ≡ size_of 0 * C
  nothing = zero-mul L ∙ sym (zero-mul C)

  pub below-same : (s t : Bool) → below s X t Y ≡ below s p t q
  below-same false false = less-same X Y L C p q l c x y
  below-same false true = refl
  below-same true true = less-same Y X L C q p l c y x
  below-same true false =
      either-some X Y
      ∙ ap (λ (b : Bool). b || ltb 0 Y) (less-same 0 X L C 0 p l c nothing x)
      ∙ ap (λ (b : Bool). ltb 0 p || b) (less-same 0 Y L C 0 q l c nothing y)
      ∙ sym (either-some p q)

-- ---- the order of two numbers is that of their patterns
scaled : (N D E L S : ℕ) → N * L ≡ S * D → N * E * L ≡ S * (D * E)
scaled N D E L S h = mul_right_comm N E L ∙ ap (λ (n : ℕ). n * E) h ∙ mul_assoc S D E

ordered : {x y : Float} {s t : Bool} {p q : ℕ} → Stands x s p → Stands y t q → lt x y ≡ below s p t q
unfolding lt
ordered (finite {m} {e} {s} {p} h x) (finite {m = n} {e = d} {s = t} {p = q} k y) =
    below-same (m * up e * down d) (n * up d * down e) (2 ^ 1074) (down e * down d) p q (pow_pos 1074) (mul-pos (down_pos e) (down_pos d))
    (scaled (m * up e) (down e) (down d) (2 ^ 1074) (size_of p) x)
    (scaled (n * up d) (down d) (down e) (2 ^ 1074) (size_of q) y ∙ ap (λ (c : ℕ). size_of q * c) (mul_comm (down d) (down e)))
    s t
ordered (finite {m} {e} {s} {p} h x) (infinite {s = t}) = under s t
  where
    some : 0 < p + 9218868437227405312
    some = omega arith

    under : (s t : Bool) → not t ≡ below s p t 9218868437227405312
    under false false = sym (lt-ltb p 9218868437227405312 h)
    under false true = refl
    under true false = sym (lt-ltb 0 (p + 9218868437227405312) some)
    under true true = sym (le-ltb 9218868437227405312 p (le_of_lt h))
ordered (infinite {s}) (finite {m = n} {e = d} {s = t} {p = q} k y) = over s t
  where
    some : 0 < 9218868437227405312 + q
    some = omega arith

    over : (s t : Bool) → s ≡ below s 9218868437227405312 t q
    over false false = sym (le-ltb 9218868437227405312 q (le_of_lt k))
    over false true = refl
    over true false = sym (lt-ltb 0 (9218868437227405312 + q) some)
    over true true = sym (lt-ltb q 9218868437227405312 k)
ordered (infinite {s}) (infinite {s = t}) = level s t
  where
    level : (s t : Bool) → (s && not t) ≡ below s 9218868437227405312 t 9218868437227405312
    level false false = refl
    level false true = refl
    level true false = refl
    level true true = refl

pub numbers-order : (a b : ℕ) → nan_bits binary64 a ≡ false → nan_bits binary64 b ≡ false → lt (of_bits binary64 a) (of_bits binary64 b) ≡ below (negative a) (unsigned a) (negative b) (unsigned b)
numbers-order a b m n = ordered (stands a m) (stands b n)
