-- Laws of NaNs, of comparing, of rounding and of keys that other crates rest on too.
use Rattle.std.proofs.Common.{◌≡◌, ℕ, zero, suc, ◌+◌, ◌-◌, ◌*◌, ◌/◌, ◌%◌, ◌^◌, ◌<◌, ◌≤◌, min, Bool, true, false, cond, ◌&&◌, ◌||◌, T, eqb, ltb, leb, ℤ, pos, sym, refl, ap, ◌∙◌, subst, inl, inr, le_of_lt, mul_assoc, suc-mul, div-lt_iff_lt-mul, eq-or-lt_of_le, mul-pos, mul_left_comm, arith, lit<, ltb→lt, lt→ltb, ltb-false, ltb-true, le-ltb, lt-ltb}
use mathlib.Core.Bool.{false≢true}
use lib.Ieee.{Float, nan, inf, fin, Format, binary64, prec, emax, low, up, down, odd, units, round, fits, to_unsigned, lt, of_bits, nan_bits, is_nan}
use lib.Ieee.Bits.{nan_bits_is}
use lib.Ieee.Fits.{round_is, down_pos, and_l, and_r}
use Rattle.float.specs.Round.{whole_of}
use Rattle.float.specs.TotalOrder.{total_key, bits_of_key}

-- ---- tests

pub so : {b : Bool} → b ≡ true → T b
so e = subst T (sym e) tt

-- ---- NaNs

pub is-nan : (x : Float) → is_nan x ≡ true → x ≡ nan
unfolding is_nan
is-nan nan e = refl
is-nan (inf s) e = cc
is-nan (fin s m k) e = cc

-- a NaN's pattern has the value `nan`
pub nan-value : (a : ℕ) → nan_bits binary64 a ≡ true → of_bits binary64 a ≡ nan
nan-value a e = is-nan (of_bits binary64 a) (sym (nan_bits_is binary64 a) ∙ e)

-- ---- comparing

-- below, or level
pub at_most : (a b : ℕ) (q t : Bool) → (q ≡ true → a ≤ b) → (ltb a b || (q && t)) ≡ true → a ≤ b
at_most a b q t g h = go (ltb a b) q (ltb-true a b) g h
  where
    go : (p q : Bool) → (p ≡ true → a < b) → (q ≡ true → a ≤ b) → (p || (q && t)) ≡ true → a ≤ b
    go true q f g h = le_of_lt (f refl)
    go false true f g h = g refl
    go false false f g h = absurd (false≢true h)

-- and the other way
pub level-or-below : (a b : ℕ) (q : Bool) → (a ≡ b → q ≡ true) → a ≤ b → (ltb a b || (q && true)) ≡ true
level-or-below a b q g h = elim (eq-or-lt_of_le h) [ inl p ↦ go (ltb a b) q (g p) | inr l ↦ ap (λ (t : Bool). t || (q && true)) (lt-ltb a b l) ]
  where
    go : (p q : Bool) → q ≡ true → (p || (q && true)) ≡ true
    go true q h = refl
    go false true h = refl
    go false false h = h

-- ---- sizes

-- a number of the format has at most 53 digits
pub digits_of : (s : Bool) (m : ℕ) (e : ℤ) → T (fits binary64 (fin s m e)) → m < 9007199254740992
unfolding fits
digits_of s zero e t = lit< tt
digits_of s (suc m) e t =
    ltb→lt (suc m) 9007199254740992 (and_r (eqb (suc m % 2) 1) (ltb (suc m) 9007199254740992) (and_l (eqb (suc m % 2) 1 && ltb (suc m) 9007199254740992) (leb (down e) (2 ^ 1074))
    (and_l (eqb (suc m % 2) 1 && ltb (suc m) 9007199254740992 && leb (down e) (2 ^ 1074)) (ltb (suc m * up e) (2 ^ 1024 * down e)) t)))

-- the nearest whole number to a number up to c is up to c
pub size-within : (m : ℕ) (e : ℤ) (c : ℕ) → m * up e ≤ c * down e → whole_of m e ≤ c
size-within m e c h = less (whole_of m e) c ((div-lt_iff_lt-mul (mul-pos (lit< tt) (down_pos e))).1 (under (down_pos e) h))
  where
    under : 0 < down e → m * up e ≤ c * down e → 2 * m * up e + down e < suc c * (2 * down e)
    under p h =
        let a = mul_assoc 2 m (up e) in
        let b = suc-mul c (2 * down e) in
        let d = mul_left_comm c 2 (down e) in
        omega arith

    less : (a c : ℕ) → a < suc c → a ≤ c
    less a c h = omega arith

-- ---- a cast to an unsigned integer

-- it asks for more than -1, which a number from zero on is
pub above_minus_one : (m : ℕ) (e : ℤ) → T (lt (fin true 1 (pos 0)) (fin false m e))
unfolding lt
above_minus_one m e = lt→ltb 0 (1 * down e + m * up e * 1) (more (down e) (m * up e * 1) (down_pos e))
  where
    more : (d b : ℕ) → 0 < d → 0 < 1 * d + b
    more d b h = omega arith

-- and gives the whole part, where 64 bits hold it
pub cut-is : (m : ℕ) (e : ℤ) → m * up e / down e < 18446744073709551616 → to_unsigned 64 (fin false m e) ≡ m * up e / down e
unfolding to_unsigned
cut-is m e h = uncapped (m * up e / down e) h
  where
    uncapped : (a : ℕ) → a < 18446744073709551616 → min a 18446744073709551615 ≡ a
    uncapped a h = omega arith

-- what holds of both branches holds of either
pub either : {A : Type 0} (P : A → Type 0) (b : Bool) (x y : A) → P x → P y → P (cond b x y)
either P true x y h k = h
either P false x y h k = k

-- ---- a rounding is a number or infinite

module _ (P : Float → Type 0) (finite : (s : Bool) (m : ℕ) (e : ℤ) → P (fin s m e)) (infinite : (s : Bool) → P (inf s)) where
  at-odd : (d : ℕ) (s : Bool) (q k l : ℕ) → P (odd d s q k l)
  unfolding odd
  at-odd d s zero k l = finite s 0 (pos 0)
  at-odd d s (suc q) k l = finite s _ _

  at-units : (f : Format) (s : Bool) (q k : ℕ) → P (units f s q k)
  unfolding units
  at-units f s q k = either P (ltb (q * 2 ^ k) (2 ^ (low f + suc (emax f)))) (odd (suc (prec f)) s q k (low f)) (inf s) (at-odd (suc (prec f)) s q k (low f)) (infinite s)

  -- so what holds of every number and of both infinities holds of it
  pub rounded : (f : Format) (s : Bool) (a b : ℕ) → P (round f s a b)
  rounded f s a b = rw (round_is f s a b) (at-units f s _ _)

-- ---- keys and patterns make each other again

-- what holds of either branch of a test of two numbers
pub by_less : {A : Type 0} (P : A → Type 0) (a b : ℕ) (x y : A) → (a < b → P x) → (b ≤ a → P y) → P (cond (ltb a b) x y)
by_less P a b x y f g = go (ltb a b) (ltb-true a b) (ltb-false a b)
  where
    go : (t : Bool) → (t ≡ true → a < b) → (t ≡ false → b ≤ a) → P (cond t x y)
    go true h k = f (h refl)
    go false h k = g (k refl)

pub key-bits : (b : ℕ) → b < 2 ^ 64 → bits_of_key (total_key b) ≡ b
unfolding total_key bits_of_key
key-bits b h =
    by_less (λ (k : ℕ). bits_of_key k ≡ b) b 9223372036854775808 (b + 9223372036854775808) (18446744073709551615 - b)
    (λ low. rw (le-ltb (b + 9223372036854775808) 9223372036854775808 (omega arith)) (omega arith))
    (λ high. rw (lt-ltb (18446744073709551615 - b) 9223372036854775808 (omega arith)) (omega arith))

-- a key has 64 bits
pub key-lt : (b : ℕ) → total_key b < 2 ^ 64
unfolding total_key
key-lt b = by_less (λ (k : ℕ). k < 2 ^ 64) b 9223372036854775808 (b + 9223372036854775808) (18446744073709551615 - b) (λ low. omega arith) (λ high. omega arith)
