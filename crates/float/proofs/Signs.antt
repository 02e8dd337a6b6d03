-- Rounding and the sign: a number above zero, one below and a zero, each to the nearest whole number as an integer.
use Rattle.std.proofs.Common.{◌≡◌, ℕ, zero, suc, ◌+◌, ◌*◌, ◌<◌, ◌≤◌, true, false, eqb, ℤ, pos, neg_ℤ, sym, refl, ap, ◌∙◌, subst, le_of_eq, zero-lt-suc, mul-pos, zero-mul, mul-one, arith, ltb-false, ltb-true, lt-ltb, eqb-true}
use mathlib.Core.Bool.{false≢true}
use lib.Ieee.{Float, nan, inf, fin, up, down, neg, lt, le}
use lib.Ieee.Fits.{up_pos, down_pos}
use Rattle.float.specs.Round.{whole_of, whole_away}
use Rattle.float.specs.Inner.Round.{whole_size}
use Rattle.float.proofs.Laws.{at_most, size-within}
use Rattle.float.proofs.Rounding.{nought, coarse}

-- ---- below zero
not-below : (m : ℕ) (e : ℤ) → lt (fin false m e) nought ≡ true → ⊥
unfolding lt
not-below m e h = none (m * up e) (down e) (ltb-true (m * up e * 1) (0 * down e) h)
  where
    none : (N D : ℕ) → N * 1 < 0 * D → ⊥
    none N D h = omega arith

pub negative-above : (x : Float) → lt x nought ≡ true → lt nought (neg x) ≡ true
unfolding lt neg
negative-above nan h = absurd (false≢true h)
negative-above (inf true) h = refl
negative-above (inf false) h = absurd (false≢true h)
negative-above (fin true m e) h = lt-ltb (0 * down e) (m * up e * 1) (some (m * up e) (down e) (ltb-true 0 (m * up e * 1 + 0 * down e) h))
  where
    some : (N D : ℕ) → 0 < N * 1 + 0 * D → 0 * D < N * 1
    some N D h = omega arith
negative-above (fin false m e) h = absurd (not-below m e h)

-- ---- neither above zero nor below
zero-size : (e : ℤ) → whole_of 0 e ≡ 0
zero-size e = none (whole_of 0 e) (size-within 0 e 0 (le_of_eq (zero-mul (up e) ∙ sym (zero-mul (down e)))))
  where
    none : (a : ℕ) → a ≤ 0 → a ≡ 0
    none a h = omega arith

positive-size : (m : ℕ) (e : ℤ) → suc m * up e * 1 ≤ 0 * down e → ⊥
positive-size m e h = none (suc m * up e) (down e) (mul-pos (zero-lt-suc m) (up_pos e)) h
  where
    none : (N D : ℕ) → 0 < N → N * 1 ≤ 0 * D → ⊥
    none N D a b = omega arith

negative-size : (m : ℕ) (e : ℤ) → suc m * up e * 1 + 0 * down e ≤ 0 → ⊥
negative-size m e h = none (suc m * up e) (down e) (mul-pos (zero-lt-suc m) (up_pos e)) h
  where
    none : (N D : ℕ) → 0 < N → N * 1 + 0 * D ≤ 0 → ⊥
    none N D a b = omega arith

-- ---- the nearest whole number as an integer
pub integer-above : (x : Float) → lt nought x ≡ true → pos (whole_size x) ≡ whole_away x
unfolding lt whole_size whole_away
integer-above nan h = refl
integer-above (inf s) h = refl
integer-above (fin true m e) h = absurd (false≢true h)
integer-above (fin false m e) h = refl

pub integer-below : (x : Float) → lt x nought ≡ true → neg_ℤ (pos (whole_size (neg x))) ≡ whole_away x
unfolding lt neg whole_size whole_away
integer-below nan h = refl
integer-below (inf s) h = refl
integer-below (fin true m e) h = refl
integer-below (fin false m e) h = absurd (not-below m e h)

pub integer-zero : (x : Float) → lt nought x ≡ false → lt x nought ≡ false → pos 0 ≡ whole_away x
unfolding lt whole_away
integer-zero nan a b = refl
integer-zero (inf s) a b = refl
integer-zero (fin true zero e) a b = ap (λ (n : ℕ). neg_ℤ (pos n)) (sym (zero-size e))
integer-zero (fin false zero e) a b = ap pos (sym (zero-size e))
integer-zero (fin false (suc m) e) a b = absurd (positive-size m e (ltb-false (0 * down e) (suc m * up e * 1) a))
integer-zero (fin true (suc m) e) a b = absurd (negative-size m e (ltb-false 0 (suc m * up e * 1 + 0 * down e) b))

-- ---- a number above zero and up to 2 ^ 30
pub record Modest (x : Float) : Type 0 where
  pub above : lt nought x ≡ true
  pub below : lt x coarse ≡ true
  pub size : whole_size x ≤ 1073741824

modest-at : (m : ℕ) (e : ℤ) → lt nought (fin false m e) ≡ true → m * up e * 1 ≤ 1073741824 * down e → Modest (fin false m e)
unfolding lt whole_size
modest-at m e a h = record {
  above = a;
  below = lt-ltb (m * up e * 1) (4503599627370496 * down e) (far (m * up e) (down e) (down_pos e) h);
  size = size-within m e 1073741824 (subst (λ (x : ℕ). x ≤ 1073741824 * down e) (mul-one (m * up e)) h);
}
  where
    far : (N D : ℕ) → 0 < D → N * 1 ≤ 1073741824 * D → N * 1 < 4503599627370496 * D
    far N D p h = omega arith

pub modest-above : (x : Float) → lt nought x ≡ true → le x (fin false 1 (pos 30)) ≡ true → Modest x
unfolding lt le
modest-above nan a b = absurd (false≢true a)
modest-above (inf true) a b = absurd (false≢true a)
modest-above (inf false) a b = absurd (false≢true b)
modest-above (fin true m e) a b = absurd (false≢true a)
modest-above (fin false m e) a b =
    let N = m * up e * 1 in
    let D = 1073741824 * down e in
    modest-at m e a (at_most N D (eqb N D) _ (λ q. le_of_eq (eqb-true N D q)) b)

pub modest-below : (x : Float) → lt x nought ≡ true → le (fin true 1 (pos 30)) x ≡ true → Modest (neg x)
unfolding lt le neg
modest-below nan a b = absurd (false≢true a)
modest-below (inf true) a b = absurd (false≢true b)
modest-below (inf false) a b = absurd (false≢true a)
modest-below (fin false m e) a b = absurd (not-below m e a)
modest-below (fin true m e) a b =
    let N = m * up e * 1 in
    let D = 1073741824 * down e in
    modest-at m e (negative-above (fin true m e) a) (at_most N D (eqb D N) _ (λ q. le_of_eq (sym (eqb-true D N q))) b)
