-- Which f64 have a root, in terms of values alone: an x that is the whole number n, at most 2 ^ 64, with the sign +, has the root of n, and any other x is refused.
-- With `Nearest.root-nearest` that is the whole meaning of `square_root`. `HasValue x false n 1` says that x is finite, has the sign + and is n / 1 in size.
use Rattle.std.specs.Prelude.{Ok, Err}
use Rattle.std.proofs.Common.{◌≡◌, ℕ, ◌+◌, ◌*◌, ◌/◌, ◌%◌, ◌^◌, ◌<◌, ◌≤◌, Bool, true, false, cond, not, ◌&&◌, T, eqb, leb, ℤ, sym, refl, ap, ◌∙◌, subst, true≢false, le_trans, le_of_eq, add-zero, div-add-mod', mul-one, not-le_of_lt, mul-div_cancel, arith, le→leb, eqb→eq, leb→le}
use native.Mathlib.Nat.{mul-mod_left}
use lib.Dec.{nleb→lt}
use lib.Ieee.{Float, nan, inf, fin, up, down}
use lib.Ieee.Fits.{down_pos, and_i, and_l, and_r, eq→eqb}
use lib.Ieee.Exact.{HasValue}
use Rattle.refusal.specs.declared.Refusal.TheVariants.{OutOfRange}
use Rattle.root.specs.Root.{root_of, root_whole}

-- ---- a finite x with the sign +, by its fraction
module _ (m : ℕ) (e : ℤ) where
  pub in-range : m * up e % down e ≡ 0 → m * up e / down e ≤ 18446744073709551616 → root_of (fin false m e) ≡ Ok (root_whole (m * up e / down e))
  unfolding root_of
  in-range a b = go (eqb (m * up e % down e) 0 && leb (m * up e / down e) (2 ^ 64)) (and_i (eqb (m * up e % down e) 0) (leb (m * up e / down e) (2 ^ 64)) (eq→eqb a) (le→leb (m * up e / down e) (2 ^ 64) b))
    where
      go : (b : Bool) → T b → cond b (Ok (root_whole (m * up e / down e))) (Err OutOfRange) ≡ Ok (root_whole (m * up e / down e))
      go false t = elim t [ ]
      go true t = refl

  pub out_of_range : (m * up e % down e ≡ 0 → m * up e / down e ≤ 18446744073709551616 → ⊥) → root_of (fin false m e) ≡ Err OutOfRange
  unfolding root_of
  out_of_range n =
      go (eqb (m * up e % down e) 0 && leb (m * up e / down e) (2 ^ 64))
      (λ t.
      n (eqb→eq (m * up e % down e) 0 (and_l (eqb (m * up e % down e) 0) (leb (m * up e / down e) (2 ^ 64)) t))
      (leb→le (m * up e / down e) (2 ^ 64) (and_r (eqb (m * up e % down e) 0) (leb (m * up e / down e) (2 ^ 64)) t)))
    where
      go : (b : Bool) → (T b → ⊥) → cond b (Ok (root_whole (m * up e / down e))) (Err OutOfRange) ≡ Err OutOfRange
      go true k = absurd (k tt)
      go false k = refl

  -- the whole number that the fraction is
  whole_is : (n : ℕ) → HasValue (fin false m e) false n 1 → m * up e / down e ≡ n
  whole_is n h = ap (λ (x : ℕ). x / down e) (sym (mul-one (m * up e)) ∙ h.1) ∙ mul-div_cancel n (down_pos e)

-- A whole number up to 2 ^ 64 has the root of that number.
pub answers : (x : Float) (n : ℕ) → HasValue x false n 1 → n ≤ 18446744073709551616 → root_of x ≡ Ok (root_whole n)
answers nan n h l = elim h [ ]
answers (inf _) n h l = elim h [ ]
answers (fin true m e) n h l = absurd (true≢false h.0)
answers (fin false m e) n h l =
    let z : m * up e % down e ≡ 0 = ap (λ (x : ℕ). x % down e) (sym (mul-one (m * up e)) ∙ h.1) ∙ mul-mod_left n (down e) in
    in-range m e z (le_trans (le_of_eq (whole_is m e n h)) l) ∙ ap (λ (k : ℕ). Ok (root_whole k)) (whole_is m e n h)

-- Anything else is refused.
pub refuses : (x : Float) → ((n : ℕ) → HasValue x false n 1 → n ≤ 18446744073709551616 → ⊥) → root_of x ≡ Err OutOfRange
unfolding root_of
refuses nan h = refl
refuses (inf s) h = refl
refuses (fin true m e) h = refl
refuses (fin false m e) h =
    out_of_range m e (λ z l.
    h (m * up e / down e)
    (refl, mul-one (m * up e) ∙ sym (div-add-mod' (m * up e) (down e)) ∙ ap (λ (x : ℕ). m * up e / down e * down e + x) z ∙ add-zero (m * up e / down e * down e)) l)

-- A whole number that has an answer is at most 2 ^ 64.
pub answered : (x r : Float) (n : ℕ) → root_of x ≡ Ok r → HasValue x false n 1 → n ≤ 18446744073709551616
answered nan r n a h = elim h [ ]
answered (inf _) r n a h = elim h [ ]
answered (fin true m e) r n a h = absurd (true≢false h.0)
answered (fin false m e) r n a h = go (leb n 18446744073709551616) (leb→le n 18446744073709551616) (nleb→lt n 18446744073709551616)
  where
    never : Err OutOfRange ≡ Ok r → ⊥
    never e = let z : ◌≡◌ {A = ℕ} 0 1 = cc in omega arith

    go : (b : Bool) → (T b → n ≤ 18446744073709551616) → (T (not b) → 18446744073709551616 < n) → n ≤ 18446744073709551616
    go true f g = f tt
    go false f g = absurd (never (sym (out_of_range m e (λ z l. not-le_of_lt (g tt) (subst (λ (k : ℕ). k ≤ 18446744073709551616) (whole_is m e n h) l))) ∙ a))
