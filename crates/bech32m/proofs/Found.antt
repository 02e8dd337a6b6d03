-- Where no character of a string passes a test, and where the last one that does stands.
use mathlib.Core.Bool.{Bool, true, false, cond}
use mathlib.Core.List.{List, [], ◌∷◌}
use mathlib.Core.Path.{◌≡◌, refl, sym, ap, ◌∙◌}
use Prim.Native.Nat.{ℕ, zero, suc, ◌+◌, ◌≤◌, ◌<◌}
use native.Mathlib.Nat.{add-zero}
use native.Mathlib.Omega.{arith}
use lib.ListN.{length, get_or, drop}
use Rattle.general.specs.Each.{Each}
use Rattle.general.proofs.Tests.{contrary}
use Rattle.std.specs.Prelude.{Option, Some, None}
use Rattle.bech32m.specs.Text.{first_from, last_from, or_else, found, some_is}

pub somewhere : {Q : Type 0} {k : ℕ} → Some k ≡ None → Q
somewhere e = absurd (let z : ◌≡◌ {A = ℕ} 0 1 = cc in omega arith)

found_none : (p : Option ℕ) → found p ≡ false → p ≡ None
found_none (Some k) e = contrary refl e
found_none None e = refl

module _ (t : ℕ → Bool) where
  -- ---- none

  -- none is found exactly where no character passes
  pub none_passes : (i : ℕ) (s : List ℕ) → first_from t i s ≡ None → Each (λ b. t b ≡ false) s
  unfolding first_from
  none_passes i [] e = tt
  none_passes i (b ∷ s) e = by-test (t b) refl e (none_passes (i + 1) s)
    where
      by-test : (x : Bool) → t b ≡ x → cond x (Some i) (first_from t (i + 1) s) ≡ None → (first_from t (i + 1) s ≡ None → Each (λ b. t b ≡ false) s) → (t b ≡ false) × Each (λ b. t b ≡ false) s
      by-test true f e rest = somewhere e
      by-test false f e rest = (f, rest e)

  pub none_found : (i : ℕ) (s : List ℕ) → Each (λ b. t b ≡ false) s → first_from t i s ≡ None
  unfolding first_from
  none_found i [] h = refl
  none_found i (b ∷ s) h = ap (λ x. cond x (Some i) (first_from t (i + 1) s)) h.0 ∙ none_found (i + 1) s h.1

  pub none_is : (s : List ℕ) → some_is t s ≡ false → Each (λ b. t b ≡ false) s
  none_is s e = none_passes 0 s (found_none (first_from t 0 s) e)

  pub is_none : (s : List ℕ) → Each (λ b. t b ≡ false) s → some_is t s ≡ false
  is_none s h = ap found (none_found 0 s h)

  -- the first character is one
  pub first-is : (s : List ℕ) → 0 < length s → t (get_or s 0 0) ≡ true → some_is t s ≡ true
  unfolding first_from
  first-is [] h e = absurd (omega arith)
  first-is (b ∷ s) h e = ap (λ x. found (cond x (Some 0) (first_from t 1 s))) e

  -- ---- the last

  pub last_none : (i : ℕ) (s : List ℕ) → Each (λ b. t b ≡ false) s → last_from t i s ≡ None
  unfolding last_from
  last_none i [] h = refl
  last_none i (b ∷ s) h = rw (last_none (i + 1) s h.1, h.0)

  -- the one behind which there is none
  pub last-at : (i : ℕ) (s : List ℕ) (j : ℕ) → j < length s → t (get_or s j 0) ≡ true → Each (λ b. t b ≡ false) (drop (suc j) s) → last_from t i s ≡ Some (i + j)
  unfolding last_from
  last-at i [] j h e none = absurd (omega arith)
  last-at i (b ∷ s) zero h e none = rw (last_none (i + 1) s none, e, add-zero)
  last-at i (b ∷ s) (suc j) h e none = rw (last-at (i + 1) s j (omega arith) e none) (ap Some (let next : i + 1 + j ≡ i + suc j = omega arith in next))

  -- a place that is found is not before the first
  last-from : (i : ℕ) (s : List ℕ) (k : ℕ) → last_from t i s ≡ Some k → i ≤ k
  unfolding last_from
  last-from i [] k e = somewhere (sym e)
  last-from i (b ∷ s) k e = by-rest (last_from t (i + 1) s) (last-from (i + 1) s) (t b) e
    where
      by-rest : (p : Option ℕ) → ((m : ℕ) → p ≡ Some m → i + 1 ≤ m) → (x : Bool) → or_else p (cond x (Some i) None) ≡ Some k → i ≤ k
      by-rest (Some m) later x e = let same : m ≡ k = cc in let less = later m refl in omega arith
      by-rest None later true e = let same : i ≡ k = cc in omega arith
      by-rest None later false e = somewhere (sym e)

  -- the character there passes
  pub last-passes : (i : ℕ) (s : List ℕ) (j : ℕ) → last_from t i s ≡ Some (i + j) → t (get_or s j 0) ≡ true
  unfolding last_from
  last-passes i [] j e = somewhere (sym e)
  last-passes i (b ∷ s) j e = by-rest j (last_from t (i + 1) s) (last-from (i + 1) s) (last-passes (i + 1) s) (t b) refl e
    where
      by-rest : (j : ℕ) (p : Option ℕ) → ((m : ℕ) → p ≡ Some m → i + 1 ≤ m) → ((j : ℕ) → p ≡ Some (i + 1 + j) → t (get_or s j 0) ≡ true) → (x : Bool) → t b ≡ x → or_else p (cond x (Some i) None) ≡ Some (i + j) → t (get_or (b ∷ s) j 0) ≡ true
      by-rest zero (Some m) later rest x f e = absurd (let same : m ≡ i + 0 = cc in let less = later m refl in omega arith)
      by-rest (suc j) (Some m) later rest x f e = let same : m ≡ i + suc j = cc in rest j (ap Some (let next : m ≡ i + 1 + j = omega arith in next))
      by-rest zero None later rest true f e = f
      by-rest (suc j) None later rest true f e = absurd (let same : i ≡ i + suc j = cc in omega arith)
      by-rest j None later rest false f e = somewhere (sym e)
