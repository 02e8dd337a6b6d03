-- What a search through a string tells, at each place of it, is what the definitions say of the string: the first place that passes a test, the last one, and whether there is one.
use Rattle.std.specs.Prelude.{◌≡◌, Bool, true, false, List, [], ◌∷◌, Option, Some, None, MatchOption, ℕ, zero, suc, ◌+◌, ◌-◌, ◌≤◌, ◌<◌, length, get_or, drop}
use Rattle.std.specs.Bool.{MatchBool}
use mathlib.Core.Path.{sym, ap, ◌∙◌}
use native.Mathlib.Nat.{add-zero, zero-add}
use native.Mathlib.Omega.{arith}
use lib.ListN.{length-drop}
use lib.Seq.{get_or-drop}
use Rattle.general.specs.Each.{Each}
use Rattle.general.proofs.Tests.{contrary, whether}
use Rattle.bech32m.specs.Text.{first_from, last_from, some_is}
use Rattle.bech32m.proofs.Found.{none_found, none_is, is_none, last_none, last-at}

-- what holds at each place holds of each character
each-at : (P : ℕ → Type 0) (s : List ℕ) → ((k : ℕ) → k < length s → P (get_or s k 0)) → Each P s
each-at P [] h = tt
each-at P (b ∷ s) h = (h 0 (omega arith), each-at P s (λ k less. h (suc k) (omega arith)))

module _ (t : ℕ → Bool) where
  -- ---- the first

  -- r is the first place from `from` on that passes, if there is one
  abbrev pub First : ℕ → List ℕ → Option ℕ → Type 0
  First from s r =
      MatchOption r ((k : ℕ) → from ≤ k → k < length s → t (get_or s k 0) ≡ false)
      (λ i. (from ≤ i) × (i < length s) × (t (get_or s i 0) ≡ true) × ((k : ℕ) → from ≤ k → k < i → t (get_or s k 0) ≡ false))

  -- the one before which there is none
  first-at : (i : ℕ) (s : List ℕ) (j : ℕ) → j < length s → t (get_or s j 0) ≡ true → ((k : ℕ) → k < j → t (get_or s k 0) ≡ false) → first_from t i s ≡ Some (i + j)
  unfolding first_from
  first-at i [] j h e none = absurd (omega arith)
  first-at i (b ∷ s) zero h e none = rw (e, add-zero)
  first-at i (b ∷ s) (suc j) h e none =
      rw (none 0 (omega arith), first-at (i + 1) s j (omega arith) e (λ k less. none (suc k) (omega arith))) (ap Some (let next : i + 1 + j ≡ i + suc j = omega arith in next))

  pub first-told : (from : ℕ) (s : List ℕ) (r : Option ℕ) → First from s r → r ≡ first_from t from (drop from s)
  first-told from s None h =
      let long = length-drop from s in
      sym (none_found t from (drop from s) (each-at (λ b. t b ≡ false) (drop from s) (λ k less. rw get_or-drop (h (from + k) (omega arith) (omega arith)))))
  first-told from s (Some i) (above, less, e, none) =
      let long = length-drop from s in
      let j : ℕ = i - from in
      let here : from + j ≡ i = omega arith in
      ap Some (sym here)
      ∙ sym (first-at from (drop from s) j (omega arith) (rw (get_or-drop, here) e) (λ k before. rw get_or-drop (none (from + k) (omega arith) (omega arith))))

  -- ---- the last

  -- r is the last place that passes, if there is one
  abbrev pub Last : List ℕ → Option ℕ → Type 0
  Last s r =
      MatchOption r ((k : ℕ) → k < length s → t (get_or s k 0) ≡ false)
      (λ i. (i < length s) × (t (get_or s i 0) ≡ true) × ((k : ℕ) → i < k → k < length s → t (get_or s k 0) ≡ false))

  pub last-told : (s : List ℕ) (r : Option ℕ) → Last s r → r ≡ last_from t 0 s
  last-told s None h = sym (last_none t 0 s (each-at (λ b. t b ≡ false) s h))
  last-told s (Some i) (less, e, none) =
      let long = length-drop (suc i) s in
      ap Some (sym (zero-add i)) ∙ sym (last-at t 0 s i less e (each-at (λ b. t b ≡ false) (drop (suc i) s) (λ k below. rw get_or-drop (none (suc i + k) (omega arith) (omega arith)))))

  -- ---- any

  -- r says whether a place passes
  abbrev pub Anywhere : List ℕ → Bool → Type 0
  Anywhere s r = MatchBool r ((k : ℕ) × (k < length s) × (t (get_or s k 0) ≡ true)) ((k : ℕ) → k < length s → t (get_or s k 0) ≡ false)

  -- where none is found, none passes at any place
  none-at : (s : List ℕ) → Each (λ b. t b ≡ false) s → (k : ℕ) → k < length s → t (get_or s k 0) ≡ false
  none-at [] h k less = absurd (omega arith)
  none-at (b ∷ s) h zero less = h.0
  none-at (b ∷ s) h (suc k) less = none-at s h.1 k (omega arith)

  pub some-told : (s : List ℕ) (r : Bool) → Anywhere s r → r ≡ some_is t s
  some-told s false h = sym (is_none t s (each-at (λ b. t b ≡ false) s h))
  some-told s true (k, less, e) = whether (some_is t s) sym (λ f. contrary e (none-at s (none_is t s f) k less))
