-- What a comparison of a string's beginning with another's tells, at each place, is what the definition says of both.
use Rattle.std.specs.Prelude.{◌≡◌, false, ◌⊎◌, List, [], ◌∷◌, Some, None, ℕ, zero, suc, ◌+◌, ◌≤◌, ◌<◌, length, get_or}
use mathlib.Core.Path.{refl, sym, ap, ◌∙◌}
use mathlib.Core.Logic.{inl, inr, ⊎_elim}
use native.Mathlib.Nat.{add-zero}
use native.Mathlib.Omega.{arith}
use borrow.Author.Tests.{eq-eqb}
use lib.Dec.{eqb}
use Rattle.bech32m.specs.Text.{lowered}
use Rattle.label.specs.Label.{unlike_from}

-- at a place the string goes on as expected, case aside
abbrev pub Like : List ℕ → List ℕ → ℕ → Type 0
Like expected s k = (k < length s) × (lowered (get_or s k 0) ≡ get_or expected k 0)

-- it ends there, or goes on otherwise
abbrev pub NotLike : List ℕ → List ℕ → ℕ → Type 0
NotLike expected s k = (length s ≤ k) ⊎ (eqb (lowered (get_or s k 0)) (get_or expected k 0) ≡ false)

pub unlike-none : (i : ℕ) (expected s : List ℕ) → ((k : ℕ) → k < length expected → Like expected s k) → unlike_from i expected s ≡ None
unfolding unlike_from
unlike-none i [] s h = refl
unlike-none i (e ∷ expected) [] h = let l = h 0 (omega arith) in absurd (omega arith)
unlike-none i (e ∷ expected) (b ∷ s) h =
    rw (eq-eqb (lowered b) e (h 0 (omega arith)).1) (unlike-none (i + 1) expected s (λ k less. let l = h (suc k) (omega arith) in (omega arith, l.1)))

pub unlike-at : (i : ℕ) (expected s : List ℕ) (j : ℕ) → j < length expected → NotLike expected s j → ((k : ℕ) → k < j → Like expected s k) → unlike_from i expected s ≡ Some (i + j)
unfolding unlike_from
unlike-at i [] s j less n h = absurd (omega arith)
unlike-at i (e ∷ expected) [] zero less n h = ap Some (sym (add-zero i))
unlike-at i (e ∷ expected) [] (suc j) less n h = let l = h 0 (omega arith) in absurd (omega arith)
unlike-at i (e ∷ expected) (b ∷ s) zero less (inl past) h = absurd (omega arith)
unlike-at i (e ∷ expected) (b ∷ s) zero less (inr other) h = rw (other, add-zero)
unlike-at i (e ∷ expected) (b ∷ s) (suc j) less n h =
    rw (eq-eqb (lowered b) e (h 0 (omega arith)).1)
    (unlike-at (i + 1) expected s j (omega arith) (⊎_elim (λ past. inl (omega arith)) (λ other. inr other) n) (λ k before. let l = h (suc k) (omega arith) in (omega arith, l.1))
    ∙ ap Some (let next : i + 1 + j ≡ i + suc j = omega arith in next))
