-- A loop that fills a list of n with a function's values at another list of n, one store a turn.
use mathlib.Core.Path.{◌≡◌, sym, ap, ◌∙◌}
use mathlib.Core.List.{List, [], ◌∷◌, ◌++◌, map, map-append}
use Prim.Native.Nat.{ℕ, ◌+◌, ◌≤◌, ◌<◌}
use native.Mathlib.Omega.{arith}
use native.Mathlib.Numerals.{add-one}
use lib.ListN.{length, get_or, set, take, length-set}
use lib.Seq.{take-suc, take-suc-set, take_all}

-- the first i are filled
pub record Filled {A B : Type 0} (n : ℕ) (f : A → B) (from : List A) (to : List B) (i : ℕ) : Type 0 where
  pub within : i ≤ n
  pub long-from : length from ≡ n
  pub long-to : length to ≡ n
  pub done : take i to ≡ map f (take i from)

module _ {A B : Type 0} {n : ℕ} {f : A → B} {from : List A} {to : List B} {i : ℕ} (h : Filled n f from to i) where
  pub filled_more : (d : A) (v : B) → i < n → v ≡ f (get_or from i d) → Filled n f from (set to i v) (i + 1)
  filled_more d v less e = record {
    within = omega (arith, h.within);
    long-from = h.long-from;
    long-to = length-set to i v ∙ h.long-to;
    done =
        rw add-one
        (take-suc-set to i v (omega (arith, h.long-to))
        ∙ (λ k. h.done k ++ (e k ∷ []))
        ∙ sym (ap (map f) (take-suc from i d (omega (arith, h.long-from))) ∙ map-append f (take i from) (get_or from i d ∷ [])));
  }

  pub filled-all : n ≤ i → to ≡ map f from
  filled-all past =
      sym (take_all i to (omega (arith, h.long-to))) ∙ h.done ∙ ap (map f) (take_all i from (omega (arith, h.long-from)))
