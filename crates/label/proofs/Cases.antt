-- A label is read in either case: upper and lower case make each other again in a string that has one of them only.
use mathlib.Core.Bool.{Bool, true, false, cond}
use mathlib.Core.List.{List, map, map-map, map-id}
use mathlib.Core.Logic.{◌⊎◌, inl, inr}
use mathlib.Core.Path.{◌≡◌, refl, sym, ap, ◌∙◌}
use Prim.Native.Nat.{ℕ, ◌+◌, ◌-◌}
use native.Mathlib.Nat.{add-sub_cancel}
use native.Mathlib.Omega.{arith}
use lib.ListN.{get_or}
use Rattle.general.specs.Each.{Each}
use Rattle.general.proofs.Tests.{on_test}
use Rattle.std.specs.Prelude.{None}
use Rattle.bech32m.specs.Text.{is_lower, is_upper, lowered, first_from}
use Rattle.bech32m.proofs.Letters.{inside, is-inside, is-outside, not-upper}
use Rattle.bech32m.proofs.Found.{none_passes, none_found}
use Rattle.label.specs.Label.{mixed_at}
use Rattle.label.specs.Terms.{uppered}
use Rattle.label.proofs.ListLaws.{map-agree}

-- ---- a letter

uppered-lowered : (b : ℕ) → is_lower b ≡ false → uppered (lowered b) ≡ b
uppered-lowered b e =
    on_test (λ (x : ℕ). uppered x ≡ b) (is_upper b) (b + 32) b
    (λ u. let r = inside 65 90 b u in ap (λ t. cond t (b + 32 - 32) (b + 32)) (is-inside 97 122 (b + 32) (omega arith) (omega arith)) ∙ add-sub_cancel b 32)
    (λ u. ap (λ t. cond t (b - 32) b) e)

pub lowered-uppered : (b : ℕ) → lowered (uppered b) ≡ lowered b
lowered-uppered b =
    on_test (λ (x : ℕ). lowered x ≡ lowered b) (is_lower b) (b - 32) b
    (λ l. let r = inside 97 122 b l in
    let back : b - 32 + 32 ≡ b = omega arith in
    ap (λ t. cond t (b - 32 + 32) (b - 32)) (is-inside 65 90 (b - 32) (omega arith) (omega arith)) ∙ back ∙ sym (not-upper b (is-outside 65 90 b (λ h k. omega arith))))
    (λ l. refl)

pub uppered-not-lower : (b : ℕ) → is_lower (uppered b) ≡ false
uppered-not-lower b =
    on_test (λ (x : ℕ). is_lower x ≡ false) (is_lower b) (b - 32) b (λ l. is-outside 97 122 (b - 32) (λ h k. let r = inside 97 122 b l in omega arith)) (λ l. l)

-- ---- a string

pub lower-string : (s : List ℕ) → Each (λ b. is_upper b ≡ false) s → map lowered s ≡ s
lower-string s h = map-agree lowered (λ b. b) (λ b. is_upper b ≡ false) not-upper s h ∙ map-id s

pub upper-string : (s : List ℕ) → Each (λ b. is_lower b ≡ false) s → map uppered (map lowered s) ≡ s
upper-string s h = map-map uppered lowered s ∙ map-agree (λ b. uppered (lowered b)) (λ b. b) (λ b. is_lower b ≡ false) uppered-lowered s h ∙ map-id s

module _ (s : List ℕ) where
  -- one case, by that of the first character
  pub one-case : mixed_at s ≡ None → ((is_lower (get_or s 0 0) ≡ true) × Each (λ b. is_upper b ≡ false) s) ⊎ ((is_lower (get_or s 0 0) ≡ false) × Each (λ b. is_lower b ≡ false) s)
  unfolding mixed_at
  one-case e = by_first (is_lower (get_or s 0 0)) refl e
    where
      by_first : (t : Bool) → is_lower (get_or s 0 0) ≡ t → first_from (cond t is_upper is_lower) 0 s ≡ None → ((is_lower (get_or s 0 0) ≡ true) × Each (λ b. is_upper b ≡ false) s) ⊎ ((is_lower (get_or s 0 0) ≡ false) × Each (λ b. is_lower b ≡ false) s)
      by_first true f e = inl (f, none_passes is_upper 0 s e)
      by_first false f e = inr (f, none_passes is_lower 0 s e)

  pub all-lower : is_lower (get_or s 0 0) ≡ true → Each (λ b. is_upper b ≡ false) s → mixed_at s ≡ None
  unfolding mixed_at
  all-lower e h = ap (λ t. first_from (cond t is_upper is_lower) 0 s) e ∙ none_found is_upper 0 s h

  pub all_upper : is_lower (get_or s 0 0) ≡ false → Each (λ b. is_lower b ≡ false) s → mixed_at s ≡ None
  unfolding mixed_at
  all_upper e h = ap (λ t. first_from (cond t is_upper is_lower) 0 s) e ∙ none_found is_lower 0 s h
