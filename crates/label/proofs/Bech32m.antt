-- Reading a label goes past all tests but the padding's exactly at the strings that BIP 350 calls valid, with a label's length and prefix: no value's character is the separator, all of
-- them are printed, and the first character is a letter, so that one case is the other's absence.
use mathlib.Core.Bool.{Bool, true, false, not, ◌&&◌, and-false}
use mathlib.Core.List.{List, map, map-append, ◌++◌, ◌∷◌, []}
use mathlib.Core.Logic.{◌↔◌, inl, inr, ⊎_elim}
use mathlib.Core.Path.{◌≡◌, refl, sym, ap, ap₂, ◌∙◌, subst}
use Prim.Native.Nat.{ℕ, ◌+◌, ◌≤◌, ◌<◌, ◌/◌, ◌%◌}
use native.Mathlib.Omega.{arith}
use borrow.Author.Tests.{eqb-true, eq-eqb, ne_eqb, le-leb, not-true}
use lib.Dec.{eqb, leb, lit<, lit≤}
use lib.ListN.{length, get_or, take, drop, take-append-drop, get_or-map}
use lib.Seq.{take-suc, take-take, get_or-take}
use Rattle.general.specs.Each.{Each}
use Rattle.general.proofs.Tests.{both, contrary, on_test, whether}
use Rattle.refusal.specs.declared.LabelFault.TheVariants.{Padding}
use Rattle.refusal.specs.declared.Refusal.{Refusal}
use Rattle.refusal.specs.Refusals.{cell_of, number_of}
use Rattle.std.specs.Prelude.{Some, None, Ok, Err}
use Rattle.bech32m.specs.Text.{is_lower, is_upper, lowered, some_is}
use Rattle.bech32m.specs.Checksum.{value_of, index_of, verified}
use Rattle.bech32m.specs.Valid.{is_unknown, is_unprintable, is_separator, separator_of, is_mixed, is_valid_at, is_valid}
use Rattle.bech32m.proofs.Letters.{inside, is-inside, not-upper, lowered-digit}
use Rattle.bech32m.proofs.CharsetLaws.{character-printed, character-value}
use Rattle.bech32m.proofs.Found.{none_is, is_none, first-is, last-at, last-passes}
use Rattle.label.specs.Label.{prefix, beginning, values_in, bits_in, mistyped, mixed_at, read_of}
use Rattle.label.specs.Terms.{IsPast, IsLabel}
use Rattle.label.proofs.ListLaws.{each_append, map-take, each-of-map}
use Rattle.label.proofs.Cases.{one-case, all-lower, all_upper}
use Rattle.label.proofs.Reading.{Taken, values-small, padded, taken-read, is_past, read_taken}

-- ---- tests

also : {a b : Bool} → a ≡ true → b ≡ true → (a && b) ≡ true
also e f = ap₂ ◌&&◌ e f

other : (a b : Bool) → not (a && b) ≡ true → (a ≡ true → b ≡ false) × (b ≡ true → a ≡ false)
other true b e = (λ h. not-true b e, λ h. contrary h (not-true b e))
other false b e = (λ h. contrary h refl, λ h. refl)

-- ---- characters

abbrev Printed : ℕ → Type 0
Printed b = (33 ≤ b) × (b ≤ 126)

printed : (b : ℕ) → Printed (lowered b) → is_unprintable b ≡ false
printed b =
    on_test (λ (x : ℕ). Printed x → is_unprintable b ≡ false) (is_upper b) (b + 32) b
    (λ u r. let h = inside 65 90 b u in ap not (is-inside 33 126 b (omega arith) (omega arith)))
    (λ u r. ap not (is-inside 33 126 b r.0 r.1))

value-printed : (b : ℕ) → value_of b < 32 → is_unprintable b ≡ false
value-printed b h = printed b (subst Printed (character-value b h) (character-printed (value_of b) h))

-- the separator has no value
value-no-separator : (b : ℕ) → value_of b < 32 → is_separator b ≡ false
unfolding value_of index_of
value-no-separator b h = ne_eqb b 49 (λ e. let none : value_of b ≡ 32 = ap value_of e in omega arith)

-- a character that is c in lower case and is no lower case letter is one of upper case
upper-c : (b : ℕ) → lowered b ≡ 99 → is_lower b ≡ false → is_upper b ≡ true
upper-c b e f =
    whether (is_upper b) (λ u. u) (λ u. let same : b ≡ 99 = sym (not-upper b u) ∙ e in contrary (ap is_lower same) f)

-- a character of the beginning
expected : (s : List ℕ) (k : ℕ) → k < 5 → map lowered (take 5 s) ≡ beginning → lowered (get_or s k 0) ≡ get_or beginning k 0
expected s k h e = ap lowered (sym (get_or-take 5 s k 0 h)) ∙ sym (get_or-map lowered (take 5 s) k 0) ∙ ap (λ (l : List ℕ). get_or l k 0) e

-- ---- a string past the tests is a label of BIP 350

module _ (s : List ℕ) (t : Taken s) where
  separator : get_or s 4 0 ≡ 49
  separator = lowered-digit (get_or s 4 0) 49 (lit< tt) (expected s 4 (lit< tt) t.begins)

  separated : separator_of s ≡ Some 4
  unfolding separator_of
  separated =
      let long = t.long in
      last-at is_separator 0 s 4 (omega arith) (eq-eqb (get_or s 4 0) 49 separator)
      (each-of-map value_of (λ b. is_separator b ≡ false) (λ v. v < 32) value-no-separator (drop 5 s) (values-small s t))

  prefixed : map lowered (take 4 s) ≡ prefix
  prefixed = ap (map lowered) (sym (take-take 4 5 s (lit≤ tt))) ∙ map-take lowered 4 (take 5 s) ∙ ap (take 4) t.begins

  all-printed : Each (λ b. is_unprintable b ≡ false) s
  all-printed =
      let P : ℕ → Type 0 = λ b. is_unprintable b ≡ false in
      let five : Each Printed beginning = ((lit≤ tt, lit≤ tt), ((lit≤ tt, lit≤ tt), ((lit≤ tt, lit≤ tt), ((lit≤ tt, lit≤ tt), ((lit≤ tt, lit≤ tt), tt))))) in
      let first : Each P (take 5 s) = each-of-map lowered P Printed printed (take 5 s) (subst (Each Printed) (sym t.begins) five) in
      let rest : Each P (drop 5 s) = each-of-map value_of P (λ v. v < 32) value-printed (drop 5 s) (values-small s t) in
      subst (Each P) (take-append-drop 5 s) (each_append P (take 5 s) (drop 5 s) first rest)

  not-mixed : is_mixed s ≡ false
  unfolding is_mixed
  not-mixed =
      ⊎_elim (λ h. ap (λ b. some_is is_lower s && b) (is_none is_upper s h.1) ∙ and-false (some_is is_lower s))
      (λ h. ap (λ b. b && some_is is_upper s) (is_none is_lower s h.1))
      (one-case s t.in-one-case)

  valid-behind : is_valid_at s (Some 4) ≡ true
  unfolding is_valid_at
  valid-behind =
      let long = t.long in
      also
      (also (also refl (le-leb 11 (length s) (omega arith))) (ap not (is_none is_unknown (drop 5 s) t.known)))
      (ap (λ (p : List ℕ). verified p (map value_of (drop 5 s))) prefixed ∙ t.right)

  taken-label : IsLabel s
  unfolding is_valid
  taken-label = let long = t.long in record {
    long = t.long;
    valid =
        also
        (also (also (ap not (is_none is_unprintable s all-printed)) (ap not not-mixed)) (le-leb (length s) 90 (omega arith)))
        (ap (is_valid_at s) separated ∙ valid-behind);
    separated = separated;
    prefixed = prefixed;
  }

-- ---- and the other way round

module _ (s : List ℕ) (l : IsLabel s) where
  -- BIP 350's tests, one by one
  record Tested : Type 0 where
    one : not (is_mixed s) ≡ true
    known : not (some_is is_unknown (drop 5 s)) ≡ true
    right : verified (map lowered (take 4 s)) (map value_of (drop 5 s)) ≡ true

  tested : Tested
  unfolding is_valid is_valid_at
  tested =
      let all = both (not (some_is is_unprintable s) && not (is_mixed s) && leb (length s) 90) (is_valid_at s (separator_of s)) l.valid in
      let size = both (not (some_is is_unprintable s) && not (is_mixed s)) (leb (length s) 90) all.0 in
      let case = both (not (some_is is_unprintable s)) (not (is_mixed s)) size.0 in
      let here : is_valid_at s (Some 4) ≡ true = ap (is_valid_at s) (sym l.separated) ∙ all.1 in
      let sum = both (leb 1 4 && leb 11 (length s) && not (some_is is_unknown (drop 5 s))) (verified (map lowered (take 4 s)) (map value_of (drop 5 s))) here in
      let known = both (leb 1 4 && leb 11 (length s)) (not (some_is is_unknown (drop 5 s))) sum.0 in
      record { one = case.1; known = known.1; right = sum.1 }

  begins : map lowered (take 5 s) ≡ beginning
  unfolding separator_of
  begins =
      let long = l.long in
      let one : get_or s 4 0 ≡ 49 = eqb-true (get_or s 4 0) 49 (last-passes is_separator 0 s 4 l.separated) in
      ap (map lowered) (take-suc s 4 0 (omega arith)) ∙ map-append lowered (take 4 s) (get_or s 4 0 ∷ []) ∙ ap₂ (λ (p : List ℕ) (b : ℕ). p ++ (lowered b ∷ [])) l.prefixed one

  in-one-case : mixed_at s ≡ None
  unfolding is_mixed
  in-one-case =
      let long = l.long in
      let some : 0 < length s = omega arith in
      let absent = other (some_is is_lower s) (some_is is_upper s) tested.one in
      whether (is_lower (get_or s 0 0)) (λ e. all-lower s e (none_is is_upper s (absent.0 (first-is is_lower s some e))))
      (λ e. all_upper s e (none_is is_lower s (absent.1 (first-is is_upper s some (upper-c (get_or s 0 0) (expected s 0 (lit< tt) begins) e)))))

  label-taken : Taken s
  label-taken = record {
    begins = begins;
    in-one-case = in-one-case;
    known = none_is is_unknown (drop 5 s) (not-true (some_is is_unknown (drop 5 s)) tested.known);
    long = l.long;
    right = ap (λ (p : List ℕ). verified p (values_in s)) (sym l.prefixed) ∙ tested.right;
  }

-- ---- both

past-padded : (bits : ℕ) → IsPast (padded bits)
past-padded bits = on_test IsPast (eqb (bits % 4) 0) (Ok (cell_of (bits / 4))) (mistyped Padding 30) (λ e. inl (cell_of (bits / 4), refl)) (λ e. inr refl)

pub label-is-bech32m : (s : List ℕ) → IsPast (read_of s) ↔ IsLabel s
label-is-bech32m s =
    (λ p. taken-label s (read_taken s (⊎_elim (λ h. ap is_past h.1) (λ e. ap is_past e) p)), λ l. let t = label-taken s l in subst IsPast (sym (taken-read s t)) (past-padded (bits_in s)))

-- refusal 35 is that of the padding alone
pub padding-of-label : (s : List ℕ) (r : Refusal) → read_of s ≡ Err r → number_of r ≡ 35 → IsLabel s
padding-of-label s r e n = taken-label s (read_taken s (ap is_past e ∙ eq-eqb (number_of r) 35 n))
