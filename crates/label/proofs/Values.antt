-- The values of a string whose characters are all known: each is below 32, and a loop that takes one more has the number of one more.
use mathlib.Core.Bool.{false}
use mathlib.Core.List.{List, [], ◌∷◌}
use mathlib.Core.Path.{◌≡◌, refl, sym, ap, subst, ◌∙◌}
use Prim.Native.Nat.{ℕ, zero, suc, ◌+◌, ◌*◌, ◌/◌, ◌%◌, ◌^◌, ◌≤◌, ◌<◌}
use native.Mathlib.Nat.{le_of_suc-le-suc, not-suc-le-zero, pow-le-pow_right, pow-succ'}
use native.Mathlib.Numerals.{add-one}
use native.Mathlib.Omega.{arith}
use lib.Dec.{lit<}
use lib.ListN.{length, get_or, take, drop, length-map, length-drop, get_or-map}
use lib.Seq.{take-suc, get_or-drop}
use Rattle.general.specs.Each.{Each}
use Rattle.refusal.specs.declared.Cell.{Cell}
use Rattle.refusal.specs.Refusals.{raw_of}
use Rattle.std.specs.Prelude.{None}
use Rattle.bech32m.specs.Checksum.{value_of, number_from}
use Rattle.bech32m.specs.Valid.{is_unknown}
use Rattle.bech32m.proofs.CharsetLaws.{known-value}
use Rattle.bech32m.proofs.Found.{none_passes}
use Rattle.bech32m.proofs.Digits.{number-snoc}
use Rattle.label.specs.Label.{label_width, unknown_at, values_in, bits_in}

-- ---- values below 32

each_at : (P : ℕ → Type 0) (l : List ℕ) → Each P l → (k : ℕ) → k < length l → P (get_or l k 0)
each_at P [] h k less = absurd (not-suc-le-zero less)
each_at P (x ∷ l) h zero less = h.0
each_at P (x ∷ l) h (suc k) less = each_at P l h.1 k (le_of_suc-le-suc less)

pub known-below : (s : List ℕ) → unknown_at s ≡ None → (k : ℕ) → 5 + k < length s → value_of (get_or s (5 + k) 0) < 32
unfolding unknown_at
known-below s e k h =
    let long = length-drop 5 s in
    known-value (get_or s (5 + k) 0) (rw get_or-drop at (each_at (λ b. is_unknown b ≡ false) (drop 5 s) (none_passes is_unknown 5 (drop 5 s) e) k (omega arith)))

-- ---- the number that they make

one_more : (s : List ℕ) (k : ℕ) → 5 + k < length s → number_from 0 (take (suc k) (values_in s)) ≡ number_from 0 (take k (values_in s)) * 32 + value_of (get_or s (5 + k) 0)
one_more s k h =
    let vs = values_in s in
    let long : length vs ≡ length (drop 5 s) = length-map (drop 5 s) value_of in
    let dropped = length-drop 5 s in
    let here : get_or vs k (value_of 0) ≡ value_of (get_or s (5 + k) 0) = get_or-map value_of (drop 5 s) k 0 ∙ ap value_of (get_or-drop 5 s k 0) in
    ap (number_from 0) (take-suc vs k (value_of 0) (omega arith))
    ∙ number-snoc 0 (take k vs) (get_or vs k (value_of 0))
    ∙ ap (λ (v : ℕ). number_from 0 (take k vs) * 32 + v) here

-- the cell has the bits of the first i values
pub record Gathered (s : List ℕ) (c : Cell) (i : ℕ) : Type 0 where
  pub within : i ≤ 25
  pub below : raw_of c < 32 ^ i
  pub number : raw_of c ≡ number_from 0 (take i (values_in s))

pub gathered_none : (s : List ℕ) → Gathered s (record { high = 0; low = 0 }) 0
unfolding raw_of number_from
gathered_none s = record { within = omega arith; below = lit< tt; number = refl }

module _ {s : List ℕ} {c : Cell} {i : ℕ} (h : Gathered s c i) (long : length s ≡ label_width) where
  pub gathered-more : (next : Cell) (v : ℕ) → i < 25 → v < 32 → v ≡ value_of (get_or s (5 + i) 0) → raw_of next ≡ raw_of c * 32 + v → Gathered s next (i + 1)
  gathered-more next v less small e g = record {
    within = omega arith;
    below = rw (add-one, pow-succ') (omega (arith, h.below));
    number =
        rw add-one
        (g
        ∙ (λ k. h.number k * 32 + e k)
        ∙ sym (one_more s i (omega arith)));
  }

  -- five bits more fit
  pub gathered-fits : i < 25 → raw_of c < 2 ^ 123
  gathered-fits less =
      let most : 32 ^ i ≤ 32 ^ 24 = pow-le-pow_right {n = 32} (lit< tt) {i = i} {j = 24} (omega arith) in
      omega (arith, h.below)

  module _ (past : 25 ≤ i) where
    last : i ≡ 25
    last = omega (arith, h.within)

    -- and at the end three
    pub gathered-all-fits : raw_of c < 2 ^ 125
    gathered-all-fits = subst (λ (k : ℕ). raw_of c < 32 ^ k) last h.below

    pub gathered-all : bits_in s / 4 ≡ raw_of c * 8 + value_of (get_or s 30 0) / 4
    unfolding bits_in
    gathered-all =
        let number : raw_of c ≡ number_from 0 (take 25 (values_in s)) = h.number ∙ ap (λ (k : ℕ). number_from 0 (take k (values_in s))) last in
        omega (arith, one_more s 25 (omega arith))

-- the last value has the padding
pub padding : (s : List ℕ) → length s ≡ label_width → bits_in s % 4 ≡ value_of (get_or s 30 0) % 4
unfolding bits_in
padding s long = omega (arith, one_more s 25 (omega arith))
