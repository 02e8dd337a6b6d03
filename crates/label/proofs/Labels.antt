-- A string in one case that is a cell's label, case aside, is read as that cell; and a string that is read as a cell is that cell's label, case aside: its characters are those of its
-- values, the first 26 of them the cell's digits and the last six the checksum of these.
use mathlib.Core.Bool.{Bool, true, false}
use mathlib.Core.List.{List, ◌++◌, map, map-map, map-id, map-append}
use mathlib.Core.Logic.{◌↔◌, ◌⊎◌, inl, inr, ⊎_elim}
use mathlib.Core.Path.{◌≡◌, refl, sym, ap, ap₂, ◌∙◌, subst}
use Prim.Native.Nat.{ℕ, ◌+◌, ◌*◌, ◌/◌, ◌%◌, ◌^◌, ◌<◌}
use native.Mathlib.Nat.{zero-add, mod-lt, mod-eq_of_lt, mul-lt-mul_of_pos_right, div-add-mod', div-lt_iff_lt-mul}
use native.Mathlib.Omega.{arith}
use borrow.Author.Tests.{eqb-true, eq-eqb}
use lib.Arith.{digits_lt}
use lib.Dec.{eqb, lit<}
use lib.ListN.{length, take, drop, length-append, length-drop, length-map, take-append-drop}
use lib.Seq.{take_at, length-take-le}
use Rattle.general.specs.Each.{Each}
use Rattle.general.specs.Refuse.{refuse_unless}
use Rattle.refusal.specs.declared.Cell.{Cell}
use Rattle.refusal.specs.declared.LabelFault.TheVariants.{Padding}
use Rattle.refusal.specs.Refusals.{raw_of, cell_of}
use Rattle.cell.specs.Terms.{Words}
use Rattle.cell.proofs.Laws.{cell-raw}
use Rattle.std.specs.Prelude.{None, Ok}
use Rattle.bech32m.specs.Text.{is_lower, is_upper, lowered}
use Rattle.bech32m.specs.Checksum.{character_of, value_of, digits, number_from, verified, created}
use Rattle.bech32m.specs.Valid.{is_unknown}
use Rattle.bech32m.proofs.Digits.{digits-below, digits_number, number_digits, number-below}
use Rattle.bech32m.proofs.Created.{length-created, created-below, created-verified, created-exactly}
use Rattle.bech32m.proofs.Letters.{lowered-not-upper}
use Rattle.bech32m.proofs.CharsetLaws.{value-character, character-lowered, value-lowered, character-value, known-value, value-known}
use Rattle.label.specs.Label.{prefix, beginning, data_width, data_of, label_of, mixed_at, values_in, bits_in, mistyped, read_of}
use Rattle.label.specs.Terms.{uppered}
use Rattle.label.proofs.Data.{length-data}
use Rattle.label.proofs.ListLaws.{each_append, each_take, each-drop, map-take, map-drop, map-agree, each_map, each-of-map}
use Rattle.label.proofs.Cases.{lowered-uppered, uppered-not-lower, lower-string, upper-string, one-case, all-lower, all_upper}
use Rattle.label.proofs.Reading.{Taken, values-small, padded, taken-read, is_past, read_taken}

-- ---- a cell's values

-- those of a label
abbrev values_of : Cell → List ℕ
values_of c = data_of c ++ created prefix (data_of c)

module _ (c : Cell) where
  values-below : Each (λ v. v < 32) (values_of c)
  unfolding data_of
  values-below = each_append (λ v. v < 32) (data_of c) (created prefix (data_of c)) (digits-below data_width (raw_of c * 4)) (created-below prefix (data_of c))

  -- 128 bits and two fit 26 values
  data-bits : Words c → number_from 0 (data_of c) ≡ raw_of c * 4
  unfolding data_of raw_of
  data-bits w =
      let n = raw_of c * 4 in
      let raw : raw_of c < 2 ^ 64 * 2 ^ 64 = digits_lt w.high_word w.low-word in
      let small : n < 32 ^ data_width = mul-lt-mul_of_pos_right raw (lit< tt) in
      number_digits 0 data_width n ∙ zero-add (n % 32 ^ data_width) ∙ mod-eq_of_lt small

  pub length_label : length (label_of c) ≡ 37
  unfolding label_of
  length_label =
      let long : length (values_of c) ≡ 32 = length-append (data_of c) (created prefix (data_of c)) ∙ ap₂ ◌+◌ (length-data c) (length-created prefix (data_of c)) in
      ap (λ (n : ℕ). 5 + n) (length-map (values_of c) character_of ∙ long)

  -- a label is in lower case
  label-lower : Each (λ b. is_upper b ≡ false) (label_of c)
  unfolding label_of
  label-lower =
      let lower = each_map character_of (λ v. v < 32) (λ b. is_upper b ≡ false) (λ v h. ap is_upper (sym (character-lowered v h)) ∙ lowered-not-upper (character_of v)) (values_of c) values-below in
      (refl, (refl, (refl, (refl, (refl, lower)))))

-- ---- the padding

no-padding : (n : ℕ) → padded (n * 4) ≡ Ok (cell_of n)
no-padding n =
    let none : n * 4 % 4 ≡ 0 = omega arith in
    let rest : n * 4 / 4 ≡ n = omega arith in
    ap (λ t. refuse_unless t (mistyped Padding 30) (Ok (cell_of (n * 4 / 4)))) (eq-eqb (n * 4 % 4) 0 none) ∙ ap (λ (m : ℕ). Ok (cell_of m)) rest

raw-cell : (n : ℕ) → raw_of (cell_of n) ≡ n
unfolding raw_of
raw-cell n = div-add-mod' n (2 ^ 64)

padded-cell : (bits : ℕ) (c : Cell) → padded bits ≡ Ok c → (cell_of (bits / 4) ≡ c) × (bits ≡ raw_of c * 4)
padded-cell bits c e = by-test (eqb (bits % 4) 0) refl e
  where
    by-test : (t : Bool) → eqb (bits % 4) 0 ≡ t → refuse_unless t (mistyped Padding 30) (Ok (cell_of (bits / 4))) ≡ Ok c → (cell_of (bits / 4) ≡ c) × (bits ≡ raw_of c * 4)
    by-test true f e =
        let same : cell_of (bits / 4) ≡ c = cc in
        let raw : raw_of c ≡ bits / 4 = ap raw_of (sym same) ∙ raw-cell (bits / 4) in
        let none = eqb-true (bits % 4) 0 f in
        (same, omega arith)
    by-test false f e = absurd (let z : ◌≡◌ {A = ℕ} 0 1 = cc in omega arith)

-- ---- a cell's label is read

module _ (s : List ℕ) (c : Cell) (same : map lowered s ≡ label_of c) where
  values_same : values_in s ≡ values_of c
  unfolding label_of
  values_same =
      let rest = drop 5 s in
      let vs = values_of c in
      let characters : map lowered rest ≡ map character_of vs = map-drop lowered 5 s ∙ ap (drop 5) same in
      let lower : map value_of (map lowered rest) ≡ map value_of rest = map-map value_of lowered rest ∙ simp value-lowered in
      let back : map value_of (map character_of vs) ≡ vs = map-map value_of character_of vs ∙ map-agree (λ v. value_of (character_of v)) (λ v. v) (λ v. v < 32) value-character vs (values-below c) ∙ map-id vs in
      sym lower ∙ ap (map value_of) characters ∙ back

  taken : mixed_at s ≡ None → Taken s
  unfolding label_of
  taken one = record {
    begins = map-take lowered 5 s ∙ ap (take 5) same;
    in-one-case = one;
    known = each-of-map value_of (λ b. is_unknown b ≡ false) (λ v. v < 32) value-known (drop 5 s) (subst (Each (λ v. v < 32)) (sym values_same) (values-below c));
    long = sym (length-map s lowered) ∙ ap length same ∙ length_label c;
    right = ap (verified prefix) values_same ∙ created-verified prefix (data_of c);
  }

  bits-same : Words c → bits_in s ≡ raw_of c * 4
  unfolding bits_in
  bits-same w =
      ap (λ (l : List ℕ). number_from 0 (take data_width l)) values_same ∙ ap (number_from 0) (take_at (data_of c) (created prefix (data_of c)) data_width (length-data c)) ∙ data-bits c w

  read-spelled : Words c → mixed_at s ≡ None → read_of s ≡ Ok c
  read-spelled w one = taken-read s (taken one) ∙ ap padded (bits-same w) ∙ no-padding (raw_of c) ∙ ap Ok (cell-raw c w)

-- in lower case, as it is written
pub read-written : (c : Cell) → Words c → read_of (label_of c) ≡ Ok c
unfolding label_of
read-written c w = let l = label_of c in read-spelled l c (lower-string l (label-lower c)) w (all-lower l refl (label-lower c))

-- and in upper case
read_upper : (c : Cell) → Words c → read_of (map uppered (label_of c)) ≡ Ok c
unfolding label_of
read_upper c w =
    let l = label_of c in
    let same : map lowered (map uppered l) ≡ map lowered l = map-map lowered uppered l ∙ simp lowered-uppered in
    let none = each_map uppered (λ b. is_upper b ≡ false) (λ b. is_lower b ≡ false) (λ b h. uppered-not-lower b) l (label-lower c) in
    read-spelled (map uppered l) c (same ∙ lower-string l (label-lower c)) w (all_upper (map uppered l) refl none)

-- ---- nothing else is

-- a string that is read has the characters of its values
spelled-by-values : (s : List ℕ) → Taken s → map lowered s ≡ beginning ++ map character_of (values_in s)
spelled-by-values s t =
    let rest = drop 5 s in
    let characters : map character_of (map value_of rest) ≡ map lowered rest = map-map character_of value_of rest ∙ map-agree (λ b. character_of (value_of b)) lowered (λ b. is_unknown b ≡ false) (λ b h. character-value b (known-value b h)) rest t.known in
    ap (map lowered) (sym (take-append-drop 5 s)) ∙ map-append lowered (take 5 s) rest ∙ ap₂ ◌++◌ t.begins (sym characters)

-- it has 32 values, and 26 of them are data
length-values : (s : List ℕ) → Taken s → length (values_in s) ≡ 32
length-values s t = let size = t.long in length-map (drop 5 s) value_of ∙ length-drop 5 s ∙ omega arith

length-first : (s : List ℕ) → Taken s → length (take data_width (values_in s)) ≡ data_width
length-first s t = length-take-le data_width (values_in s) (omega (arith, length-values s t))

-- and its values are those of the cell
values-read : (s : List ℕ) (c : Cell) → Taken s → bits_in s ≡ raw_of c * 4 → values_in s ≡ values_of c
unfolding bits_in data_of
values-read s c t e =
    let vs = values_in s in
    let first = take data_width vs in
    let six = drop data_width vs in
    let small = values-small s t in
    let long-six : length six ≡ 6 = length-drop data_width vs ∙ omega (arith, length-values s t) in
    let whole : first ++ six ≡ vs = take-append-drop data_width vs in
    let data-same : first ≡ data_of c = sym (digits_number 0 first (each_take (λ v. v < 32) data_width vs small)) ∙ ap₂ digits (length-first s t) e in
    let checksum : six ≡ created prefix first = (created-exactly prefix first six long-six (each-drop (λ v. v < 32) data_width vs small)).0 (ap (verified prefix) whole ∙ t.right) in
    sym whole ∙ ap (λ (l : List ℕ). first ++ l) checksum ∙ ap (λ (l : List ℕ). l ++ created prefix l) data-same

read-label : (s : List ℕ) (c : Cell) → read_of s ≡ Ok c → Taken s × (map lowered s ≡ label_of c)
unfolding label_of
read-label s c e =
    let t = read_taken s (ap is_past e) in
    let bits = (padded-cell (bits_in s) c (sym (taken-read s t) ∙ e)).1 in
    (t, spelled-by-values s t ∙ ap (λ (l : List ℕ). beginning ++ map character_of l) (values-read s c t bits))

-- 26 values are no more than 128 bits and two, so the cell that is read is of two words
pub words-read : (s : List ℕ) (c : Cell) → read_of s ≡ Ok c → Words c
unfolding bits_in
words-read s c e =
    let t = read_taken s (ap is_past e) in
    let first = take data_width (values_in s) in
    let below : bits_in s < 2 ^ 64 * 2 ^ 64 * 4 = subst (λ (n : ℕ). bits_in s < 32 ^ n) (length-first s t) (number-below first (each_take (λ v. v < 32) data_width (values_in s) (values-small s t))) in
    let bits : bits_in s / 4 < 2 ^ 64 * 2 ^ 64 = (div-lt_iff_lt-mul {k = 4} {y = 2 ^ 64 * 2 ^ 64} (lit< tt)).1 below in
    subst Words (padded-cell (bits_in s) c (sym (taken-read s t) ∙ e)).0
    (record { high_word = (div-lt_iff_lt-mul {k = 2 ^ 64} {y = 2 ^ 64} (lit< tt)).1 bits; low-word = mod-lt (bits_in s / 4) (lit< tt) })

-- a cell has one label, in either case
pub one_label : (s : List ℕ) (c : Cell) → Words c → (read_of s ≡ Ok c) ↔ ((s ≡ label_of c) ⊎ (s ≡ map uppered (label_of c)))
one_label s c w = (λ e. only (read-label s c e), ⊎_elim (λ h. ap read_of h ∙ read-written c w) (λ h. ap read_of h ∙ read_upper c w))
  where
    only : Taken s × (map lowered s ≡ label_of c) → (s ≡ label_of c) ⊎ (s ≡ map uppered (label_of c))
    only (t, same) = ⊎_elim (λ h. inl (sym (lower-string s h.1) ∙ same)) (λ h. inr (sym (upper-string s h.1) ∙ ap (map uppered) same)) (one-case s t.in-one-case)
