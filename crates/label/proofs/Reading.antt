-- What reading a label tests before the padding: past those tests the answer is a cell or the padding's refusal, and such an answer says that all of them were passed.
use mathlib.Core.Bool.{Bool, true, false, cond}
use mathlib.Core.List.{List, [], ◌∷◌, map}
use mathlib.Core.Path.{◌≡◌, refl, ap, ap₂, ◌∙◌}
use Prim.Native.Nat.{ℕ, ◌+◌, ◌<◌, ◌/◌, ◌%◌}
use native.Mathlib.Omega.{arith}
use borrow.Author.Tests.{eqb-true, eq-eqb}
use lib.Dec.{eqb}
use lib.ListN.{length, take, drop}
use Rattle.refusal.specs.declared.Cell.{Cell}
use Rattle.refusal.specs.declared.Refusal.{Refusal}
use Rattle.general.specs.Each.{Each}
use Rattle.general.specs.Refuse.{refuse_unless}
use Rattle.general.proofs.Tests.{contrary}
use Rattle.refusal.specs.declared.LabelFault.{LabelFault}
use Rattle.refusal.specs.declared.LabelFault.TheVariants.{Prefix, MixedCase, Character, Length, Checksum, Padding}
use Rattle.refusal.specs.Refusals.{cell_of, row_of}
use Rattle.std.specs.Prelude.{Option, Some, None, Result, Ok, Err}
use Rattle.bech32m.specs.Text.{lowered}
use Rattle.bech32m.specs.Checksum.{value_of, verified}
use Rattle.bech32m.specs.Valid.{is_unknown}
use Rattle.bech32m.proofs.CharsetLaws.{known-value}
use Rattle.bech32m.proofs.Found.{somewhere, none_passes, none_found}
use Rattle.label.specs.Label.{prefix, beginning, label_width, unlike_from, mixed_at, unknown_at, values_in, bits_in, mistyped, refuse_at, read_values, read_of}
use Rattle.label.proofs.ListLaws.{each_map}

-- ---- the beginning

-- nothing is unlike exactly where the beginning is the one expected, case aside
nowhere-like : (i : ℕ) (e s : List ℕ) → unlike_from i e s ≡ None → map lowered (take (length e) s) ≡ e
unfolding unlike_from
nowhere-like i [] s h = refl
nowhere-like i (x ∷ e) [] h = somewhere h
nowhere-like i (x ∷ e) (b ∷ s) h = by-test (eqb (lowered b) x) refl h (nowhere-like (i + 1) e s)
  where
    by-test : (t : Bool) → eqb (lowered b) x ≡ t → cond t (unlike_from (i + 1) e s) (Some i) ≡ None → (unlike_from (i + 1) e s ≡ None → map lowered (take (length e) s) ≡ e) → lowered b ∷ map lowered (take (length e) s) ≡ x ∷ e
    by-test true f h rest = ap₂ (λ (y : ℕ) (l : List ℕ). y ∷ l) (eqb-true (lowered b) x f) (rest h)
    by-test false f h rest = somewhere h

like-nowhere : (i : ℕ) (e s : List ℕ) → map lowered (take (length e) s) ≡ e → unlike_from i e s ≡ None
unfolding unlike_from
like-nowhere i [] s h = refl
like-nowhere i (x ∷ e) [] h = absurd (let z : ◌≡◌ {A = ℕ} 0 1 = cc in omega arith)
like-nowhere i (x ∷ e) (b ∷ s) h =
    let first : lowered b ≡ x = cc in
    let rest : map lowered (take (length e) s) ≡ e = cc in
    ap (λ t. cond t (unlike_from (i + 1) e s) (Some i)) (eq-eqb (lowered b) x first) ∙ like-nowhere (i + 1) e s rest

-- ---- all tests but the padding's

-- what they ask of a string
pub record Taken (s : List ℕ) : Type 0 where
  pub begins : map lowered (take 5 s) ≡ beginning
  pub in-one-case : mixed_at s ≡ None
  pub known : Each (λ b. is_unknown b ≡ false) (drop 5 s)
  pub long : length s ≡ label_width
  pub right : verified prefix (values_in s) ≡ true

-- such a string has values behind its beginning
pub values-small : (s : List ℕ) → Taken s → Each (λ v. v < 32) (values_in s)
values-small s t = each_map value_of (λ b. is_unknown b ≡ false) (λ v. v < 32) known-value (drop 5 s) t.known

-- the answer past them
abbrev pub padded : ℕ → Result Cell Refusal
padded bits = refuse_unless (eqb (bits % 4) 0) (mistyped Padding 30) (Ok (cell_of (bits / 4)))

pub taken-read : (s : List ℕ) → Taken s → read_of s ≡ padded (bits_in s)
unfolding read_of read_values unknown_at
taken-read s t =
    ap (λ p. refuse_at Prefix p (refuse_at MixedCase (mixed_at s) (refuse_at Character (unknown_at s) (read_values s)))) (like-nowhere 0 beginning s t.begins)
    ∙ ap (λ p. refuse_at MixedCase p (refuse_at Character (unknown_at s) (read_values s))) t.in-one-case
    ∙ ap (λ p. refuse_at Character p (read_values s)) (none_found is_unknown 5 (drop 5 s) t.known)
    ∙ ap (λ b. refuse_unless b (mistyped Length (length s)) (refuse_unless (verified prefix (values_in s)) (mistyped Checksum (length s)) (padded (bits_in s)))) (eq-eqb (length s) label_width t.long)
    ∙ ap (λ b. refuse_unless b (mistyped Checksum (length s)) (padded (bits_in s))) t.right

-- an answer past them: a cell, or refusal 35
abbrev pub is_past : Result Cell Refusal → Bool
is_past (Ok c) = true
is_past (Err r) = eqb (row_of r).number 35

past-place : (fault : LabelFault) (p : Option ℕ) (rest : Result Cell Refusal) → ((k : ℕ) → is_past (mistyped fault k) ≡ false) → is_past (refuse_at fault p rest) ≡ true → (p ≡ None) × (is_past rest ≡ true)
past-place fault (Some k) rest f e = contrary e (f k)
past-place fault None rest f e = (refl, e)

past-test : (t : Bool) (refusal rest : Result Cell Refusal) → is_past refusal ≡ false → is_past (refuse_unless t refusal rest) ≡ true → (t ≡ true) × (is_past rest ≡ true)
past-test true refusal rest f e = (refl, e)
past-test false refusal rest f e = contrary e f

pub read_taken : (s : List ℕ) → is_past (read_of s) ≡ true → Taken s
unfolding read_of read_values unknown_at
read_taken s e =
    let behind = refuse_at Character (unknown_at s) (read_values s) in
    let checked = refuse_unless (verified prefix (values_in s)) (mistyped Checksum (length s)) (padded (bits_in s)) in
    let first = past-place Prefix (unlike_from 0 beginning s) (refuse_at MixedCase (mixed_at s) behind) (λ k. refl) e in
    let second = past-place MixedCase (mixed_at s) behind (λ k. refl) first.1 in
    let third = past-place Character (unknown_at s) (read_values s) (λ k. refl) second.1 in
    let fourth = past-test (eqb (length s) label_width) (mistyped Length (length s)) checked refl third.1 in
    let fifth = past-test (verified prefix (values_in s)) (mistyped Checksum (length s)) (padded (bits_in s)) refl fourth.1 in
    record {
      begins = nowhere-like 0 beginning s first.0;
      in-one-case = second.0;
      known = none_passes is_unknown 5 (drop 5 s) third.0;
      long = eqb-true (length s) label_width fourth.0;
      right = fifth.0;
    }
