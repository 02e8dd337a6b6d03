-- A loop that writes a cell's values from the last to the first: what is written already stands behind the digits of what is left.
use mathlib.Core.List.{List, [], ◌∷◌, ◌++◌, append_assoc, append-nil}
use mathlib.Core.Path.{◌≡◌, sym, ap, ap₂, ◌∙◌}
use Prim.Native.Nat.{ℕ, suc, ◌+◌, ◌*◌, ◌/◌, ◌%◌, ◌<◌}
use native.Mathlib.Omega.{arith}
use lib.ListN.{length, set, drop, length-set, drop_of_length-le}
use lib.Seq.{drop-cons, get_or-set_same, drop-set-lt}
use Rattle.refusal.specs.declared.Cell.{Cell}
use Rattle.refusal.specs.Refusals.{raw_of}
use Rattle.bech32m.specs.Checksum.{digits}
use Rattle.bech32m.proofs.Digits.{length_digits, digits-snoc}
use Rattle.label.specs.Label.{data_of, data_width}

pub length-data : (c : Cell) → length (data_of c) ≡ data_width
unfolding data_of
length-data c = length_digits data_width (raw_of c * 4)

-- behind what is written stands what was there
drop-set : (l : List ℕ) (k v : ℕ) → k < length l → drop k (set l k v) ≡ v ∷ drop (suc k) l
drop-set l k v h =
    let long = length-set l k v in
    drop-cons (set l k v) k 0 (omega arith) ∙ ap₂ (λ (x : ℕ) (m : List ℕ). x ∷ m) (get_or-set_same l k v 0 h) (drop-set-lt (suc k) l k v (omega arith))

-- the lowest digit is written
one_written : (l : List ℕ) (k n : ℕ) → k < length l → digits (suc k) n ++ drop (suc k) l ≡ digits k (n / 32) ++ drop k (set l k (n % 32))
one_written l k n h =
    ap (λ (m : List ℕ). m ++ drop (suc k) l) (digits-snoc k n)
    ∙ append_assoc (digits k (n / 32)) (n % 32 ∷ []) (drop (suc k) l)
    ∙ ap (λ (m : List ℕ). digits k (n / 32) ++ m) (sym (drop-set l k (n % 32) h))

-- the values from place i on are written, and the others are those of what is left: together they are all
pub record Written (all values : List ℕ) (rest : Cell) (i : ℕ) : Type 0 where
  pub within : i < data_width
  pub long : length values ≡ data_width
  pub whole : digits i (raw_of rest) ++ drop i values ≡ all

pub written-more : (all values : List ℕ) (rest next : Cell) (i k : ℕ) → Written all values rest i → i ≡ k + 1 → raw_of next ≡ raw_of rest / 32 → Written all (set values k (rest.low % 32)) next k
unfolding raw_of
written-more all values rest next i k w e left =
    let n = raw_of rest in
    let last : rest.low % 32 ≡ n % 32 = omega arith in
    let up : i ≡ suc k = omega arith in
    record {
      within = omega (arith, w.within);
      long = length-set values k (rest.low % 32) ∙ w.long;
      whole =
          ap₂ (λ (m v : ℕ). digits k m ++ drop k (set values k v)) left last
          ∙ sym (one_written values k n (omega (arith, w.within, w.long)))
          ∙ ap (λ (j : ℕ). digits j n ++ drop j values) (sym up)
          ∙ w.whole;
    }

pub written_all : (all values : List ℕ) (rest : Cell) (i : ℕ) → Written all values rest i → i ≡ 0 → values ≡ all
unfolding digits
written_all all values rest i w e = ap (λ (j : ℕ). digits j (raw_of rest) ++ drop j values) (sym e) ∙ w.whole

-- and all are the cell's, where the last is written and an eighth is left
pub written_last : (c rest : Cell) (values : List ℕ) → length values ≡ data_width → raw_of rest ≡ raw_of c / 8 → digits 25 (raw_of rest) ++ drop 25 (set values 25 (c.low % 8 * 4)) ≡ data_of c
unfolding data_of raw_of
written_last c rest values long e =
    let n = raw_of c * 4 in
    let left : raw_of rest ≡ n / 32 = omega arith in
    let last : c.low % 8 * 4 ≡ n % 32 = omega arith in
    ap₂ (λ (m v : ℕ). digits 25 m ++ drop 25 (set values 25 v)) left last
    ∙ sym (one_written values 25 n (omega arith))
    ∙ ap (λ (m : List ℕ). digits 26 n ++ m) (drop_of_length-le values {i = 26} (omega arith))
    ∙ append-nil (digits 26 n)
