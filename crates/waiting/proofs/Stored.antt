-- An entry that is stored, or copied word by word: its place has its key, and the other places keep theirs.
use mathlib.Core.Path.{◌≡◌, refl, sym, ap, ◌∙◌, subst}
use mathlib.Core.Logic.{◌≢◌}
use mathlib.Core.List.{List}
use Prim.Native.Nat.{ℕ, ◌+◌, ◌*◌, ◌≤◌}
use native.Mathlib.Omega.{arith}
use lib.ListN.{length}
use Rattle.words.specs.Word.{little, word, stored}
use Rattle.words.proofs.Word.{Apart}
use Rattle.words.proofs.Laws.{length-stored, word-stored, word-stored-apart}
use Rattle.waiting.specs.declared.Entry.{Entry}
use Rattle.waiting.proofs.Heap.{Replaced}
use Rattle.waiting.specs.Inner.Entries.{entry_key, entry_at, key_in, entry_stored, EntryWords}

-- a word beside one that is stored
beside : (l : List ℕ) (p v q : ℕ) → Apart p 8 q 8 → word little 8 (stored little 8 l p v) q ≡ word little 8 l q
beside l p v q h = word-stored-apart little little 8 8 l p v q h

module _ (l : List ℕ) (i : ℕ) (e : Entry) where
  first : List ℕ
  first = stored little 8 l (32 * i) e.f

  second : List ℕ
  second = stored little 8 first (32 * i + 8) e.cell.high

  third : List ℕ
  third = stored little 8 second (32 * i + 16) e.cell.low

  fourth : List ℕ
  fourth = stored little 8 third (32 * i + 24) e.g

  all-four : entry_stored l i e ≡ fourth
  unfolding entry_stored fourth third second first
  all-four = refl

  long-first : length first ≡ length l
  unfolding first
  long-first = length-stored little 8 l (32 * i) e.f

  long-second : length second ≡ length l
  unfolding second
  long-second = length-stored little 8 first (32 * i + 8) e.cell.high ∙ long-first

  long-third : length third ≡ length l
  unfolding third
  long-third = length-stored little 8 second (32 * i + 16) e.cell.low ∙ long-second

  elsewhere : (q : ℕ) → Apart (32 * i) 32 q 8 → word little 8 fourth q ≡ word little 8 l q
  unfolding fourth third second first
  elsewhere q h =
      beside third (32 * i + 24) e.g q (omega arith)
      ∙ beside second (32 * i + 16) e.cell.low q (omega arith)
      ∙ beside first (32 * i + 8) e.cell.high q (omega arith)
      ∙ beside l (32 * i) e.f q (omega arith)

  module _ (room : 32 * i + 32 ≤ length l) (words : EntryWords e) where
    f-stored : word little 8 fourth (32 * i) ≡ e.f
    unfolding fourth third second first
    f-stored =
        beside third (32 * i + 24) e.g (32 * i) (omega arith)
        ∙ beside second (32 * i + 16) e.cell.low (32 * i) (omega arith)
        ∙ beside first (32 * i + 8) e.cell.high (32 * i) (omega arith)
        ∙ word-stored little 8 l (32 * i) e.f (omega arith) words.f-word

    high-stored : word little 8 fourth (32 * i + 8) ≡ e.cell.high
    unfolding fourth third second
    high-stored =
        beside third (32 * i + 24) e.g (32 * i + 8) (omega arith)
        ∙ beside second (32 * i + 16) e.cell.low (32 * i + 8) (omega arith)
        ∙ word-stored little 8 first (32 * i + 8) e.cell.high (omega (arith, long-first)) words.cell-words.high_word

    low-stored : word little 8 fourth (32 * i + 16) ≡ e.cell.low
    unfolding fourth third
    low-stored =
        beside third (32 * i + 24) e.g (32 * i + 16) (omega arith)
        ∙ word-stored little 8 second (32 * i + 16) e.cell.low (omega (arith, long-second)) words.cell-words.low-word

    g-stored : word little 8 fourth (32 * i + 24) ≡ e.g
    unfolding fourth
    g-stored = word-stored little 8 third (32 * i + 24) e.g (omega (arith, long-third)) words.g-word

    same-entry : entry_at fourth i ≡ e
    same-entry = λ t. record { f = f-stored t; cell = record { high = high-stored t; low = low-stored t }; g = g-stored t }

    other-entry : (j : ℕ) → j ≢ i → entry_at fourth j ≡ entry_at l j
    other-entry j ne =
        let f = elsewhere (32 * j) (omega arith) in
        let high = elsewhere (32 * j + 8) (omega arith) in
        let low = elsewhere (32 * j + 16) (omega arith) in
        let g = elsewhere (32 * j + 24) (omega arith) in
        λ t. record { f = f t; cell = record { high = high t; low = low t }; g = g t }

    pub stored-replaced : {after : List ℕ} → after ≡ entry_stored l i e → Replaced (key_in l) (key_in after) i (entry_key e)
    unfolding key_in
    stored-replaced same =
        subst (λ (x : List ℕ). Replaced (key_in l) (key_in x) i (entry_key e)) (sym (same ∙ all-four))
        (record { new = ap entry_key same-entry; others = λ j ne. ap entry_key (other-entry j ne) })

-- the words are read and stored in turn, and each is read before it is stored over
pub copied : (l first second third fourth : List ℕ) (i j f high low g : ℕ)
    → f ≡ word little 8 l (32 * i)
    → first ≡ stored little 8 l (32 * j) f
    → high ≡ word little 8 first (32 * i + 8)
    → second ≡ stored little 8 first (32 * j + 8) high
    → low ≡ word little 8 second (32 * i + 16)
    → third ≡ stored little 8 second (32 * j + 16) low
    → g ≡ word little 8 third (32 * i + 24)
    → fourth ≡ stored little 8 third (32 * j + 24) g
    → fourth ≡ entry_stored l j (entry_at l i)
unfolding entry_stored
copied l first second third fourth i j f high low g f-read f-put high_read high-put low_read low-put g-read g-put =
    let past-f : (q : ℕ) → Apart (32 * j) 8 q 8 → word little 8 first q ≡ word little 8 l q = λ q h. ap (λ (x : List ℕ). word little 8 x q) f-put ∙ beside l (32 * j) f q h in
    let past-high : (q : ℕ) → Apart (32 * j + 8) 8 q 8 → word little 8 second q ≡ word little 8 first q = λ q h. ap (λ (x : List ℕ). word little 8 x q) high-put ∙ beside first (32 * j + 8) high q h in
    let past-low : (q : ℕ) → Apart (32 * j + 16) 8 q 8 → word little 8 third q ≡ word little 8 second q = λ q h. ap (λ (x : List ℕ). word little 8 x q) low-put ∙ beside second (32 * j + 16) low q h in
    let high_is : high ≡ word little 8 l (32 * i + 8) = high_read ∙ past-f (32 * i + 8) (omega arith) in
    let low-is : low ≡ word little 8 l (32 * i + 16) = low_read ∙ past-high (32 * i + 16) (omega arith) ∙ past-f (32 * i + 16) (omega arith) in
    let g-is : g ≡ word little 8 l (32 * i + 24) = g-read ∙ past-low (32 * i + 24) (omega arith) ∙ past-high (32 * i + 24) (omega arith) ∙ past-f (32 * i + 24) (omega arith) in
    let read : Entry = record { f = f; cell = record { high = high; low = low }; g = g } in
    let read_is : read ≡ entry_at l i = λ t. record { f = f-read t; cell = record { high = high_is t; low = low-is t }; g = g-is t } in
    let put : fourth ≡ entry_stored l j read = cc in
    put ∙ ap (entry_stored l j) read_is
