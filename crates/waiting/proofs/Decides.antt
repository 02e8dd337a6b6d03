-- Which of two entries is less: the first word in which they differ decides.
use mathlib.Core.Path.{◌≡◌, ap, ap₂, ◌∙◌}
use mathlib.Core.Logic.{◌≢◌}
use mathlib.Core.List.{List}
use Prim.Native.Nat.{ℕ, ◌+◌, ◌*◌, ◌^◌}
use lib.Dec.{ltb}
use Rattle.words.specs.Word.{Bytes, little, word}
use Rattle.words.proofs.Laws.{word_lt}
use Rattle.cell.proofs.Bits.{less-low, less-high, same_digits}
use Rattle.waiting.specs.declared.Entry.{Entry}
use Rattle.waiting.specs.Inner.Entries.{entry_key, entry_at, key_in, EntryWords}

abbrev head_of : Entry → ℕ
head_of e = e.f * 2 ^ 64 + e.cell.high

abbrev body_of : Entry → ℕ
body_of e = head_of e * 2 ^ 64 + e.cell.low

-- after the same words the next ones decide
next-decides : (h k a b : ℕ) → h ≡ k → ltb a b ≡ ltb (h * 2 ^ 64 + a) (k * 2 ^ 64 + b)
next-decides h k a b e = less-low (2 ^ 64) h a b ∙ ap (λ (n : ℕ). ltb (h * 2 ^ 64 + a) (n * 2 ^ 64 + b)) e

joined : {h k a b : ℕ} → h ≡ k → a ≡ b → h * 2 ^ 64 + a ≡ k * 2 ^ 64 + b
joined e d = ap₂ (λ (h a : ℕ). h * 2 ^ 64 + a) e d

module _ (a b : Entry) (v : EntryWords a) (w : EntryWords b) where
  body-decides : body_of a ≢ body_of b → ltb (body_of a) (body_of b) ≡ ltb (entry_key a) (entry_key b)
  unfolding entry_key
  body-decides ne = less-high (2 ^ 64) (body_of a) a.g (body_of b) b.g v.g-word w.g-word ne

  same-bodies : body_of a ≡ body_of b → (head_of a ≡ head_of b) × (a.cell.low ≡ b.cell.low)
  same-bodies e = same_digits (2 ^ 64) (head_of a) a.cell.low (head_of b) b.cell.low v.cell-words.low-word w.cell-words.low-word e

  head-decides : head_of a ≢ head_of b → ltb (head_of a) (head_of b) ≡ ltb (entry_key a) (entry_key b)
  head-decides ne =
      less-high (2 ^ 64) (head_of a) a.cell.low (head_of b) b.cell.low v.cell-words.low-word w.cell-words.low-word ne
      ∙ body-decides (λ e. ne (same-bodies e).0)

  same-heads : head_of a ≡ head_of b → (a.f ≡ b.f) × (a.cell.high ≡ b.cell.high)
  same-heads e = same_digits (2 ^ 64) a.f a.cell.high b.f b.cell.high v.cell-words.high_word w.cell-words.high_word e

  pub f-decides : a.f ≢ b.f → ltb a.f b.f ≡ ltb (entry_key a) (entry_key b)
  f-decides ne =
      less-high (2 ^ 64) a.f a.cell.high b.f b.cell.high v.cell-words.high_word w.cell-words.high_word ne
      ∙ head-decides (λ e. ne (same-heads e).0)

  pub high-decides : a.f ≡ b.f → a.cell.high ≢ b.cell.high → ltb a.cell.high b.cell.high ≡ ltb (entry_key a) (entry_key b)
  high-decides f ne = next-decides a.f b.f a.cell.high b.cell.high f ∙ head-decides (λ e. ne (same-heads e).1)

  pub low-decides : a.f ≡ b.f → a.cell.high ≡ b.cell.high → a.cell.low ≢ b.cell.low → ltb a.cell.low b.cell.low ≡ ltb (entry_key a) (entry_key b)
  low-decides f high ne = next-decides (head_of a) (head_of b) a.cell.low b.cell.low (joined f high) ∙ body-decides (λ e. ne (same-bodies e).1)

  pub g-decides : a.f ≡ b.f → a.cell.high ≡ b.cell.high → a.cell.low ≡ b.cell.low → ltb a.g b.g ≡ ltb (entry_key a) (entry_key b)
  unfolding entry_key
  g-decides f high low = next-decides (body_of a) (body_of b) a.g b.g (joined (joined f high) low)

-- ---- entries in bytes

module _ (l : List ℕ) (bytes : Bytes l) where
  pub words-at : (i : ℕ) → EntryWords (entry_at l i)
  words-at i =
      record {
        f-word = word_lt little 8 l (32 * i) bytes;
        cell-words = record { high_word = word_lt little 8 l (32 * i + 8) bytes; low-word = word_lt little 8 l (32 * i + 16) bytes };
        g-word = word_lt little 8 l (32 * i + 24) bytes;
      }

  pub f-decides-at : (i j : ℕ) → word little 8 l (32 * i) ≢ word little 8 l (32 * j) → ltb (word little 8 l (32 * i)) (word little 8 l (32 * j)) ≡ ltb (key_in l i) (key_in l j)
  unfolding key_in
  f-decides-at i j ne = f-decides (entry_at l i) (entry_at l j) (words-at i) (words-at j) ne

  pub f-decides-than : (e : Entry) → EntryWords e → (i : ℕ) → e.f ≢ word little 8 l (32 * i) → ltb e.f (word little 8 l (32 * i)) ≡ ltb (entry_key e) (key_in l i)
  unfolding key_in
  f-decides-than e w i ne = f-decides e (entry_at l i) w (words-at i) ne
