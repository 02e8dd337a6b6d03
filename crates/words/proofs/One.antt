-- A word of one byte, by which a word of two is read and stored.
use mathlib.Core.Path.{◌≡◌, refl}
use mathlib.Core.List.{List, [], ◌∷◌}
use Prim.Native.Nat.{ℕ, ◌+◌, ◌*◌, ◌/◌, ◌%◌, ◌≤◌, ◌<◌}
use native.Mathlib.Omega.{arith}
use lib.ListN.{length, get_or, set}
use lib.Seq.{drop-cons}
use Rattle.words.specs.Word.{Order, big, little, low_digits, number, ordered, bytes_of, word, stored}
use Rattle.words.proofs.Laws.{word-split-big, stored-split-big}

one-ordered : (o : Order) (x : ℕ) → ordered o (x ∷ []) ≡ x ∷ []
unfolding ordered
one-ordered big x = refl
one-ordered little x = refl

word-one : (o : Order) (l : List ℕ) (p : ℕ) → p < length l → word o 1 l p ≡ get_or l p 0
unfolding word number
word-one o l p h = rw (drop-cons l p 0 h, one-ordered) (omega arith)

stored_one : (o : Order) (l : List ℕ) (p v : ℕ) → stored o 1 l p v ≡ set l p (v % 256)
unfolding stored bytes_of low_digits
stored_one o l p v = rw one-ordered

pub word_two : (l : List ℕ) (p : ℕ) → p + 2 ≤ length l → word big 2 l p ≡ get_or l (p + 1) 0 + 256 * get_or l p 0
word_two l p h = rw (word-split-big 1 1 l p (omega arith), word-one big l p (omega arith), word-one big l (p + 1) (omega arith))

pub stored-two : (l : List ℕ) (p v : ℕ) → stored big 2 l p v ≡ set (set l p (v / 256 % 256)) (p + 1) (v % 256)
stored-two l p v =
    let low : v % 256 % 256 ≡ v % 256 = omega arith in
    rw (stored-split-big 1 1 l p v, stored_one, stored_one, low)
