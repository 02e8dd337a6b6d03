-- A word of four bytes, written out as the code reads and stores it.
use mathlib.Core.Path.{◌≡◌}
use mathlib.Core.List.{List, [], ◌∷◌}
use Prim.Native.Nat.{ℕ, suc, ◌+◌, ◌/◌, ◌%◌, ◌≤◌, ◌<◌}
use native.Mathlib.Nat.{div-div-eq-div-mul}
use native.Mathlib.Numerals.{add-one}
use native.Mathlib.Omega.{arith}
use lib.ListN.{length, get_or, set, take, drop}
use lib.Seq.{sets, drop-cons}
use Rattle.words.specs.Word.{Order, low_digits, number, ordered, bytes_of, word, stored}

first : (l : List ℕ) (p n : ℕ) → p < length l → take (suc n) (drop p l) ≡ get_or l p 0 ∷ take n (drop (p + 1) l)
first l p n h = rw (add-one, drop-cons l p 0 h)

pub word-four : (o : Order) (l : List ℕ) (p : ℕ) → p + 4 ≤ length l
    → word o 4 l p ≡ number (ordered o (get_or l p 0 ∷ get_or l (p + 1) 0 ∷ get_or l (p + 2) 0 ∷ get_or l (p + 3) 0 ∷ []))
unfolding word
word-four o l p h =
    let two : p + 1 + 1 ≡ p + 2 = omega arith in
    let three : p + 2 + 1 ≡ p + 3 = omega arith in
    rw (first l p 3 (omega arith), first l (p + 1) 2 (omega arith), two, first l (p + 2) 1 (omega arith), three, first l (p + 3) 0 (omega arith))

digits-four : (v : ℕ) → low_digits 4 v ≡ v % 256 ∷ v / 256 % 256 ∷ v / 65536 % 256 ∷ v / 16777216 % 256 ∷ []
unfolding low_digits
digits-four v = rw (div-div-eq-div-mul v 256 256, div-div-eq-div-mul v 65536 256)

pub stored-four : (o : Order) (l : List ℕ) (p v : ℕ)
    → stored o 4 l p v ≡ sets l p (ordered o (v % 256 ∷ v / 256 % 256 ∷ v / 65536 % 256 ∷ v / 16777216 % 256 ∷ []))
unfolding stored bytes_of
stored-four o l p v = rw digits-four

pub sets-four : (l : List ℕ) (p a b c d : ℕ) → sets l p (a ∷ b ∷ c ∷ d ∷ []) ≡ set (set (set (set l p a) (p + 1) b) (p + 2) c) (p + 3) d
sets-four l p a b c d =
    let one : p + 1 ≡ suc p = omega arith in
    let two : p + 2 ≡ suc (suc p) = omega arith in
    let three : p + 3 ≡ suc (suc (suc p)) = omega arith in
    rw (one, two, three)
