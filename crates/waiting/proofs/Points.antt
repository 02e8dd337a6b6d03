-- Points of the ascending keys, of pushes and of pops, by computation.
use mathlib.Core.Path.{◌≡◌, refl}
use mathlib.Core.List.{List, [], ◌∷◌}
use Prim.Native.Nat.{ℕ}
use lib.ListN.{replicate}
use Rattle.words.specs.Word.{low_digits, number, ordered, bytes_of, word, stored}
use Rattle.waiting.specs.declared.Entry.{Entry}
use Rattle.waiting.specs.Inner.Entries.{entry_key, key_in, entry_stored}
use Rattle.waiting.specs.Inner.Sorted.{insert_key, ascending_keys, sorted_keys}
use Rattle.waiting.specs.Inner.Sift.{risen_in, first_least, child_in, dug_in, push_in, pop_in}

pub key-between : insert_key 2 (1 ∷ 3 ∷ []) ≡ 1 ∷ 2 ∷ 3 ∷ []
unfolding insert_key
key-between = refl

abbrev waits : ℕ → ℕ → Entry
waits f g = record { f = f; cell = record { high = 0; low = 5 }; g = g }

-- three entries of one cell: the least f first, and of one f the least g
pub three-wait : sorted_keys (entry_stored (entry_stored (entry_stored (replicate 96 0) 0 (waits 7 9)) 1 (waits 7 8)) 2 (waits 6 9)) 3 ≡ entry_key (waits 6 9) ∷ entry_key (waits 7 8) ∷ entry_key (waits 7 9) ∷ []
unfolding sorted_keys ascending_keys insert_key key_in entry_key entry_stored low_digits number ordered bytes_of word stored
three-wait = refl

-- two entries, one after the other
abbrev two : Entry → Entry → List ℕ
two a b = entry_stored (entry_stored (replicate 64 0) 0 a) 1 b

-- a pop leaves the last entry where it stood, too
pub pop-of-two : pop_in (two (waits 6 9) (waits 7 8)) 2 ≡ two (waits 7 8) (waits 7 8)
unfolding pop_in dug_in child_in first_least risen_in key_in entry_key entry_stored low_digits number ordered bytes_of word stored
pop-of-two = refl

-- it takes the first entry, also of bytes that are no heap
pub pop-of-no-heap : pop_in (two (waits 7 8) (waits 6 9)) 2 ≡ two (waits 6 9) (waits 6 9)
unfolding pop_in dug_in child_in first_least risen_in key_in entry_key entry_stored low_digits number ordered bytes_of word stored
pop-of-no-heap = refl

-- a push rises above what is greater
pub push-above : push_in (two (waits 7 8) (waits 0 0)) 1 (waits 6 9) ≡ two (waits 6 9) (waits 7 8)
unfolding push_in risen_in key_in entry_key entry_stored low_digits number ordered bytes_of word stored
push-above = refl
