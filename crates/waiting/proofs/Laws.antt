-- What follows of waiting entries from the definitions alone.
use mathlib.Core.Path.{◌≡◌, refl, ap, ◌∙◌}
use mathlib.Core.Bool.{Bool, true, false, cond}
use mathlib.Core.List.{List, [], ◌∷◌}
use Prim.Native.Nat.{ℕ, zero, suc, ◌+◌, ◌*◌, ◌/◌, ◌%◌, ◌^◌}
use native.Mathlib.Omega.{arith}
use lib.Arith.{digits_div, digits_mod}
use lib.Dec.{leb}
use lib.ListN.{length}
use Rattle.waiting.specs.declared.Entry.{Entry}
use Rattle.waiting.specs.Inner.Heap.{Heap}
use Rattle.waiting.specs.Inner.Entries.{entry_key, entry_of, key_in, EntryWords}
use Rattle.waiting.specs.Inner.Sorted.{insert_key, ascending_keys, sorted_keys}

-- where nothing waits there is a heap, whatever the bytes are
pub empty-heap : (l : List ℕ) → Heap (key_in l) 0
empty-heap l = record { order = λ j after within. absurd (omega arith) }

pub empty-keys : (l : List ℕ) → sorted_keys l 0 ≡ []
unfolding sorted_keys ascending_keys
empty-keys l = refl

-- as many keys as entries
length-insert : (x : ℕ) (ys : List ℕ) → length (insert_key x ys) ≡ suc (length ys)
unfolding insert_key
length-insert x [] = refl
length-insert x (y ∷ ys) = either (leb x y) (length-insert x ys)
  where
    either : (t : Bool) → length (insert_key x ys) ≡ suc (length ys) → length (cond t (x ∷ (y ∷ ys)) (y ∷ insert_key x ys)) ≡ suc (suc (length ys))
    either true later = refl
    either false later = ap suc later

length-ascending : (key : ℕ → ℕ) (n : ℕ) → length (ascending_keys key n) ≡ n
unfolding ascending_keys
length-ascending key zero = refl
length-ascending key (suc n) = length-insert (key n) (ascending_keys key n) ∙ ap suc (length-ascending key n)

pub length-sorted_keys : (l : List ℕ) (n : ℕ) → length (sorted_keys l n) ≡ n
unfolding sorted_keys
length-sorted_keys l n = length-ascending (key_in l) n

-- an entry is read back from its key
pub key-words : (e : Entry) → EntryWords e → entry_of (entry_key e) ≡ e
unfolding entry_key entry_of
key-words e w =
    let head = e.f * 2 ^ 64 + e.cell.high in
    let body = head * 2 ^ 64 + e.cell.low in
    let body_back : (body * 2 ^ 64 + e.g) / 2 ^ 64 ≡ body = digits_div body w.g-word in
    let head-back : (body * 2 ^ 64 + e.g) / 2 ^ 64 / 2 ^ 64 ≡ head = ap (λ (k : ℕ). k / 2 ^ 64) body_back ∙ digits_div head w.cell-words.low-word in
    let f-back = ap (λ (k : ℕ). k / 2 ^ 64) head-back ∙ digits_div e.f w.cell-words.high_word in
    let high-back = ap (λ (k : ℕ). k % 2 ^ 64) head-back ∙ digits_mod e.f w.cell-words.high_word in
    let low-back = ap (λ (k : ℕ). k % 2 ^ 64) body_back ∙ digits_mod head w.cell-words.low-word in
    let g-back = digits_mod body w.g-word in
    λ i. record { f = f-back i; cell = record { high = high-back i; low = low-back i }; g = g-back i }
