-- The keys that wait, in ascending order: what a heap stands for. Definitions only.
use Rattle.std.specs.Prelude.{cond, List, [], ◌∷◌, ℕ, zero, suc, leb}
use Rattle.waiting.specs.Inner.Entries.{key_in}

-- the keys with one more among them, before the first that is not less
unfoldable pub insert_key : ℕ → List ℕ → List ℕ
insert_key x [] = x ∷ []
insert_key x (y ∷ ys) = let later = insert_key x ys in cond (leb x y) (x ∷ (y ∷ ys)) (y ∷ later)

-- the first n keys, put into their order one after the other
unfoldable pub ascending_keys : (ℕ → ℕ) → ℕ → List ℕ
unfolding insert_key
ascending_keys key zero = []
ascending_keys key (suc n) = insert_key (key n) (ascending_keys key n)

-- the keys of the first n entries
unfoldable pub sorted_keys : List ℕ → ℕ → List ℕ
unfolding ascending_keys
sorted_keys l n = ascending_keys (key_in l) n
