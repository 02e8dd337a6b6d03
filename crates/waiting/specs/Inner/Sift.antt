-- What a push and a pop leave in the bytes: how an entry rises in the heap, and how a hole goes down in it. For contracts inside. Definitions only.
use Rattle.std.specs.Prelude.{cond, List, ℕ, zero, suc, ◌+◌, ◌-◌, ◌*◌, ◌/◌, ltb, eqb}
use Rattle.waiting.specs.declared.Entry.{Entry}
use Rattle.waiting.specs.Inner.Entries.{entry_key, entry_at, key_in, entry_stored}

-- the bytes after e rose from a hole, past each parent that is greater; in so many steps at most, and as many as the number of the hole's place are enough
unfoldable pub risen_in : ℕ → List ℕ → ℕ → Entry → List ℕ
unfolding entry_key key_in entry_stored
risen_in zero l hole e = entry_stored l hole e
risen_in (suc m) l hole e =
    let parent = (hole - 1) / 4 in
    let higher = risen_in m (entry_stored l hole (entry_at l parent)) parent e in
    cond (eqb hole 0) (entry_stored l hole e) (cond (ltb (entry_key e) (key_in l parent)) higher (entry_stored l hole e))

-- of place a and so many places behind it the first that has the least key
unfoldable pub first_least : (ℕ → ℕ) → ℕ → ℕ → ℕ
first_least key a zero = a
first_least key a (suc n) = let r = first_least key a n in cond (ltb (key (a + suc n)) (key r)) (a + suc n) r

-- the child of i that comes up into a hole there: the least of four, or of the few that the last parent has
unfoldable pub child_in : List ℕ → ℕ → ℕ → ℕ
unfolding first_least key_in
child_in l size i = first_least (key_in l) (4 * i + 1) (cond (ltb (4 * i + 4) size) 3 (size - (4 * i + 2)))

-- the bytes and the hole's place after it went down to where it has no child; in so many steps at most, and the size less the place is enough
unfoldable pub dug_in : ℕ → List ℕ → ℕ → ℕ → List ℕ × ℕ
unfolding child_in entry_stored
dug_in zero l size hole = (l, hole)
dug_in (suc m) l size hole =
    let child = child_in l size hole in
    let deeper = dug_in m (entry_stored l hole (entry_at l child)) size child in
    cond (ltb (4 * hole + 1) size) deeper (l, hole)

-- one more entry rises from the place behind the last
unfoldable pub push_in : List ℕ → ℕ → Entry → List ℕ
unfolding risen_in
push_in l size e = risen_in size l size e

-- the hole that the root leaves goes down, and the last entry rises from there
unfoldable pub pop_in : List ℕ → ℕ → List ℕ
unfolding risen_in dug_in
pop_in l size =
    let dug = dug_in (size - 1) l (size - 1) 0 in
    let filled = risen_in dug.1 dug.0 dug.1 (entry_at l (size - 1)) in
    cond (ltb 0 (size - 1)) filled l
