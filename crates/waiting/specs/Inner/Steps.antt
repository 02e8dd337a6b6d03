-- What a push and a pop do to the entries that wait, as their contracts say it inside. Definitions only.
use Rattle.std.specs.Prelude.{◌≡◌, List, ◌∷◌, ℕ, ◌+◌, ◌-◌, length}
use Rattle.waiting.specs.declared.Entry.{Entry}
use Rattle.waiting.specs.Inner.Heap.{Heap}
use Rattle.waiting.specs.Inner.Entries.{entry_key, key_in, EntryWords}
use Rattle.waiting.specs.Inner.Sorted.{insert_key, sorted_keys}

-- one more entry waits: the bytes are a heap again, and its keys are the old ones and the entry's
pub record Pushed (l after : List ℕ) (size : ℕ) (e : Entry) : Type 0 where
  pub heap : Heap (key_in after) (size + 1)
  pub keys : sorted_keys after (size + 1) ≡ insert_key (entry_key e) (sorted_keys l size)
  pub long : length after ≡ length l

-- the least entry waits no more: the bytes are a heap again, and its keys are the others
pub record Popped (l after : List ℕ) (size : ℕ) (e : Entry) : Type 0 where
  pub heap : Heap (key_in after) (size - 1)
  pub keys : sorted_keys l size ≡ entry_key e ∷ sorted_keys after (size - 1)
  pub words : EntryWords e
  pub long : length after ≡ length l
