-- Theorems about functions that stand between crates, which C does not call: what docs/PROMISES.md says of the search's memory, in words of specs/Inner.
-- The law behind each is the one that its proof names.
use mathlib.Core.List.{List}
use Prim.Native.Nat.{ℕ, ◌+◌, ◌*◌, ◌≤◌, ◌<◌}
use lib.ListN.{length}
use Rattle.words.specs.Word.{Bytes}
use Rattle.waiting.specs.Inner.Entries.{key_in, EntryWords, entry_at}
use Rattle.waiting.specs.Inner.Heap.{Heap}
use Rattle.waiting.specs.Inner.Sift.{push_in, pop_in}
use Rattle.waiting.specs.Inner.Steps.{Pushed, Popped}
use Rattle.waiting.specs.declared.Entry.{Entry}
use Rattle.waiting.proofs as laws

-- Where the bytes are a heap with room for one more entry, a push leaves a heap in which that entry waits too.
pub pushed-in :
    (l : List ℕ) (size : ℕ) (e : Entry) → Bytes l → EntryWords e → Heap (key_in l) size → 32 * (size + 1) ≤ length l
    → Pushed l (push_in l size e) size e
pushed-in = laws.Sifted.pushed-in

-- Where the bytes are a heap of at least one entry, its first entry is the least, and a pop leaves a heap in which it waits no more.
pub popped-in :
    (l : List ℕ) (size : ℕ) (b : Bytes l) (heap : Heap (key_in l) size) (long : 32 * size ≤ length l) → 0 < size
    → Popped l (pop_in l size) size (entry_at l 0)
popped-in = laws.Sifted.popped-in
