-- What a push and a pop come to: each key is there as often as before, but that the pushed one is there once more, and the popped one once less.
use mathlib.Core.Path.{◌≡◌, sym, ap, subst, ◌∙◌}
use mathlib.Core.List.{List, ◌∷◌}
use Prim.Native.Nat.{ℕ, ◌+◌, ◌-◌, ◌<◌}
use native.Mathlib.Omega.{arith}
use lib.ListN.{length}
use Rattle.words.specs.Word.{Bytes}
use Rattle.waiting.specs.declared.Entry.{Entry}
use Rattle.waiting.specs.Inner.Heap.{Heap}
use Rattle.waiting.proofs.Heap.{single, count}
use Rattle.waiting.specs.Inner.Entries.{entry_key, entry_at, key_in, EntryWords}
use Rattle.waiting.specs.Inner.Sorted.{ascending_keys, sorted_keys}
use Rattle.waiting.proofs.Steps.{Dug, Risen}
use Rattle.waiting.specs.Inner.Steps.{Pushed, Popped}
use Rattle.waiting.proofs.Decides.{words-at}
use Rattle.waiting.proofs.Holes.{count-one-more, root-least}
use Rattle.waiting.proofs.Counted.{one-more-ascending, least-ascending}

pub pushed : (l after : List ℕ) (n : ℕ) (e : Entry) → Risen (key_in l) (key_in after) (n + 1) n (entry_key e) → length after ≡ length l → Pushed l after n e
unfolding sorted_keys
pushed l after n e r long =
    record {
      heap = r.heap;
      keys = one-more-ascending (key_in l) (key_in after) n (n + 1) (entry_key e) (λ v. let filled = r.has v in let more = count-one-more (key_in l) n v in omega arith);
      long = long;
    }

pub key-is : (l : List ℕ) (i : ℕ) {e : Entry} → e ≡ entry_at l i → entry_key e ≡ key_in l i
unfolding key_in
key-is l i same = ap entry_key same

-- the root leaves, and the last key fills its place
pub root-left : (key between after : ℕ → ℕ) (n hole x : ℕ) → 0 < n → Dug key between (n - 1) hole → Risen between after (n - 1) hole x → x ≡ key (n - 1) → (v : ℕ) → count key n v ≡ count after (n - 1) v + single (key 0) v
root-left key between after n hole x some dug risen last v =
    let down = dug.moved v in
    let up = risen.has v in
    let same = ap (λ (k : ℕ). single k v) last in
    let whole : n - 1 + 1 ≡ n = omega arith in
    let more = rw whole at (count-one-more key (n - 1) v) in
    omega arith

-- where the root is alone, nothing is left
pub root-alone : (key : ℕ → ℕ) (n : ℕ) → n ≡ 1 → (v : ℕ) → count key n v ≡ count key (n - 1) v + single (key 0) v
root-alone key n one v = rw one

module _ (l after : List ℕ) (n : ℕ) (e : Entry) (bytes : Bytes l) (heap : Heap (key_in l) n) (first : e ≡ entry_at l 0) where
  pub popped : Heap (key_in after) (n - 1) → ((v : ℕ) → count (key_in l) n v ≡ count (key_in after) (n - 1) v + single (key_in l 0) v) → length after ≡ length l → Popped l after n e
  unfolding sorted_keys
  popped rest has long =
      record {
        heap = rest;
        keys =
            least-ascending (key_in l) (key_in after) n (n - 1) (key_in l 0) has (λ j within. root-least (key_in l) n j heap within)
            ∙ ap (λ (k : ℕ). k ∷ ascending_keys (key_in after) (n - 1)) (sym (key-is l 0 first));
        words = subst EntryWords (sym first) (words-at l bytes 0);
        long = long;
      }
