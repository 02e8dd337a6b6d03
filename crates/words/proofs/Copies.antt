-- What a loop that copies leaves, on lists: it puts the front of a list into another one, byte by byte.
use mathlib.Core.Path.{◌≡◌, refl, sym, ap, ap₂, ◌∙◌}
use mathlib.Core.List.{List, ◌++◌, append_assoc}
use Prim.Native.Nat.{ℕ, ◌+◌, ◌≤◌, ◌<◌}
use native.Mathlib.Nat.{le_antisymm}
use native.Mathlib.Numerals.{add-one}
use native.Mathlib.Omega.{arith}
use lib.ListN.{length, take, drop, get_or, set, length-set}
use lib.Seq.{paste, paste-zero, paste-suc}

-- i of the size bytes of s stand in the list l, from place at on: now it is this
pub record Pasted (l : List ℕ) (at : ℕ) (s : List ℕ) (size i : ℕ) (now : List ℕ) : Type 0 where
  pub within : i ≤ size
  pub done : now ≡ paste l at s i
  pub long : length now ≡ length l

module _ (l : List ℕ) (at : ℕ) (s : List ℕ) (size : ℕ) where
  pub pasted-none : Pasted l at s size 0 l
  pasted-none = record { within = omega arith; done = paste-zero l at s; long = refl }

  -- with a turn of the loop, one more
  pub pasted-more : (i v : ℕ) (now : List ℕ) → at + size ≤ length l → size ≤ length s → i < size → get_or s i 0 ≡ v → Pasted l at s size i now → Pasted l at s size (i + 1) (set now (at + i) v)
  pasted-more i v now room enough more e p =
      record {
        within = omega arith;
        done =
            ap₂ (λ (m : List ℕ) (b : ℕ). set m (at + i) b) p.done (sym e)
            ∙ paste-suc l at s i 0 (omega arith) (omega arith)
            ∙ ap (paste l at s) (sym (add-one i));
        long = length-set now (at + i) v ∙ p.long;
      }

  -- at the end of the loop, all
  pub pasted-all : (i : ℕ) (now : List ℕ) → size ≤ i → Pasted l at s size i now → now ≡ take at l ++ (take size s ++ drop (at + size) l)
  pasted-all i now h p = p.done ∙ ap (paste l at s) (le_antisymm p.within h) ∙ append_assoc (take at l) (take size s) (drop (at + size) l)
