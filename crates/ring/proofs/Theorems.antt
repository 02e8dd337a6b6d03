-- What is shown in this crate beside the contracts of src/: the theorems that docs/PROMISES.md names, in words of specs/. The law behind each is the one that its proof names.
use Rattle.std.specs.Prelude.{Ok}
use mathlib.Core.Path.{◌≡◌}
use mathlib.Core.Logic.{◌↔◌}
use mathlib.Core.Bool.{true, false, Bool}
use mathlib.Core.List.{Memᴰ, List}
use Prim.Native.Nat.{ℕ, suc}
use Rattle.refusal.specs.declared.Cell.{Cell}
use Rattle.words.specs.Word.{Bytes}
use Rattle.cell.specs.Terms.{Words}
use Rattle.ring.specs.Reach.{Within, Exactly, Distinct}
use Rattle.ring.specs.Ring.{Sight, going, walk_of, ring_in}
use Rattle.ring.specs.Terms.{Parts, Answer}
use Rattle.ring.specs.declared.Rooms.{Rooms}
use Rattle.ring.proofs as laws
use Rattle.known.specs.Workspace.{in_rooms}

-- A ring that is not refused lists a cell exactly if k or fewer steps reach it from the centre.
pub ring-within :
    (rooms : Rooms) (k : ℕ) (center : Cell) (s : Sight) (words : Words center) (goes : walk_of true rooms k center ≡ going s) (d : Cell)
    → Memᴰ d s.listed ↔ Within k center d
ring-within = laws.RingLaws.ring-within

-- A shell that is not refused lists a cell exactly if k steps reach it from the centre and no fewer do.
pub shell-exactly :
    (rooms : Rooms) (k : ℕ) (center : Cell) (s : Sight) (words : Words center) (goes : walk_of false rooms k center ≡ going s) (d : Cell)
    → Memᴰ d s.listed ↔ Exactly k center d
shell-exactly = laws.RingLaws.shell-exactly

-- A ring lists no cell twice.
pub ring-distinct :
    (rooms : Rooms) (k : ℕ) (center : Cell) (s : Sight) (words : Words center) (goes : walk_of true rooms k center ≡ going s) → Distinct s.listed
ring-distinct = laws.RingLaws.ring-distinct

-- A shell lists no cell twice.
pub shell-distinct :
    (rooms : Rooms) (k : ℕ) (center : Cell) (s : Sight) (words : Words center) (goes : walk_of false rooms k center ≡ going s) → Distinct s.listed
shell-distinct = laws.RingLaws.shell-distinct

-- A ring of k + 1 that is not refused lists the cells of the ring of k, then those of the shell of k + 1, and both of these go in the same rooms.
pub ring-and-shell :
    (rooms : Rooms) (k : ℕ) (center : Cell) (s : Sight) → walk_of true rooms (suc k) center ≡ going s
    → Parts (walk_of true rooms k center) (walk_of false rooms (suc k) center) s
ring-and-shell = laws.RingParts.ring-and-shell

-- Where `k_ring` (every) or `k_shell` (not every) answers a number, the output has so many cells at its front, those of the ring or the shell, each once, and the rest is unchanged.
pub call-answer :
    (center : List ℕ) (k n : ℕ) (w l : List ℕ) (bytes : Bytes center) (every : Bool) (known waiting : ℕ)
    → (ring_in every center k (in_rooms known waiting) w l).said ≡ Ok n → Answer every center k n l (ring_in every center k (in_rooms known waiting) w l).output
call-answer = laws.CallLaws.call-answer
