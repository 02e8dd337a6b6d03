-- What an answer of `k_ring` or `k_shell` holds: the cells that steps reach from the centre, each once, one after the other at the front of the buffer.
use Rattle.std.specs.Prelude.{Result, Ok, Err}
use mathlib.Core.Path.{◌≡◌, refl}
use mathlib.Core.Bool.{Bool, true, false, cond}
use mathlib.Core.List.{List}
use Prim.Native.Nat.{ℕ}
use Rattle.refusal.specs.declared.Cell.{Cell}
use Rattle.refusal.specs.declared.Refusal.{Refusal}
use Rattle.refusal.specs.declared.Refusal.TheVariants.{BadWorkspace}
use Rattle.words.specs.Word.{Bytes}
use Rattle.cell.specs.Bytes.{from_bytes_of, by_cell}
use Rattle.cell.proofs.BytesLaws.{read-words}
use Rattle.ring.specs.declared.Rooms.{Rooms}
use Rattle.ring.specs.Ring.{Walk, going, stopped, walk_of, Ringed, ringed, listed_by, wiped, has_rooms, rooms_of, ring_in}
use Rattle.general.specs.Changed.{changed}
use Rattle.general.proofs.Results.{err-is-no-ok}
use Rattle.ring.proofs.RingLaws.{ring-within, ring-distinct, shell-exactly, shell-distinct}
use Rattle.ring.specs.Terms.{Answer}
use Rattle.known.specs.Workspace.{in_rooms}

-- what a call answers by the centre that was read, or by its refusal
abbrev ring_from : Result Cell Refusal → Bool → ℕ → Rooms → List ℕ → List ℕ → Ringed
ring_from a every k rooms w l = by_cell (λ r. wiped (changed (Err r) l) w) (λ c. wiped (listed_by (walk_of every rooms k c) l) w) a

module _ (center : List ℕ) (k n : ℕ) (w l : List ℕ) (bytes : Bytes center) where
  walk-answer : (every : Bool) (rooms : Rooms) (c : Cell) (a : Walk) → from_bytes_of center ≡ Ok c → walk_of every rooms k c ≡ a → (listed_by a l).said ≡ Ok n → Answer every center k n l (listed_by a l).bytes
  walk-answer every rooms c (stopped r) read e said = absurd (err-is-no-ok said)
  walk-answer true rooms c (going s) read e said =
      let words = read-words center c bytes read in
      record { around = c; cells = s.listed; read = read; which = ring-within rooms k c s words e; distinct = ring-distinct rooms k c s words e; size = cc; laid = refl }
  walk-answer false rooms c (going s) read e said =
      let words = read-words center c bytes read in
      record { around = c; cells = s.listed; read = read; which = shell-exactly rooms k c s words e; distinct = shell-distinct rooms k c s words e; size = cc; laid = refl }

  center-answer : (every : Bool) (rooms : Rooms) (a : Result Cell Refusal) → from_bytes_of center ≡ a → (ring_from a every k rooms w l).said ≡ Ok n → Answer every center k n l (ring_from a every k rooms w l).output
  center-answer every rooms (Err r) read said = absurd (err-is-no-ok said)
  center-answer every rooms (Ok c) read said = walk-answer every rooms c (walk_of every rooms k c) read refl said

  -- where `k_ring` (every) or `k_shell` (not every) answers a number, so many cells are those of the ring or the shell, each once
  pub call-answer : (every : Bool) (known waiting : ℕ) → (ring_in every center k (in_rooms known waiting) w l).said ≡ Ok n → Answer every center k n l (ring_in every center k (in_rooms known waiting) w l).output
  unfolding ring_in
  call-answer every known waiting said = by-rooms (has_rooms known waiting w) said
    where
      answered : Ringed
      answered = ring_from (from_bytes_of center) every k (rooms_of known waiting l) w l

      by-rooms : (t : Bool) → (cond t answered (ringed (Err BadWorkspace) w l)).said ≡ Ok n → Answer every center k n l (cond t answered (ringed (Err BadWorkspace) w l)).output
      by-rooms true said = center-answer every (rooms_of known waiting l) (from_bytes_of center) refl said
      by-rooms false said = absurd (err-is-no-ok said)
