-- The last cells of a walk, listed behind those that it listed before: all of them where there is room, else none is answered.
use mathlib.Core.Path.{◌≡◌, sym, ap, ◌∙◌}
use mathlib.Core.List.{List, [], ◌∷◌, ◌++◌, append_assoc, append-nil}
use Prim.Native.Nat.{◌+◌, ◌≤◌, ◌<◌}
use native.Mathlib.Decide.{dec_lt}
use native.Mathlib.Omega.{arith}
use borrow.Author.Tests.{lt-ltb, le-ltb}
use lib.ListN.{length, length-append}
use Rattle.refusal.specs.declared.Cell.{Cell}
use Rattle.refusal.specs.declared.Room.TheVariants.{Output}
use Rattle.refusal.specs.declared.Refusal.TheVariants.{NoRoom}
use Rattle.ring.specs.declared.Rooms.{Rooms}
use Rattle.ring.specs.Ring.{Sight, sight, Walk, going, stopped, and_then, list, list_all}

-- the sight with so many cells more in its list
abbrev listing : List Cell → Sight → Sight
listing cs s = sight s.known s.found (s.listed ++ cs)

listed-one : (rooms : Rooms) (c : Cell) (s : Sight) → length s.listed < rooms.output → list rooms c s ≡ going (listing (c ∷ []) s)
unfolding list
listed-one rooms c s h = rw (lt-ltb (length s.listed) rooms.output h)

listed-none : (rooms : Rooms) (c : Cell) (s : Sight) → rooms.output ≤ length s.listed → list rooms c s ≡ stopped (NoRoom Output)
unfolding list
listed-none rooms c s h = rw (le-ltb (length s.listed) rooms.output h)

pub all_listed : (rooms : Rooms) (cs : List Cell) (s : Sight) → length s.listed + length cs ≤ rooms.output → list_all rooms cs s ≡ going (listing cs s)
unfolding list_all
all_listed rooms [] s h = ap (λ (l : List Cell). going (sight s.known s.found l)) (sym (append-nil s.listed))
all_listed rooms (c ∷ cs) s h =
    let one = listing (c ∷ []) s in
    ap (λ (w : Walk). and_then w (list_all rooms cs)) (listed-one rooms c s (omega arith))
    ∙ all_listed rooms cs one (omega (arith, length-append s.listed (c ∷ [])))
    ∙ ap (λ (l : List Cell). going (sight s.known s.found l)) (append_assoc s.listed (c ∷ []) cs)

pub not-all-listed : (rooms : Rooms) (cs : List Cell) (s : Sight) → length s.listed ≤ rooms.output → rooms.output < length s.listed + length cs → list_all rooms cs s ≡ stopped (NoRoom Output)
unfolding list_all
not-all-listed rooms [] s before after = absurd (omega arith)
not-all-listed rooms (c ∷ cs) s before after = by-room (not-all-listed rooms cs (listing (c ∷ []) s)) (dec_lt (length s.listed) rooms.output)
  where
    by-room : (length (s.listed ++ (c ∷ [])) ≤ rooms.output → rooms.output < length (s.listed ++ (c ∷ [])) + length cs → list_all rooms cs (listing (c ∷ []) s) ≡ stopped (NoRoom Output)) → Dec (length s.listed < rooms.output) → and_then (list rooms c s) (list_all rooms cs) ≡ stopped (NoRoom Output)
    by-room rest (yes h) =
        let longer = length-append s.listed (c ∷ []) in
        ap (λ (w : Walk). and_then w (list_all rooms cs)) (listed-one rooms c s h) ∙ rest (omega arith) (omega arith)
    by-room rest (no h) = ap (λ (w : Walk). and_then w (list_all rooms cs)) (listed-none rooms c s (omega arith))
