-- One neighbour: known already, or noted if there is known room, then waiting room.
use Rattle.std.specs.Prelude.{Ok, Err, Option, Some, None}
use Rattle.std.specs.Option.{is_some}
use mathlib.Core.Path.{◌≡◌, refl, sym, ap, ◌∙◌}
use mathlib.Core.Bool.{Bool, true, false, cond}
use mathlib.Core.List.{List}
use Prim.Native.Nat.{ℕ, ◌+◌, ◌-◌, ◌≤◌, ◌<◌}
use native.Mathlib.Omega.{arith}
use lib.Dec.{ltb}
use lib.ListN.{length}
use borrow.Author.Tests.{lt-ltb, le-ltb}
use Rattle.refusal.specs.declared.Cell.{Cell}
use Rattle.refusal.specs.declared.Room.TheVariants as room
use Rattle.refusal.specs.declared.Refusal.TheVariants.{NoRoom}
use Rattle.words.specs.Word.{Bytes}
use Rattle.cell.specs.Terms.{Words}
use Rattle.known.specs.Inner.Found.{Right}
use Rattle.known.specs.Inner.Known.{known_cells, Known, add_in}
use Rattle.known.specs.Inner.Seek.{find_in}
use Rattle.known.proofs.Sought.{found-by}
use Rattle.known.proofs.Added.{added-by}
use Rattle.known.proofs.Laws.{length-cells, member-words, found-member, nowhere-member}
use Rattle.ring.specs.declared.Rooms.{Rooms}
use Rattle.ring.specs.Ring.{going, stopped, is_among, noted, see}
use Rattle.ring.proofs.AmongLaws.{among-member, among_none}
use Rattle.ring.specs.Inner.State.{sight_in, Sees}
use Rattle.ring.proofs.StateLaws.{grown-none, grown-added, length-between, sight-added}

module _ (rooms : Rooms) (next n : ℕ) (l : List ℕ) (c : Cell) (known : Known l rooms.known n) (bytes : Bytes l) (words : Words c) {found : Option ℕ} (asked : found ≡ find_in l rooms.known n c) where
  -- it is known where it was found
  among-found : is_among c (known_cells l rooms.known n) ≡ is_some found
  among-found = by-found found (found-by l rooms.known n c known bytes words found asked)
    where
      by-found : (a : Option ℕ) → Right l rooms.known n c a → is_among c (known_cells l rooms.known n) ≡ is_some a
      by-found (Some i) right = among-member c (known_cells l rooms.known n) (found-member l rooms.known n c i right)
      by-found None right = among_none c (known_cells l rooms.known n) words (λ d m. member-words l rooms.known 0 n d bytes m) (nowhere-member l rooms.known n c right)

  -- the three tests decide
  see-by : {b k w : Bool} → is_some found ≡ b → ltb n rooms.known ≡ k → ltb (n - next) rooms.waiting ≡ w → (every : Bool) (to i : ℕ) → next ≤ to → to ≤ n
      → see rooms (to - next) c (sight_in every l rooms.known n to i)
      ≡ cond b (going (sight_in every l rooms.known n to i)) (cond k (cond w (going (noted c (sight_in every l rooms.known n to i))) (stopped (NoRoom room.Waiting))) (stopped (NoRoom room.Known)))
  unfolding see
  see-by told known-room waiting-room every to i from within =
      let s = sight_in every l rooms.known n to i in
      let size : (to - next) + length s.found ≡ n - next = omega (arith, length-between l rooms.known to n) in
      let among = among-found ∙ told in
      let knows = ap (λ (m : ℕ). ltb m rooms.known) (length-cells l rooms.known 0 n) ∙ known-room in
      let waits = ap (λ (m : ℕ). ltb m rooms.waiting) size ∙ waiting-room in
      λ j. cond (among j) (going s) (cond (knows j) (cond (waits j) (going (noted c s)) (stopped (NoRoom room.Waiting))) (stopped (NoRoom room.Known)))

  pub seen-known : is_some found ≡ true → Sees rooms next n l l (Ok n) (λ others. see rooms others c)
  seen-known told every to i from within before = (grown-none l rooms.known n known, see-by told refl refl every to i from within)

  pub no-known-room : is_some found ≡ false → rooms.known ≤ n → Sees rooms next n l l (Err (NoRoom room.Known)) (λ others. see rooms others c)
  no-known-room told full every to i from within before = (refl, see-by told (le-ltb n rooms.known full) refl every to i from within)

  pub no-waiting-room : is_some found ≡ false → n < rooms.known → rooms.waiting ≤ n - next → Sees rooms next n l l (Err (NoRoom room.Waiting)) (λ others. see rooms others c)
  no-waiting-room told less full every to i from within before = (refl, see-by told (lt-ltb n rooms.known less) (le-ltb (n - next) rooms.waiting full) every to i from within)

  pub seen-new : {l' : List ℕ} → is_some found ≡ false → n < rooms.known → n - next < rooms.waiting → l' ≡ add_in l rooms.known n c → Sees rooms next n l l' (Ok (n + 1)) (λ others. see rooms others c)
  seen-new {l'} told less waiting e every to i from within before =
      let added = added-by l rooms.known n c known less words l' e in
      (grown-added added, see-by told (lt-ltb n rooms.known less) (lt-ltb (n - next) rooms.waiting waiting) every to i from within ∙ ap going (sym (sight-added every to i added within before)))
