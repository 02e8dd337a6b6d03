-- "NoRoom is given exactly where the plain search would need one more." A search that ends for another reason ends with the same result in any larger rooms: `same-in-larger-rooms`.
-- And one that ends with NoRoom names the room of known cells or that of waiting entries, and the search in larger rooms comes to a place where it needs one more than that room holds:
-- `no-room-one-more`, in the words of specs/Reached.antt. The other way round: proofs/RoomNeeded.antt.
use Rattle.std.specs.Prelude.{Result, Ok, Err}
use Rattle.lattice.specs.declared.Parity.{Parity}
use Rattle.refusal.specs.declared.Refusal.{Refusal}
use mathlib.Core.Path.{◌≡◌, refl, ap, ◌∙◌}
use mathlib.Core.Bool.{Bool, true, false, cond}
use mathlib.Core.List.{List, [], ◌∷◌}
use Prim.Native.Nat.{ℕ, ◌≤◌, ◌<◌}
use native.Mathlib.Omega.{arith}
use lib.Dec.{eqb}
use Rattle.refusal.specs.declared.Cell.{Cell}
use Rattle.refusal.specs.declared.Room.{Room}
use Rattle.refusal.specs.declared.Room.TheVariants.{Known, Waiting}
use Rattle.refusal.specs.declared.Refusal.TheVariants.{NoRoom}
use Rattle.refusal.specs.Refusals.{raw_of}
use Rattle.lattice.specs.Lattice.{parity_of}
use Rattle.cell.specs.Cell.{coord_of}
use Rattle.table.specs.Records.{Row}
use Rattle.search.specs.Search.{SearchResult, found, none_found, done}
use Rattle.search.specs.Plan.{plan_of, pops_for, search_of, endpoints}
use Rattle.known.specs.Workspace.{in_rooms}
use Rattle.search.proofs.Split.{found_between}
use Rattle.search.proofs.Ending.{ends, result-is}
use Rattle.search.proofs.LargerRooms.{ends-alike}
use Rattle.search.specs.Reached.{OneMore}
use Rattle.search.proofs.OneMore.{short-one-more}
use Rattle.search.proofs.Refusals.{parity-other, plan-refusals}

-- ---- larger rooms

module _ (s e : Cell) (known waiting more-known more-waiting limit rule : ℕ) (rows : List Row)
    (some_Known : 1 ≤ known) (some-waiting : 1 ≤ waiting) (known-grows : known ≤ more-known) (waiting-grows : waiting ≤ more-waiting) where
  abbrev HadRoom : SearchResult → Type 0
  HadRoom r = (r ≡ none_found (NoRoom Known) → ⊥) × (r ≡ none_found (NoRoom Waiting) → ⊥)

  result-alike : (p q : Result Parity Refusal) → HadRoom (found_between p q (plan_of (endpoints s e) (in_rooms known waiting) limit rule rows))
      → found_between p q (plan_of (endpoints s e) (in_rooms more-known more-waiting) limit rule rows) ≡ found_between p q (plan_of (endpoints s e) (in_rooms known waiting) limit rule rows)
  unfolding plan_of
  result-alike (Err r) q h = refl
  result-alike (Ok p) (Err r) h = refl
  result-alike (Ok p) (Ok q) h =
      let P = plan_of (endpoints s e) (in_rooms known waiting) limit rule rows in
      let r = found_between (Ok p) (Ok q) P in
      result-is (plan_of (endpoints s e) (in_rooms more-known more-waiting) limit rule rows) (omega arith) (omega arith) r
      (ends-alike P more-known more-waiting known-grows waiting-grows r (pops_for known waiting, ends P some_Known some-waiting) h.0 h.1)

  search-alike : (same : Bool) (p q : Result Parity Refusal)
      → HadRoom (cond same (found (raw_of s ∷ []) 0 0) (found_between p q (plan_of (endpoints s e) (in_rooms known waiting) limit rule rows)))
      → cond same (found (raw_of s ∷ []) 0 0) (found_between p q (plan_of (endpoints s e) (in_rooms more-known more-waiting) limit rule rows)) ≡ cond same (found (raw_of s ∷ []) 0 0) (found_between p q (plan_of (endpoints s e) (in_rooms known waiting) limit rule rows))
  search-alike true p q h = refl
  search-alike false p q h = result-alike p q h

-- a search that had room ends with the same result in rooms at least as large
pub same-in-larger-rooms : (s e : Cell) (known waiting more-known more-waiting limit rule : ℕ) (rows : List Row) → 1 ≤ known → 1 ≤ waiting → known ≤ more-known → waiting ≤ more-waiting
    → (search_of (endpoints s e) (in_rooms known waiting) limit rule rows ≡ none_found (NoRoom Known) → ⊥) → (search_of (endpoints s e) (in_rooms known waiting) limit rule rows ≡ none_found (NoRoom Waiting) → ⊥)
    → search_of (endpoints s e) (in_rooms more-known more-waiting) limit rule rows ≡ search_of (endpoints s e) (in_rooms known waiting) limit rule rows
unfolding search_of
same-in-larger-rooms s e known waiting more-known more-waiting limit rule rows some_Known some-waiting known-grows waiting-grows enough-known enough-waiting =
    search-alike s e known waiting more-known more-waiting limit rule rows some_Known some-waiting known-grows waiting-grows
    (eqb (raw_of s) (raw_of e)) (parity_of (coord_of s)) (parity_of (coord_of e)) (enough-known, enough-waiting)

-- ---- no room

module _ (s e : Cell) (known waiting more-known more-waiting limit rule : ℕ) (rows : List Row)
    (some_Known : 1 ≤ known) (some-waiting : 1 ≤ waiting) (known-grows : known < more-known) (waiting-grows : waiting < more-waiting) (room : Room) where
  abbrev Past : Type 0
  Past = OneMore (plan_of (endpoints s e) (in_rooms more-known more-waiting) limit rule rows) known waiting room

  result-short : (p q : Result Parity Refusal) → parity_of (coord_of s) ≡ p → parity_of (coord_of e) ≡ q → found_between p q (plan_of (endpoints s e) (in_rooms known waiting) limit rule rows) ≡ none_found (NoRoom room) → Past
  unfolding plan_of
  result-short (Err r) q first second f = absurd (parity-other (coord_of s) r first room (let same : r ≡ NoRoom room = cc in same))
  result-short (Ok p) (Err r) first second f = absurd (parity-other (coord_of e) r second room (let same : r ≡ NoRoom room = cc in same))
  result-short (Ok p) (Ok q) first second f =
      let P = plan_of (endpoints s e) (in_rooms known waiting) limit rule rows in
      short-one-more P more-known more-waiting known-grows waiting-grows some_Known some-waiting (plan-refusals s e known waiting limit rule rows) room
      (pops_for known waiting, ends P some_Known some-waiting ∙ ap done f)

  search-short : (same : Bool) → cond same (found (raw_of s ∷ []) 0 0) (found_between (parity_of (coord_of s)) (parity_of (coord_of e)) (plan_of (endpoints s e) (in_rooms known waiting) limit rule rows)) ≡ none_found (NoRoom room) → Past
  search-short true f = absurd (let z : ◌≡◌ {A = ℕ} 0 1 = cc in omega arith)
  search-short false f = result-short (parity_of (coord_of s)) (parity_of (coord_of e)) refl refl f

-- where a search ends with NoRoom, the search in larger rooms needs one more than that room holds
pub no-room-one-more : (s e : Cell) (known waiting more-known more-waiting limit rule : ℕ) (rows : List Row) → 1 ≤ known → 1 ≤ waiting → known < more-known → waiting < more-waiting
    → (room : Room) → search_of (endpoints s e) (in_rooms known waiting) limit rule rows ≡ none_found (NoRoom room) → OneMore (plan_of (endpoints s e) (in_rooms more-known more-waiting) limit rule rows) known waiting room
unfolding search_of
no-room-one-more s e known waiting more-known more-waiting limit rule rows some_Known some-waiting known-grows waiting-grows room f =
    search-short s e known waiting more-known more-waiting limit rule rows some_Known some-waiting known-grows waiting-grows room (eqb (raw_of s) (raw_of e)) f
