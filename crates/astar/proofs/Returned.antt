-- Demand 3 of the bytes that a search writes: "Every route the search returns is accepted against the same ends, rule and layer." Where `search_in` says that a route was found, the checker
-- gives verdict 0 to the front of the output, as many cells as are told (`returned-size`), at the cost that is told: `returned-accepted`. What that means, `returned-right` says.
use Rattle.std.specs.Prelude.{Ok, Err, Result}
use mathlib.Core.Path.{◌≡◌, refl, sym, ap, subst, ◌∙◌}
use mathlib.Core.Bool.{Bool, true, false, cond}
use mathlib.Core.List.{List, map, flat_map}
use Prim.Native.Nat.{ℕ, ◌*◌, ◌%◌}
use native.Mathlib.Omega.{arith}
use borrow.Author.Tests.{eq-eqb}
use lib.Dec.{leb, ltb}
use lib.ListN.{length, take, length-map}
use Rattle.refusal.specs.declared.Cell.{Cell}
use Rattle.refusal.specs.declared.Refusal.{Refusal}
use Rattle.refusal.specs.declared.Refusal.TheVariants.{NoRoom, BadWorkspace}
use Rattle.refusal.specs.declared.Room.TheVariants.{Output}
use Rattle.words.specs.Word.{Bytes}
use Rattle.cell.specs.Bytes.{cell_bytes, from_bytes_of}
use Rattle.cell.specs.Lists.{is_list}
use Rattle.table.specs.Records.{Row, rows_of, is_sound, layer}
use Rattle.general.specs.Changed.{Changed, changed}
use Rattle.cell.proofs.BytesLaws.{read-words}
use Rattle.cell_list.specs.Listing.{room_in, cells_laid}
use Rattle.cell_list.proofs.Laws.{length-cells-bytes}
use Rattle.cell_list.proofs.ReadBack.{read_cell, cells-back, laid-front, cells-are-bytes}
use Rattle.route.specs.Route.{verdict_of, claim}
use Rattle.route.specs.Accepted.{Demand3}
use Rattle.route.proofs.DemandLaws.{accepted-is-right}
use Rattle.search.specs.Search.{SearchResult, found, none_found}
use Rattle.search.specs.Plan.{search_of, endpoints}
use Rattle.refusal.specs.Refusals.{cell_of}
use Rattle.known.specs.Workspace.{in_rooms}
use Rattle.search.proofs.Accepted.{found-accepted}
use Rattle.search.proofs.Words.{found-words}
use Rattle.search.specs.SearchOutcome.{searched}
use Rattle.search.specs.declared.Route.{Route}
use Rattle.general.proofs.Results.{err-is-no-ok}
use Rattle.astar.specs.Answer.{answered_in}
use Rattle.astar.specs.Call.{has_rooms, found_in_layer, found_from_bytes, wiped, search_in, asking, buffers}

module _ (s e : List ℕ) (known waiting limit rule : ℕ) (flags : List ℕ) (n : ℕ) (l : List ℕ) (in_start : Bytes s) (in-goal : Bytes e) (t : Route) where
  abbrev rows : List Row
  rows = rows_of 20 flags n

  -- the front of a buffer is as many cells as are told, of bytes, and has verdict 0 at the cost that is told
  record Accepts (out : List ℕ) (r : Route) : Type 0 where
    size : length (take (16 * r.cells) out) ≡ 16 * r.cells
    verdict : verdict_of (claim (take (16 * r.cells) out) s e r.cost) (layer flags n) rule ≡ 0
    bytes : Bytes (take (16 * r.cells) out)

  -- what is said and what stands in the output
  abbrev Returns : Changed (Result Route Refusal) → Type 0
  Returns a = a.said ≡ Ok t → Accepts a.bytes t

  module _ (c d : Cell) (start : from_bytes_of s ≡ Ok c) (goal : from_bytes_of e ≡ Ok d) where
    module _ (sound : is_sound 20 flags n ≡ true) (ruled : ltb rule 2 ≡ true) where
      laid-accepted : (cs : List ℕ) (cost expansions : ℕ) → search_of (endpoints c d) (in_rooms known waiting) limit rule rows ≡ found cs cost expansions
          → Accepts (cells_laid (map cell_of cs) l) (record { cells = length cs; cost = cost; expansions = expansions })
      unfolding verdict_of
      laid-accepted cs cost expansions f =
          let cells = map cell_of cs in
          let words = read-words s c in_start start in
          let judged = found-accepted c d known waiting limit rule rows cs cost expansions words (read-words e d in-goal goal) f in
          let back = cells-back cells (found-words c d known waiting limit rule rows cs cost expansions words f) in
          let front : take (16 * length cs) (cells_laid cells l) ≡ flat_map cell_bytes cells = ap (λ (k : ℕ). take (16 * k) (cells_laid cells l)) (sym (length-map cs cell_of)) ∙ laid-front cells l in
          let whole : is_list (flat_map cell_bytes cells) ≡ true = eq-eqb (length (flat_map cell_bytes cells) % 16) 0 (omega (arith, length-cells-bytes cells)) in
          let first = read_cell s c start in
          let last = read_cell e d goal in
          let size = ap length front ∙ length-cells-bytes cells ∙ ap (λ (k : ℕ). 16 * k) (length-map cs cell_of) in
          record {
            size = size;
            verdict = rw (front, whole, eq-eqb (length s) 16 first.0, eq-eqb (length e) 16 last.0, sound, ruled, first.1, last.1, back) judged;
            bytes = subst Bytes (sym front) (cells-are-bytes cells);
          }

      result-accepted : (x : SearchResult) → search_of (endpoints c d) (in_rooms known waiting) limit rule rows ≡ x → Returns (answered_in x l)
      result-accepted (none_found r) f said = absurd (err-is-no-ok said)
      result-accepted (found cs cost expansions) f said = by-room (leb (length cs) (room_in l)) said
        where
          told : Route
          told = record { cells = length cs; cost = cost; expansions = expansions }

          by-room : (b : Bool) → Returns (cond b (changed (Ok told) (cells_laid (map cell_of cs) l)) (changed (Err (NoRoom Output)) l))
          by-room true g = let same : told ≡ t = cc in subst (Accepts (cells_laid (map cell_of cs) l)) same (laid-accepted cs cost expansions f)
          by-room false g = absurd (err-is-no-ok g)

    under-accepted : (b k : Bool) → is_sound 20 flags n ≡ b → ltb rule 2 ≡ k → Returns (answered_in (found_in_layer (endpoints c d) (in_rooms known waiting) limit rule (layer flags n)) l)
    under-accepted false k sound ruled said = absurd (err-is-no-ok (rw sound at said))
    under-accepted true false sound ruled said = absurd (err-is-no-ok (rw (sound, ruled) at said))
    under-accepted true true sound ruled said = rw (sound, ruled) (result-accepted sound ruled (search_of (endpoints c d) (in_rooms known waiting) limit rule rows) refl (rw (sound, ruled) at said))

  cells-accepted : (a b : Result Cell Refusal) → from_bytes_of s ≡ a → from_bytes_of e ≡ b → Returns (answered_in (found_from_bytes a b (in_rooms known waiting) limit rule (layer flags n)) l)
  cells-accepted (Err r) b f g said = absurd (err-is-no-ok said)
  cells-accepted (Ok c) (Err r) f g said = absurd (err-is-no-ok said)
  cells-accepted (Ok c) (Ok d) f g said = under-accepted c d f g (is_sound 20 flags n) (ltb rule 2) refl refl said

  module _ (w h : List ℕ) (said : (search_in (asking s e (in_rooms known waiting) limit rule (layer flags n)) (buffers w h l)).said ≡ Ok t) where
    call-accepted : Accepts (search_in (asking s e (in_rooms known waiting) limit rule (layer flags n)) (buffers w h l)).output t
    unfolding search_in
    call-accepted = by-rooms (has_rooms known waiting w h) said
      where
        done : Changed (Result Route Refusal)
        done = answered_in (found_from_bytes (from_bytes_of s) (from_bytes_of e) (in_rooms known waiting) limit rule (layer flags n)) l

        by-rooms : (b : Bool) → let x = cond b (wiped done w h) (searched (Err BadWorkspace) w h l) in x.said ≡ Ok t → Accepts x.output t
        by-rooms true g = cells-accepted (from_bytes_of s) (from_bytes_of e) refl refl g
        by-rooms false g = absurd (err-is-no-ok g)

    -- a call writes as many cells as it tells
    pub returned-size : length (take (16 * t.cells) (search_in (asking s e (in_rooms known waiting) limit rule (layer flags n)) (buffers w h l)).output) ≡ 16 * t.cells
    returned-size = call-accepted.size

    -- the route that they are has verdict 0, with the same bytes for its ends, the same rule and layer, and the cost that the call tells
    pub returned-accepted : verdict_of (claim (take (16 * t.cells) (search_in (asking s e (in_rooms known waiting) limit rule (layer flags n)) (buffers w h l)).output) s e t.cost) (layer flags n) rule ≡ 0
    returned-accepted = call-accepted.verdict

    -- so demand 3 holds of it
    pub returned-right : Demand3 (claim (take (16 * t.cells) (search_in (asking s e (in_rooms known waiting) limit rule (layer flags n)) (buffers w h l)).output) s e t.cost) (layer flags n) rule
    returned-right = accepted-is-right _ s e t.cost flags n rule call-accepted.bytes in_start in-goal call-accepted.verdict
