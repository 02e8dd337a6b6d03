-- A call of the search that is refused beyond its limit tells that limit, and one expansion more: of any bytes.
use Rattle.std.specs.Prelude.{Ok, Err, Result}
use mathlib.Core.Path.{◌≡◌, refl, sym}
use mathlib.Core.List.{List}
use Prim.Native.Nat.{ℕ}
use native.Mathlib.Omega.{arith}
use lib.Dec.{eqb, leb, ltb}
use lib.ListN.{length}
use Rattle.refusal.specs.declared.Cell.{Cell}
use Rattle.refusal.specs.declared.Spent.{Spent}
use Rattle.refusal.specs.declared.Refusal.{Refusal}
use Rattle.refusal.specs.declared.Refusal.TheVariants.{SearchLimitExceeded, BadWorkspace, BadList, BadLayer, BadRule}
use Rattle.cell.specs.Bytes.{from_bytes_of}
use Rattle.table.specs.Records.{rows_of, is_sound, layer}
use Rattle.cell_list.specs.Listing.{room_in}
use Rattle.search.specs.Search.{SearchResult, found, none_found}
use Rattle.general.proofs.Results.{err-path, err-is-no-ok}
use Rattle.general.proofs.Tests.{whether}
use Rattle.search.specs.declared.Route.{Route}
use Rattle.search.specs.Terms.{OneBeyond}
use Rattle.search.proofs.Limit.{limit-one-beyond}
use Rattle.astar.specs.Answer.{answered_in}
use Rattle.astar.specs.Call.{has_rooms, found_in_layer, found_from_bytes, search_in, asking, buffers}
use Rattle.search.specs.Plan.{endpoints}
use Rattle.known.specs.Workspace.{in_rooms}

-- bytes that are no cell are BadList
bytes-refused : (l : List ℕ) {r : Refusal} → from_bytes_of l ≡ Err r → r ≡ BadList
unfolding from_bytes_of
bytes-refused l {r} e = whether (eqb (length l) 16) (λ t. absurd (err-is-no-ok (sym (rw t at e)))) (λ t. sym (err-path (rw t at e)))

-- a refusal of the call beyond the limit is one of the search
said-refused : (q : SearchResult) (l : List ℕ) (x : Spent) → (answered_in q l).said ≡ Err (SearchLimitExceeded x) → q ≡ none_found (SearchLimitExceeded x)
said-refused (none_found r) l x e = cc
said-refused (found cells cost n) l x e = whether (leb (length cells) (room_in l)) (λ t. cc (rw t at e)) (λ t. cc (rw t at e))

module _ (known waiting limit rule : ℕ) (flags : List ℕ) (n : ℕ) (x : Spent) where
  abbrev Exceeded : SearchResult → Type 0
  Exceeded q = q ≡ none_found (SearchLimitExceeded x)

  under-limit : (s e : Cell) → Exceeded (found_in_layer (endpoints s e) (in_rooms known waiting) limit rule (layer flags n)) → OneBeyond limit x
  under-limit s e f =
      whether (is_sound 20 flags n)
      (λ sound. whether (ltb rule 2) (λ t. limit-one-beyond s e known waiting limit rule (rows_of 20 flags n) x (rw (sound, t) at f)) (λ t. bad-rule (rw (sound, t) at f)))
      (λ sound. bad-layer (rw sound at f))
    where
      bad-rule : Exceeded (none_found BadRule) → OneBeyond limit x
      bad-rule g = absurd (let z : ◌≡◌ {A = ℕ} 0 1 = cc in omega arith)

      bad-layer : Exceeded (none_found BadLayer) → OneBeyond limit x
      bad-layer g = absurd (let z : ◌≡◌ {A = ℕ} 0 1 = cc in omega arith)

  in-limit : (s e : List ℕ) → Exceeded (found_from_bytes (from_bytes_of s) (from_bytes_of e) (in_rooms known waiting) limit rule (layer flags n)) → OneBeyond limit x
  in-limit s e f = by-cells (from_bytes_of s) (from_bytes_of e) refl refl f
    where
      bad-list : {r : Refusal} → r ≡ BadList → Exceeded (none_found r) → OneBeyond limit x
      bad-list b g = absurd (let z : ◌≡◌ {A = ℕ} 0 1 = cc in omega arith)

      by-cells : (a b : Result Cell Refusal) → from_bytes_of s ≡ a → from_bytes_of e ≡ b → Exceeded (found_from_bytes a b (in_rooms known waiting) limit rule (layer flags n)) → OneBeyond limit x
      by-cells (Err r) b first second g = bad-list (bytes-refused s first) g
      by-cells (Ok c) (Err r) first second g = bad-list (bytes-refused e second) g
      by-cells (Ok c) (Ok d) first second g = under-limit c d g

-- the start's and the goal's bytes, the rooms, the limit, the rule, the flag layer, the two workspaces and the output
pub call-one-beyond : (s e : List ℕ) (known waiting limit rule : ℕ) (flags : List ℕ) (n : ℕ) (w h l : List ℕ) (x : Spent)
    → (search_in (asking s e (in_rooms known waiting) limit rule (layer flags n)) (buffers w h l)).said ≡ Err (SearchLimitExceeded x) → OneBeyond limit x
unfolding search_in
call-one-beyond s e known waiting limit rule flags n w h l x f =
    whether (has_rooms known waiting w h)
    (λ t. in-limit known waiting limit rule flags n x s e (said-refused (found_from_bytes (from_bytes_of s) (from_bytes_of e) (in_rooms known waiting) limit rule (layer flags n)) l x (rw t at f)))
    (λ t. bad-workspace (rw t at f))
  where
    bad-workspace : ◌≡◌ {A = Result Route Refusal} (Err BadWorkspace) (Err (SearchLimitExceeded x)) → OneBeyond limit x
    bad-workspace g = absurd (let z : ◌≡◌ {A = ℕ} 0 1 = cc in omega arith)
