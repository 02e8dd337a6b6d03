-- What C is told of a search beyond its limit, over the calls' own contracts: where the number told is 7, the limit told is the one of the call, and the expansions told are one more.
use Rattle.std.specs.Prelude.{Result, Ok, Err}
use Rattle.search.specs.declared.Route.{Route}
use mathlib.Core.Path.{◌≡◌, sym, ap, ◌∙◌}
use mathlib.Core.List.{List}
use Prim.Native.Nat.{ℕ}
use native.Mathlib.Omega.{arith}
use Rattle.refusal.specs.declared.Spent.{Spent}
use Rattle.refusal.specs.declared.Refusal.{Refusal}
use Rattle.refusal.specs.declared.Refusal.TheVariants.{SearchLimitExceeded}
use Rattle.refusal.proofs.Numbers.{numbered-seven}
use Rattle.known.specs.Workspace.{in_rooms}
use Rattle.search.specs.Terms.{OneBeyond}
use Rattle.face.specs.declared.SearchTold.{SearchTold}
use Rattle.face.specs.Searches.{no_route, of_search, of_searched, search_told, SearchingTold}
use Rattle.astar.specs.Call.{search_in, asking, buffers}
use Rattle.astar.proofs.Limit.{call-one-beyond}
use Rattle.table.specs.Records.{layer}
use Rattle.face.specs.Terms.{LimitTold}
use Rattle.tishkolan.proofs.Calls.{Astar, AstarWithLimit, limit_given}

-- a search that tells the number 7 was refused beyond its limit, and tells what that refusal carries
record Exceeded (a : Result Route Refusal) (t : SearchTold) : Type 0 where
  spent : Spent
  refused : a ≡ Err (SearchLimitExceeded spent)
  expansions : t.expansions ≡ spent.expansions
  limit : t.limit ≡ spent.limit

seven : (a : Result Route Refusal) → (of_search a).refusal.number ≡ 7 → Exceeded a (of_search a)
seven (Ok r) e = absurd (omega arith)
seven (Err r) e =
    let told = numbered-seven r e in
    record {
      spent = told.0;
      refused = ap Err told.1;
      expansions = ap (λ (why : Refusal). (no_route why).expansions) told.1;
      limit = ap (λ (why : Refusal). (no_route why).limit) told.1;
    }

-- of what is told of an answer
limit-told : (limit : ℕ) (a : Result Route Refusal) (t : SearchTold) → t ≡ of_search a → ((x : Spent) → a ≡ Err (SearchLimitExceeded x) → OneBeyond limit x) → t.refusal.number ≡ 7 → LimitTold limit t
limit-told limit a t told beyond e =
    let h = seven a (sym (ap (λ (s : SearchTold). s.refusal.number) told) ∙ e) in
    let b = beyond h.spent h.refused in
    record {
      expansions-told = ap (λ (s : SearchTold). s.expansions) told ∙ h.expansions ∙ b.expansions-told;
      limit-told = ap (λ (s : SearchTold). s.limit) told ∙ h.limit ∙ b.limit-told;
    }

-- what C is told where the call's contract holds of the start's and the goal's bytes, the rooms, the limit, the rule, the flag layer, the two workspaces and the output
call-told : (s e : List ℕ) (known waiting limit rule : ℕ) (flags : List ℕ) (n : ℕ) (w h l : List ℕ) (t : SearchTold) {w' h' l' : List ℕ}
    → search_told t w' h' l' ≡ of_searched (search_in (asking s e (in_rooms known waiting) limit rule (layer flags n)) (buffers w h l)) → t.refusal.number ≡ 7 → LimitTold limit t
call-told s e known waiting limit rule flags n w h l t post =
    limit-told limit (search_in (asking s e (in_rooms known waiting) limit rule (layer flags n)) (buffers w h l)).said t (ap (λ (a : SearchingTold). a.told) post) (call-one-beyond s e known waiting limit rule flags n w h l)

-- of a call that is given its limit
pub astar-with-limit-seven : (call : AstarWithLimit) → call.told.refusal.number ≡ 7 → LimitTold (limit_given call) call.told
astar-with-limit-seven call = call-told _ _ _ _ _ _ _ _ _ _ _ call.told call.meets

-- of the call without a limit: 100,001 and 100,000
pub astar-seven : (call : Astar) → call.told.refusal.number ≡ 7 → (call.told.expansions ≡ 100001) × (call.told.limit ≡ 100000)
astar-seven call seven = let h = call-told _ _ _ _ _ _ _ _ _ _ _ call.told call.meets seven in (h.expansions-told, h.limit-told)
