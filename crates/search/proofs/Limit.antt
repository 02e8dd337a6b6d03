-- "SearchLimitExceeded carries expansions, limit": a search that is refused so has closed one cell more than its limit. While it goes on it has closed no more than the limit, so the first
-- that is too many is the one after.
use Rattle.std.specs.Prelude.{Result, Ok, Err}
use Rattle.lattice.specs.declared.Parity.{Parity}
use mathlib.Core.Path.{◌≡◌, refl, sym}
use mathlib.Core.List.{List, [], ◌∷◌}
use Prim.Native.Nat.{ℕ, ◌+◌, ◌≤◌, ◌<◌}
use native.Mathlib.Omega.{arith}
use lib.Dec.{eqb}
use borrow.Author.Tests.{ltb-true, ltb-false}
use Rattle.refusal.specs.declared.Cell.{Cell}
use Rattle.refusal.specs.declared.Spent.{Spent}
use Rattle.refusal.specs.declared.Refusal.{Refusal}
use Rattle.refusal.specs.declared.Refusal.TheVariants.{SearchLimitExceeded}
use Rattle.refusal.specs.Refusals.{raw_of}
use Rattle.lattice.specs.Lattice.{parity_of}
use Rattle.cell.specs.Cell.{coord_of}
use Rattle.table.specs.Records.{Row}
use Rattle.search.specs.Search.{Problem, OrRefused, is, refused, Entry, State, Flow, going, done, found, none_found, find, g_of, relax_all, arrived, popped, next, step, run, begin}
use Rattle.search.specs.Plan.{plan_of, pops_for, at_end, search_of, endpoints}
use Rattle.known.specs.Workspace.{in_rooms}
use Rattle.search.proofs.Split.{found_between}
use Rattle.search.specs.Reached.{closing}
use Rattle.general.proofs.Tests.{whether}
use Rattle.search.proofs.Ending.{Any, each-any}
use Rattle.search.proofs.Invariants.{Keeping, keeping-follows, exceeded, Refuses, relax_all-keeping, popped-keeping, run-keeping}
use Rattle.search.proofs.Refusals.{Own, mixed, overflow, parity-own, ahead_own, near-own}
use Rattle.search.specs.Terms.{OneBeyond}

-- if a refusal is number 7, it carries these
abbrev pub AtLimit : ℕ → Refusal → Type 0
AtLimit limit r = (s : Spent) → r ≡ SearchLimitExceeded s → OneBeyond limit s

-- ---- any problem

module _ (P : Problem) (refuses : Refuses P (AtLimit P.limit)) (nowhere : AtLimit P.limit P.no_path) where
  -- no more cells are closed than the limit
  abbrev Few : State → Type 0
  Few s = s.count ≤ P.limit

  abbrev Within : Flow → Type 0
  Within = Keeping Few (Any P) (AtLimit P.limit)

  exceeded-told : (count : ℕ) → count ≤ P.limit → P.limit < count + 1 → AtLimit P.limit (exceeded P.limit (count + 1))
  exceeded-told count few more s e =
      let counted : count + 1 ≡ s.expansions = cc in
      let limited : P.limit ≡ s.limit = cc in
      record { limit-told = sym limited; expansions-told = omega arith }

  looking-within : (c g : ℕ) (ns : List ℕ) (s : State) → Few s → Within (relax_all P c g ns s)
  looking-within c g ns s few =
      keeping-follows Few Few (Any P) (AtLimit P.limit) (λ t h. h) (relax_all P c g ns s)
      (relax_all-keeping P (AtLimit P.limit) refuses c g (λ (n : ℕ). Unit {0}) Few (λ n h t ahead near few l room. few) ns s (each-any P ns) few)

  popped-within : (c : ℕ) (rest : List Entry) (s : State) → Few s → Within (popped P c rest s)
  unfolding arrived
  popped-within c rest s few =
      popped-keeping P Few (Any P) (AtLimit P.limit) refuses c rest s
      (λ closed. few)
      (λ not-closed more. exceeded-told s.count few (ltb-true P.limit (s.count + 1) more))
      (λ not-closed fits q. tt)
      (λ not-closed fits ns near. looking-within c (g_of (find c s.known)) ns (closing c rest s) (ltb-false P.limit (s.count + 1) fits))

  step-within : (s : State) → Few s → Within (step P s)
  unfolding step
  step-within s few = go s.waiting
    where
      go : (w : List Entry) → Within (next P w s)
      go [] = nowhere
      go (e ∷ rest) = popped-within e.cell rest s few

  begin-within : (a : OrRefused ℕ) → P.heuristic P.start ≡ a → Within (begin P a)
  begin-within (refused r) e = refuses.of-ahead P.start r e
  begin-within (is h) e = omega arith

  -- whatever number of pops it is given
  run-within : (k : ℕ) → Within (run P k (begin P (P.heuristic P.start)))
  run-within k = run-keeping P Few (Any P) (AtLimit P.limit) step-within k (begin P (P.heuristic P.start)) (begin-within (P.heuristic P.start) refl)

-- ---- the search over cells

own-unlimited : {r : Refusal} (limit : ℕ) → Own r → AtLimit limit r
own-unlimited limit mixed s e = absurd (let z : ◌≡◌ {A = ℕ} 0 1 = cc in omega arith)
own-unlimited limit overflow s e = absurd (let z : ◌≡◌ {A = ℕ} 0 1 = cc in omega arith)

module _ (s e : Cell) (known waiting limit rule : ℕ) (rows : List Row) where
  abbrev plan : Problem
  plan = plan_of (endpoints s e) (in_rooms known waiting) limit rule rows

  abbrev Limited : Flow → Type 0
  Limited = Keeping (λ (t : State). t.count ≤ limit) (Any plan) (AtLimit limit)

  plan-within : (k : ℕ) → Limited (run plan k (begin plan (plan.heuristic plan.start)))
  unfolding plan_of
  plan-within =
      run-within plan
      (record {
        of_room = λ room x f. absurd (let z : ◌≡◌ {A = ℕ} 0 1 = cc in omega arith);
        of-ahead = λ n r f. own-unlimited limit (ahead_own s e known waiting limit rule rows n r f);
        of-near = λ n r f. own-unlimited limit (near-own s e known waiting limit rule rows n r f);
      })
      (λ x f. absurd (let z : ◌≡◌ {A = ℕ} 0 1 = cc in omega arith))

  module _ (x : Spent) where
    flow-limit : (f : Flow) → Limited f → at_end f ≡ none_found (SearchLimitExceeded x) → OneBeyond limit x
    flow-limit (going t) h f = absurd (let z : ◌≡◌ {A = ℕ} 0 1 = cc in omega arith)
    flow-limit (done (found cells cost expansions)) h f = absurd (let z : ◌≡◌ {A = ℕ} 0 1 = cc in omega arith)
    flow-limit (done (none_found r)) h f = h x (let same : r ≡ SearchLimitExceeded x = cc in same)

    result-limit : (p q : Result Parity Refusal) → parity_of (coord_of s) ≡ p → parity_of (coord_of e) ≡ q → found_between p q plan ≡ none_found (SearchLimitExceeded x) → OneBeyond limit x
    result-limit (Err r) q first second f = own-unlimited limit (parity-own (coord_of s) r first) x (let same : r ≡ SearchLimitExceeded x = cc in same)
    result-limit (Ok p) (Err r) first second f = own-unlimited limit (parity-own (coord_of e) r second) x (let same : r ≡ SearchLimitExceeded x = cc in same)
    result-limit (Ok p) (Ok q) first second f =
        let pops = pops_for plan.known_room plan.waiting_room in
        flow-limit (run plan pops (begin plan (plan.heuristic plan.start))) (plan-within pops) f

-- a search that is refused beyond its limit tells that limit, and one expansion more
pub limit-one-beyond : (s e : Cell) (known waiting limit rule : ℕ) (rows : List Row) (x : Spent)
    → search_of (endpoints s e) (in_rooms known waiting) limit rule rows ≡ none_found (SearchLimitExceeded x) → OneBeyond limit x
unfolding search_of
limit-one-beyond s e known waiting limit rule rows x f =
    whether (eqb (raw_of s) (raw_of e))
    (λ t. alike (rw t at f))
    (λ t. result-limit s e known waiting limit rule rows x (parity_of (coord_of s)) (parity_of (coord_of e)) refl refl (rw t at f))
  where
    alike : found (raw_of s ∷ []) 0 0 ≡ none_found (SearchLimitExceeded x) → OneBeyond limit x
    alike g = absurd (let z : ◌≡◌ {A = ℕ} 0 1 = cc in omega arith)
