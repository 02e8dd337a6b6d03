-- Every f and g that a search comes to is a cost (`reached-costs`). So the keys by which waiting entries come out are in document 01's order: by f as a number, equal f by the cell, one
-- cell by g as a number (`keys-in-order`).
use mathlib.Core.Path.{◌≡◌, refl, sym, ap, subst, ◌∙◌}
use mathlib.Core.Bool.{Bool, true, false, cond, ◌&&◌, ◌||◌}
use mathlib.Core.List.{List, [], ◌∷◌, Memᴰ}
use mathlib.Core.Option.{Option, some}
use Prim.Native.Nat.{ℕ, ◌+◌, ◌*◌, ◌^◌, ◌<◌}
use native.Mathlib.Nat.{div-lt_iff_lt-mul}
use native.Mathlib.Omega.{arith}
use lib.Dec.{ltb, eqb, lit<}
use borrow.Author.Tests.{le-ltb, eqb-true, eqb-false}
use Rattle.refusal.specs.declared.Cell.{Cell}
use Rattle.refusal.specs.Refusals.{raw_of, cell_of}
use Rattle.general.specs.Each.{Each}
use Rattle.general.proofs.Lists.{at-member}
use Rattle.cell.proofs.Bits.{less-digits, same_low, same-high}
use Rattle.cell.specs.Terms.{Words}
use Rattle.table.specs.Records as layer
use Rattle.search.specs.Search.{Problem, OrRefused, is, refused, KnownRow, Entry, State, Flow, going, find, row, put, close, g_of, plus, waiting_key, pushed, relax_all, arrived, popped, next, step, run, begin}
use Rattle.search.specs.Plan.{plan_of, endpoints}
use Rattle.known.specs.Workspace.{in_rooms}
use Rattle.search.specs.Reached.{closing}
use Rattle.general.proofs.Tests.{on_test}
use Rattle.search.proofs.WaitingLaws.{each-insert, each-follows}
use Rattle.search.proofs.Invariants.{Holding, holding-follows, Lowered, HasRoom, relax_all-keeps, popped-keeps, run-keeps}
use Rattle.cell.proofs.Laws.{cell-raw}
use Rattle.search.proofs.NeighborSteps.{near-beside}
use Rattle.search.specs.Terms.{Beside}
use Rattle.search.specs.Costs.{Cost, first_out, CostRow, CostEntry, CostState}
use Rattle.search.proofs.Costs.{cost-small, plus-cost, cost-order, cost-equal, step-cost, ahead-cost}
use Rattle.table.specs.Records.{layer}

-- ---- known cells

-- what holds of each row holds of each after one was put
pub each-put : (Q : KnownRow → Type 0) (c g b : ℕ) (k : List KnownRow) → Each Q k → Q (row c g b false) → Each Q (put c g b k)
unfolding put
each-put Q c g b [] h q = (q, tt)
each-put Q c g b (e ∷ es) h q = on_test (Each Q) (eqb c e.cell) (row c g b false ∷ es) (e ∷ put c g b es) (λ t. (q, h.1)) (λ t. (h.0, each-put Q c g b es h.1 q))

-- closing a cell changes no g
pub each-close : (c : ℕ) (k : List KnownRow) → Each CostRow k → Each CostRow (close c k)
unfolding close
each-close c [] h = tt
each-close c (e ∷ es) h = on_test (Each CostRow) (eqb c e.cell) (row e.cell e.g e.before true ∷ es) (e ∷ close c es) (λ t. h) (λ t. (h.0, each-close c es h.1))

-- the g of a cell, known or not
find-cost : (c : ℕ) (k : List KnownRow) → Each CostRow k → Cost (g_of (find c k))
unfolding find
find-cost c [] h = cost-small 0x7FF0_0000_0000_0000 (omega arith)
find-cost c (e ∷ es) h = on_test (λ (o : Option KnownRow). Cost (g_of o)) (eqb c e.cell) (some e) (find c es) (λ t. h.0) (λ t. find-cost c es h.1)

-- ---- over any problem

-- a cell's number
abbrev Narrow : ℕ → Type 0
Narrow n = n < 2 ^ 128

-- what a problem's steps and estimates say are costs, and its cells are numbers of 128 bits
record CostProblem (P : Problem) : Type 0 where
  start_word : Narrow P.start
  steps : (c n : ℕ) → Cost (P.cost c n)
  estimates : (n h : ℕ) → P.heuristic n ≡ is h → Cost h
  near-words : (c : ℕ) (ns : List ℕ) → P.neighbors c ≡ is ns → Each Narrow ns

-- what is told as the cost of a route is one
abbrev Paid : List ℕ → ℕ → ℕ → Type 0
Paid cells cost expansions = Cost cost

abbrev CostFlow : Flow → Type 0
CostFlow = Holding CostState Paid

module _ (P : Problem) (costs : CostProblem P) where
  -- a push adds a row and an entry, both at sums of costs
  push-costs : (c g : ℕ) → Cost g → (n h : ℕ) (s : State) → P.heuristic n ≡ is h → Narrow n → CostState s → Lowered P n (plus g (P.cost c n)) s → HasRoom P n s
      → CostState (pushed P c n (plus g (P.cost c n)) h s)
  push-costs c g cost n h s estimate narrow kept l room =
      let t = plus g (P.cost c n) in
      let paid = plus-cost g (P.cost c n) cost (costs.steps c n) in
      let entry : CostEntry (record { f = plus t h; cell = n; g = t }) = record { f-cost = plus-cost t h paid (costs.estimates n h estimate); g-cost = paid; cell-word = narrow } in
      record { of-known = each-put CostRow n t c s.known kept.of-known paid; of-waiting = each-insert CostEntry (record { f = plus t h; cell = n; g = t }) s.waiting kept.of-waiting entry }

  popped-costs : (c : ℕ) (rest : List Entry) (s : State) → Each CostRow s.known → Each CostEntry rest → CostFlow (popped P c rest s)
  unfolding arrived
  popped-costs c rest s known waiting =
      let g = g_of (find c s.known) in
      let closed = each-close c s.known known in
      popped-keeps P CostState Paid c rest s
      (λ h. record { of-known = known; of-waiting = waiting })
      (λ h e. find-cost P.goal (close c s.known) closed)
      (λ h ns e. holding-follows CostState CostState Paid (λ t kept. kept) (relax_all P c g ns (closing c rest s))
      (relax_all-keeps P c g Narrow CostState (push-costs c g (find-cost c s.known known)) ns (closing c rest s) (costs.near-words c ns e) (record { of-known = closed; of-waiting = waiting })))

  step-costs : (s : State) → CostState s → CostFlow (step P s)
  unfolding step
  step-costs s kept = go s.waiting kept.of-waiting
    where
      go : (w : List Entry) → Each CostEntry w → CostFlow (next P w s)
      go [] waiting = tt
      go (e ∷ rest) waiting = popped-costs e.cell rest s kept.of-known waiting.1

  begin-costs : (h : OrRefused ℕ) → P.heuristic P.start ≡ h → CostFlow (begin P h)
  begin-costs (refused r) e = tt
  begin-costs (is h) e =
      let nothing = cost-small 0 (omega arith) in
      record { of-known = (nothing, tt); of-waiting = (record { f-cost = costs.estimates P.start h e; g-cost = nothing; cell-word = costs.start_word }, tt) }

  -- so many pops keep it
  run-costs : (k : ℕ) → CostFlow (run P k (begin P (P.heuristic P.start)))
  run-costs k = run-keeps P CostState Paid step-costs k (begin P (P.heuristic P.start)) (begin-costs (P.heuristic P.start) refl)

-- ---- the order of keys

module _ (base a b c d : ℕ) (hb : b < base) (hd : d < base) where
  -- two digits as one number: the first decide, then the second
  less-joined : ltb (a * base + b) (c * base + d) ≡ (ltb a c || (eqb a c && ltb b d))
  less-joined = less-digits base a b c d hb hd ∙ go (eqb a c) (eqb-true a c)
    where
      plain : (t : Bool) → t ≡ (t || false)
      plain true = refl
      plain false = refl

      go : (t : Bool) → (t ≡ true → a ≡ c) → cond t (ltb b d) (ltb a c) ≡ (ltb a c || (t && ltb b d))
      go true f = rw (le-ltb a c (omega (arith, f refl)))
      go false f = plain (ltb a c)

  -- they are the same number where both are the same
  same-joined : eqb (a * base + b) (c * base + d) ≡ (eqb a c && eqb b d)
  same-joined = go (eqb a c) (eqb-true a c) (eqb-false a c)
    where
      go : (t : Bool) → (t ≡ true → a ≡ c) → (t ≡ false → a ≡ c → ⊥) → eqb (a * base + b) (c * base + d) ≡ (t && eqb b d)
      go true f g = ap (λ (n : ℕ). eqb (a * base + b) (n * base + d)) (sym (f refl)) ∙ sym (same_low base a b d)
      go false f g = sym (same-high base a b c d hb hd (g refl))

-- the key of entries whose costs are costs: f as a number, then the cell, then g as a number
key-order : (a b : Entry) → CostEntry a → CostEntry b → ltb (waiting_key a) (waiting_key b) ≡ first_out a b
unfolding waiting_key first_out
key-order a b v w =
    let wide : ℕ = 340282366920938463463374607431768211456 in
    let first = a.f * wide + a.cell in
    let second = b.f * wide + b.cell in
    let in-a = v.g-cost.positive in
    let in_b = w.g-cost.positive in
    less-joined 18446744073709551616 first a.g second b.g (omega arith) (omega arith)
    ∙ (λ i. less-joined wide a.f a.cell b.f b.cell v.cell-word w.cell-word i
    || (same-joined wide a.f a.cell b.f b.cell v.cell-word w.cell-word i && ltb a.g b.g))
    ∙ regroup (ltb a.f b.f) (eqb a.f b.f) (ltb a.cell b.cell) (eqb a.cell b.cell) (ltb a.g b.g)
    ∙ (λ i. sym (cost-order a.f b.f v.f-cost w.f-cost) i
    || (sym (cost-equal a.f b.f v.f-cost w.f-cost) i && (ltb a.cell b.cell || (eqb a.cell b.cell && sym (cost-order a.g b.g v.g-cost w.g-cost) i))))
  where
    regroup : (p q r t u : Bool) → ((p || (q && r)) || ((q && t) && u)) ≡ (p || (q && (r || (t && u))))
    regroup true q r t u = refl
    regroup false true r t u = refl
    regroup false false r t u = refl

-- ---- the search over cells

-- a number whose cell has two words has 128 bits
narrow-words : (n : ℕ) → Words (cell_of n) → Narrow n
narrow-words n w = (div-lt_iff_lt-mul {k = 2 ^ 64} {x = n} {y = 2 ^ 64} (lit< tt)).0 w.high_word

-- between a start of 128 bits and any goal, in any rooms, under any limit, rule and flags
module _ (s e : Cell) (known waiting limit rule : ℕ) (rows : List layer.Row) (in_start : Words s) where
  abbrev plan : Problem
  plan = plan_of (endpoints s e) (in_rooms known waiting) limit rule rows

  -- its steps and distances are costs, and its cells have 128 bits
  plan-costs : CostProblem plan
  unfolding plan_of
  plan-costs =
      record {
        start_word = narrow-words (raw_of s) (subst Words (sym (cell-raw s in_start)) in_start);
        steps = λ c n. step-cost (cell_of c) (cell_of n);
        estimates = λ n h f. ahead-cost (cell_of n) e h (sym f);
        near-words = λ c ns f. each-follows (Beside c) Narrow (λ n b. narrow-words n b.words) ns (near-beside c ns f);
      }

  module _ (pops : ℕ) where
    -- after so many pops every f and g is a cost
    pub reached-costs : (t : State) → run plan pops (begin plan (plan.heuristic plan.start)) ≡ going t → CostState t
    reached-costs t r = subst CostFlow r (run-costs plan plan-costs pops)

    -- THE THEOREM: of any two waiting entries, the smaller key is that of the entry which document 01 has come out first
    pub keys-in-order : (t : State) → run plan pops (begin plan (plan.heuristic plan.start)) ≡ going t
        → (a b : Entry) → Memᴰ a t.waiting → Memᴰ b t.waiting → ltb (waiting_key a) (waiting_key b) ≡ first_out a b
    keys-in-order t r a b m n = let w = (reached-costs t r).of-waiting in key-order a b (at-member CostEntry m w) (at-member CostEntry n w)
