-- The entry that a search pops next is the one that document 01 has come out first: no waiting entry comes before it (`popped-is-first`).
use mathlib.Core.Path.{◌≡◌, refl, sym, subst, ◌∙◌}
use mathlib.Core.Bool.{false}
use mathlib.Core.List.{List, [], ◌∷◌, Memᴰ}
use Prim.Native.Nat.{ℕ, ◌≤◌}
use native.Mathlib.Nat.{le_trans, le_of_lt}
use lib.Dec.{leb}
use borrow.Author.Tests.{le-ltb, leb-true, leb-false}
use Rattle.refusal.specs.declared.Cell.{Cell}
use Rattle.general.specs.Each.{Each}
use Rattle.general.proofs.Lists.{at-member}
use Rattle.cell.specs.Terms.{Words}
use Rattle.table.specs.Records as layer
use Rattle.search.specs.Search.{Problem, OrRefused, is, refused, Entry, State, Flow, going, find, g_of, plus, waiting_key, insert, pushed, relax_all, arrived, popped, next, step, run, begin}
use Rattle.search.specs.Plan.{plan_of, endpoints}
use Rattle.known.specs.Workspace.{in_rooms}
use Rattle.search.specs.Reached.{closing}
use Rattle.general.proofs.Tests.{on_test}
use Rattle.search.proofs.WaitingLaws.{each-insert, each-follows}
use Rattle.search.proofs.Ending.{Any, each-any}
use Rattle.search.proofs.Invariants.{Holding, holding-follows, Lowered, HasRoom, relax_all-keeps, popped-keeps, run-keeps}
use Rattle.search.specs.Costs.{first_out}
use Rattle.search.proofs.CostsKept.{keys-in-order}
use Rattle.table.specs.Records.{layer}

-- ---- entries in the order of their keys

abbrev NotAfter : Entry → Entry → Type 0
NotAfter e d = waiting_key e ≤ waiting_key d

-- each is followed by none that should come before it
abbrev Ascending : List Entry → Type 0
Ascending [] = Unit {0}
Ascending (e ∷ w) = Each (NotAfter e) w × Ascending w

-- where `insert` puts one more
ascending-insert : (e : Entry) (w : List Entry) → Ascending w → Ascending (insert e w)
unfolding insert
ascending-insert e [] h = (tt, tt)
ascending-insert e (d ∷ ds) h =
    on_test Ascending (leb (waiting_key e) (waiting_key d)) (e ∷ d ∷ ds) (d ∷ insert e ds)
    (λ t. let l = leb-true (waiting_key e) (waiting_key d) t in ((l, each-follows (NotAfter d) (NotAfter e) (λ x m. le_trans l m) ds h.0), h))
    (λ t. let l = leb-false (waiting_key e) (waiting_key d) t in (each-insert (NotAfter d) e ds h.0 (le_of_lt l), ascending-insert e ds h.1))

-- ---- over any problem

-- the entries of a state
abbrev Ordered : State → Type 0
Ordered s = Ascending s.waiting

module _ (P : Problem) where
  abbrev InOrder : Flow → Type 0
  InOrder = Holding Ordered (Any P)

  push-ordered : (c g n h : ℕ) (s : State) → P.heuristic n ≡ is h → Unit {0} → Ordered s → Lowered P n (plus g (P.cost c n)) s → HasRoom P n s
      → Ordered (pushed P c n (plus g (P.cost c n)) h s)
  push-ordered c g n h s estimate any kept l room = ascending-insert (record { f = plus (plus g (P.cost c n)) h; cell = n; g = plus g (P.cost c n) }) s.waiting kept

  popped-ordered : (c : ℕ) (rest : List Entry) (s : State) → Ascending rest → InOrder (popped P c rest s)
  unfolding arrived
  popped-ordered c rest s kept =
      let g = g_of (find c s.known) in
      popped-keeps P Ordered (Any P) c rest s (λ h. kept) (λ h e. tt)
      (λ h ns e. holding-follows Ordered Ordered (Any P) (λ t k. k) (relax_all P c g ns (closing c rest s))
      (relax_all-keeps P c g (λ (n : ℕ). Unit {0}) Ordered (push-ordered c g) ns (closing c rest s) (each-any P ns) kept))

  step-ordered : (s : State) → Ordered s → InOrder (step P s)
  unfolding step
  step-ordered s kept = go s.waiting kept
    where
      go : (w : List Entry) → Ascending w → InOrder (next P w s)
      go [] h = tt
      go (e ∷ rest) h = popped-ordered e.cell rest s h.1

  begin-ordered : (h : OrRefused ℕ) → InOrder (begin P h)
  begin-ordered (refused r) = tt
  begin-ordered (is h) = (tt, tt)

  -- so many pops keep it
  run-ordered : (k : ℕ) → InOrder (run P k (begin P (P.heuristic P.start)))
  run-ordered k = run-keeps P Ordered (Any P) step-ordered k (begin P (P.heuristic P.start)) (begin-ordered (P.heuristic P.start))

-- ---- the search over cells

-- between a start of 128 bits and any goal, in any rooms, under any limit, rule and flags
module _ (s e : Cell) (known waiting limit rule : ℕ) (rows : List layer.Row) (in_start : Words s) where
  abbrev plan : Problem
  plan = plan_of (endpoints s e) (in_rooms known waiting) limit rule rows

  -- after so many pops: nothing that waits comes before the entry that is popped next
  pub popped-is-first : (pops : ℕ) (t : State) → run plan pops (begin plan (plan.heuristic plan.start)) ≡ going t
      → (a : Entry) (rest : List Entry) → t.waiting ≡ a ∷ rest → (b : Entry) → Memᴰ b rest → first_out b a ≡ false
  popped-is-first pops t r a rest w b m =
      let kept : Ascending (a ∷ rest) = subst Ascending w (subst (InOrder plan) r (run-ordered plan pops)) in
      sym (keys-in-order s e known waiting limit rule rows in_start pops t r b a (subst (Memᴰ b) (sym w) (Memᴰ.tail m)) (subst (Memᴰ a) (sym w) (Memᴰ.head refl)))
      ∙ le-ltb (waiting_key b) (waiting_key a) (at-member (NotAfter a) m kept.0)
