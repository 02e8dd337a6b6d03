-- Two searches that differ in their rooms only, the second with rooms at least as large: step by step they are the same, until the first has no room. Over any problem.
use mathlib.Core.Path.{◌≡◌, refl, sym, ◌∙◌, subst}
use mathlib.Core.Logic.{◌⊎◌, inl, inr}
use mathlib.Core.Bool.{Bool, true, false, ◌||◌, cond}
use mathlib.Core.List.{List, [], ◌∷◌}
use mathlib.Core.Option.{Option}
use Prim.Native.Nat.{ℕ, zero, suc, ◌≤◌}
use native.Mathlib.Omega.{arith}
use lib.Dec.{eqb, ltb}
use lib.ListN.{length}
use borrow.Author.Tests.{ltb-true, lt-ltb}
use Rattle.refusal.specs.declared.Room.TheVariants.{Known, Waiting}
use Rattle.refusal.specs.declared.Refusal.TheVariants.{NoRoom}
use Rattle.search.specs.Search.{Problem, OrRefused, is, refused, KnownRow, Entry, State, SearchResult, none_found, Flow, going, done, stopped, and_then, find, is_closed, is_known, g_of, plus, less, pushed, push, lower, tried, relax, relax_all, around, arrived, entered, popped, next, step, run, begin, Ends}
use Rattle.search.specs.Reached.{closing}
use Rattle.general.proofs.Tests.{on_test}

-- the same problem with other rooms
abbrev pub with_rooms : ℕ → ℕ → Problem → Problem
with_rooms known waiting P =
    record {
      start = P.start;
      goal = P.goal;
      known_room = known;
      waiting_room = waiting;
      limit = P.limit;
      blocked = P.blocked;
      neighbors = P.neighbors;
      cost = P.cost;
      heuristic = P.heuristic;
      no_path = P.no_path;
    }

-- a search that stopped for want of one of its rooms
pub data Short : Flow → Type 0 where
  short-known : Short (stopped (NoRoom Known))
  short-waiting : Short (stopped (NoRoom Waiting))

-- the same, if it is not that
abbrev pub Alike : Flow → Flow → Type 0
Alike f h = (f ≡ h) ⊎ Short f

then-alike : {f h : Flow} {next later : State → Flow} → Alike f h → ((s : State) → Alike (next s) (later s)) → Alike (and_then f next) (and_then h later)
then-alike {f} {next = next} {later = later} (inl e) a = subst (λ (h : Flow). Alike (and_then f next) (and_then h later)) e (go f)
  where
    go : (f : Flow) → Alike (and_then f next) (and_then f later)
    go (going s) = a s
    go (done r) = inl refl
then-alike (inr short-known) a = inr short-known
then-alike (inr short-waiting) a = inr short-waiting

-- where both go the same way by one test
by-test : (t : Bool) {f g h i : Flow} → Alike f h → Alike g i → Alike (cond t f g) (cond t h i)
by-test true a b = a
by-test false a b = b

-- where there is room, there is room in the larger one
room-kept : (n room larger : ℕ) → room ≤ larger → ltb n room ≡ true → ltb n larger ≡ true
room-kept n room larger h e = lt-ltb n larger (omega (arith, ltb-true n room e))

-- a cell that is known needs none
pub fits-larger : (known : Bool) (n room larger : ℕ) → room ≤ larger → (known || ltb n room) ≡ true → (known || ltb n larger) ≡ true
fits-larger true n room larger h e = refl
fits-larger false n room larger h e = room-kept n room larger h e

module _ (P : Problem) (known waiting : ℕ) (more-known : P.known_room ≤ known) (more-waiting : P.waiting_room ≤ waiting) where
  abbrev pub L : Problem
  L = with_rooms known waiting P

  push-alike : (c n t : ℕ) (s : State) (h : OrRefused ℕ) → Alike (push P c n t s h) (push L c n t s h)
  push-alike c n t s (refused r) = inl refl
  push-alike c n t s (is h) =
      let w = length s.waiting in
      on_test (λ (f : Flow). Alike f (push L c n t s (is h))) (ltb w P.waiting_room) (going (pushed P c n t h s)) (stopped (NoRoom Waiting))
      (λ e. inl (rw (room-kept w P.waiting_room waiting more-waiting e)))
      (λ e. inr short-waiting)

  lower-alike : (c n t : ℕ) (s : State) (k : Option KnownRow) → Alike (lower P c n t s k) (lower L c n t s k)
  unfolding lower
  lower-alike c n t s k =
      let m = length s.known in
      on_test (λ (f : Flow). Alike f (lower L c n t s k)) (is_known k || ltb m P.known_room) (push P c n t s (P.heuristic n)) (stopped (NoRoom Known))
      (λ e. rw (fits-larger (is_known k) m P.known_room known more-known e) (push-alike c n t s (P.heuristic n)))
      (λ e. inr short-known)

  pub relax-alike : (c g n : ℕ) (s : State) → Alike (relax P c g n s) (relax L c g n s)
  unfolding relax tried
  relax-alike c g n s =
      let k = find n s.known in
      let t = plus g (P.cost c n) in
      by-test (is_closed k || P.blocked n) (inl refl) (by-test (less t (g_of k)) (lower-alike c n t s k) (inl refl))

  relax_all-alike : (c g : ℕ) (ns : List ℕ) (s : State) → Alike (relax_all P c g ns s) (relax_all L c g ns s)
  unfolding relax_all
  relax_all-alike c g [] s = inl refl
  relax_all-alike c g (n ∷ ns) s = then-alike (relax-alike c g n s) (relax_all-alike c g ns)

  around-alike : (c g : ℕ) (s : State) (ns : OrRefused (List ℕ)) → Alike (around P c g s ns) (around L c g s ns)
  around-alike c g s (refused r) = inl refl
  around-alike c g s (is ns) = relax_all-alike c g ns s

  entered-alike : (c g : ℕ) (s : State) → Alike (entered P c g s) (entered L c g s)
  unfolding entered arrived
  entered-alike c g s = by-test (ltb P.limit s.count) (inl refl) (by-test (eqb c P.goal) (inl refl) (around-alike c g s (P.neighbors c)))

  next-alike : (w : List Entry) (s : State) → Alike (next P w s) (next L w s)
  unfolding popped
  next-alike [] s = inl refl
  next-alike (e ∷ rest) s =
      let k = find e.cell s.known in
      by-test (is_closed k) (inl refl) (entered-alike e.cell (g_of k) (closing e.cell rest s))

  pub step-alike : (s : State) → Alike (step P s) (step L s)
  unfolding step
  step-alike s = next-alike s.waiting s

  run_short : (k : ℕ) {f : Flow} → Short f → Short (run P k f)
  unfolding run
  run_short zero h = h
  run_short (suc k) short-known = short-known
  run_short (suc k) short-waiting = short-waiting

  -- after so many pops both are at the same place, or the first has no room
  pub run-alike : (k : ℕ) (f : Flow) → (run P k f ≡ run L k f) ⊎ Short (run P k f)
  unfolding run
  run-alike zero f = inl refl
  run-alike (suc k) (done r) = inl refl
  run-alike (suc k) (going s) = go (step-alike s) (run-alike k (step P s))
    where
      go : Alike (step P s) (step L s) → Alike (run P k (step P s)) (run L k (step P s)) → Alike (run P k (step P s)) (run L k (step L s))
      go (inl e) later = subst (λ (f : Flow). Alike (run P k (step P s)) (run L k f)) e later
      go (inr short) later = inr (run_short k short)

  -- a search that ends for another reason ends so in larger rooms
  pub ends-alike : (r : SearchResult) → Ends P r → (r ≡ none_found (NoRoom Known) → ⊥) → (r ≡ none_found (NoRoom Waiting) → ⊥) → Ends L r
  ends-alike r (k, e) some_Known some-waiting = (k, go (run-alike k (begin P (P.heuristic P.start))))
    where
      other : (f : Flow) → f ≡ done r → Short f → ⊥
      other f e short-known = some_Known (let same : none_found (NoRoom Known) ≡ r = cc in sym same)
      other f e short-waiting = some-waiting (let same : none_found (NoRoom Waiting) ≡ r = cc in sym same)

      go : Alike (run P k (begin P (P.heuristic P.start))) (run L k (begin P (P.heuristic P.start))) → run L k (begin P (P.heuristic P.start)) ≡ done r
      go (inl same) = sym same ∙ e
      go (inr short) = absurd (other (run P k (begin P (P.heuristic P.start))) e short)
