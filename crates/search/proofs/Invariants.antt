-- A fact that every push keeps holds while the neighbours of a cell are looked at; a fact that every step keeps holds all along the search.
use mathlib.Core.Path.{◌≡◌, refl}
use mathlib.Core.Bool.{true, false, ◌||◌, cond}
use mathlib.Core.List.{List, [], ◌∷◌}
use mathlib.Core.Option.{Option}
use Prim.Native.Nat.{ℕ, zero, suc, ◌+◌}
use lib.Dec.{eqb, ltb}
use borrow.Author.Tests.{eqb-true}
use lib.ListN.{length}
use Rattle.refusal.specs.declared.Room.{Room}
use Rattle.refusal.specs.declared.Room.TheVariants.{Known, Waiting}
use Rattle.refusal.specs.declared.Refusal.{Refusal}
use Rattle.refusal.specs.declared.Refusal.TheVariants.{SearchLimitExceeded, NoRoom}
use Rattle.general.specs.Each.{Each}
use Rattle.search.specs.Search.{Entry, state, around, arrived, entered, popped, Problem, KnownRow, OrRefused, is, refused, State, Flow, going, done, found, none_found, stopped, and_then, find, is_closed, is_known, g_of, plus, less, pushed, push, lower, tried, relax, relax_all, step, run}
use Rattle.search.specs.Reached.{closing}
use Rattle.general.proofs.Tests.{on_test, neither}

-- the flow is at a state where this holds, or it ended with such a route, or in such a refusal
abbrev pub Keeping : (State → Type 0) → (List ℕ → ℕ → ℕ → Type 0) → (Refusal → Type 0) → Flow → Type 0
Keeping Holds Right Refused (going s) = Holds s
Keeping Holds Right Refused (done (found cells cost expansions)) = Right cells cost expansions
Keeping Holds Right Refused (done (none_found r)) = Refused r

-- whatever is refused
abbrev pub AnyRefusal : Refusal → Type 0
AnyRefusal r = Unit {0}

-- the flow is at a state where this holds, or it ended in a refusal, or with such a route
abbrev pub Holding : (State → Type 0) → (List ℕ → ℕ → ℕ → Type 0) → Flow → Type 0
Holding Holds Right = Keeping Holds Right AnyRefusal

-- no route is found while neighbours are looked at
abbrev pub Unfound : List ℕ → ℕ → ℕ → Type 0
Unfound cells cost expansions = ⊥

pub keeping-follows : (Q R : State → Type 0) (Right : List ℕ → ℕ → ℕ → Type 0) (Refused : Refusal → Type 0) → ((s : State) → Q s → R s)
    → (f : Flow) → Keeping Q Unfound Refused f → Keeping R Right Refused f
keeping-follows Q R Right Refused i (going s) h = i s h
keeping-follows Q R Right Refused i (done (found cells cost expansions)) h = absurd h
keeping-follows Q R Right Refused i (done (none_found r)) h = h

pub holding-follows : (Q R : State → Type 0) (Right : List ℕ → ℕ → ℕ → Type 0) → ((s : State) → Q s → R s) → (f : Flow) → Holding Q Unfound f → Holding R Right f
holding-follows Q R Right = keeping-follows Q R Right AnyRefusal

-- what is refused in the midst of a pop: a room that is full, and what the problem's own calls refuse
pub record Refuses (P : Problem) (Refused : Refusal → Type 0) : Type 0 where
  pub of_room : (room : Room) → Refused (NoRoom room)
  pub of-ahead : (n : ℕ) (r : Refusal) → P.heuristic n ≡ refused r → Refused r
  pub of-near : (n : ℕ) (r : Refusal) → P.neighbors n ≡ refused r → Refused r

any-refusal : (P : Problem) → Refuses P AnyRefusal
any-refusal P = record { of_room = λ room. tt; of-ahead = λ n r e. tt; of-near = λ n r e. tt }

-- ---- the neighbours of a cell

-- the g of n falls to t, and n is a cell that may be gone to
pub record Lowered (P : Problem) (n t : ℕ) (s : State) : Type 0 where
  pub not-closed : is_closed (find n s.known) ≡ false
  pub not-shut : P.blocked n ≡ false
  pub falls : less t (g_of (find n s.known)) ≡ true

-- there is room for it
pub record HasRoom (P : Problem) (n : ℕ) (s : State) : Type 0 where
  pub known-room : (is_known (find n s.known) || ltb (length s.known) P.known_room) ≡ true
  pub waiting-room : ltb (length s.waiting) P.waiting_room ≡ true

-- every push keeps it
abbrev pub Pushes : Problem → ℕ → ℕ → (ℕ → Type 0) → (State → Type 0) → Type 0
Pushes P c g Near Holds =
    (n h : ℕ) (s : State) → P.heuristic n ≡ is h → Near n → Holds s → Lowered P n (plus g (P.cost c n)) s → HasRoom P n s → Holds (pushed P c n (plus g (P.cost c n)) h s)

module _ (P : Problem) (Refused : Refusal → Type 0) (refuses : Refuses P Refused) (c g : ℕ) (Near : ℕ → Type 0) (Holds : State → Type 0) (pushes : Pushes P c g Near Holds) where
  abbrev Keeps : Flow → Type 0
  Keeps = Keeping Holds Unfound Refused

  module _ (n : ℕ) (s : State) (near : Near n) (h : Holds s) where
    -- the g of n by way of c, and what is known of n
    abbrev t : ℕ
    t = plus g (P.cost c n)

    abbrev k : Option KnownRow
    k = find n s.known

    push-keeping : Lowered P n t s → (is_known k || ltb (length s.known) P.known_room) ≡ true → (a : OrRefused ℕ) → P.heuristic n ≡ a → Keeps (push P c n t s a)
    push-keeping l room (refused r) e = refuses.of-ahead n r e
    push-keeping l room (is a) e =
        on_test Keeps (ltb (length s.waiting) P.waiting_room) (going (pushed P c n t a s)) (stopped (NoRoom Waiting))
        (λ q. pushes n a s e near h l (record { known-room = room; waiting-room = q }))
        (λ q. refuses.of_room Waiting)

    pub relax-keeping : Keeps (relax P c g n s)
    unfolding relax tried lower
    relax-keeping =
        on_test Keeps (is_closed k || P.blocked n) (going s) (cond (less t (g_of k)) (lower P c n t s k) (going s)) (λ e. h)
        (λ e. on_test Keeps (less t (g_of k)) (lower P c n t s k) (going s)
        (λ f. on_test Keeps (is_known k || ltb (length s.known) P.known_room) (push P c n t s (P.heuristic n)) (stopped (NoRoom Known))
        (λ room. let o = neither (is_closed k) (P.blocked n) e in push-keeping (record { not-closed = o.0; not-shut = o.1; falls = f }) room (P.heuristic n) refl)
        (λ room. refuses.of_room Known))
        (λ f. h))

  then-keeping : (f : Flow) (next : State → Flow) → Keeps f → ((s : State) → Holds s → Keeps (next s)) → Keeps (and_then f next)
  then-keeping (going s) next h i = i s h
  then-keeping (done (found cells cost expansions)) next h i = h
  then-keeping (done (none_found r)) next h i = h

  pub relax_all-keeping : (ns : List ℕ) (s : State) → Each Near ns → Holds s → Keeps (relax_all P c g ns s)
  unfolding relax_all
  relax_all-keeping [] s near h = h
  relax_all-keeping (n ∷ ns) s near h =
      then-keeping (relax P c g n s) (relax_all P c g ns) (relax-keeping n s near.0 h) (λ later i. relax_all-keeping ns later near.1 i)

-- the same, whatever is refused
module _ (P : Problem) (c g : ℕ) (Near : ℕ → Type 0) (Holds : State → Type 0) (pushes : Pushes P c g Near Holds) where
  pub relax-keeps : (n : ℕ) (s : State) → Near n → Holds s → Holding Holds Unfound (relax P c g n s)
  relax-keeps = relax-keeping P AnyRefusal (any-refusal P) c g Near Holds pushes

  pub relax_all-keeps : (ns : List ℕ) (s : State) → Each Near ns → Holds s → Holding Holds Unfound (relax_all P c g ns s)
  relax_all-keeps = relax_all-keeping P AnyRefusal (any-refusal P) c g Near Holds pushes

-- ---- one pop

-- what is refused beyond the limit
abbrev pub exceeded : ℕ → ℕ → Refusal
exceeded limit count = SearchLimitExceeded (record { expansions = count; limit = limit })

module _ (P : Problem) (Holds : State → Type 0) (Right : List ℕ → ℕ → ℕ → Type 0) (Refused : Refusal → Type 0) (refuses : Refuses P Refused) where
  abbrev Keep : Flow → Type 0
  Keep = Keeping Holds Right Refused

  around-keeping : (c g : ℕ) (s : State) → ((ns : List ℕ) → P.neighbors c ≡ is ns → Keep (relax_all P c g ns s)) → (a : OrRefused (List ℕ)) → P.neighbors c ≡ a → Keep (around P c g s a)
  around-keeping c g s looks (refused r) e = refuses.of-near c r e
  around-keeping c g s looks (is ns) e = looks ns e

  entered-keeping : (c g : ℕ) (s : State) → (ltb P.limit s.count ≡ true → Refused (exceeded P.limit s.count))
      → (ltb P.limit s.count ≡ false → c ≡ P.goal → Keep (done (arrived P s)))
      → (ltb P.limit s.count ≡ false → (ns : List ℕ) → P.neighbors c ≡ is ns → Keep (relax_all P c g ns s))
      → Keep (entered P c g s)
  unfolding entered
  entered-keeping c g s exceeds arrives looks =
      on_test Keep (ltb P.limit s.count) (stopped (exceeded P.limit s.count)) (cond (eqb c P.goal) (done (arrived P s)) (around P c g s (P.neighbors c)))
      exceeds
      (λ e. on_test Keep (eqb c P.goal) (done (arrived P s)) (around P c g s (P.neighbors c)) (λ q. arrives e (eqb-true c P.goal q)) (λ q. around-keeping c g s (looks e) (P.neighbors c) refl))

  module _ (c : ℕ) (rest : List Entry) (s : State) where
    abbrev g : ℕ
    g = g_of (find c s.known)

    -- a pop skips the cell, or closes it: then it is beyond the limit, or it arrives, or it looks at the neighbours
    pub popped-keeping : (is_closed (find c s.known) ≡ true → Holds (state s.known rest s.count))
        → (is_closed (find c s.known) ≡ false → ltb P.limit (s.count + 1) ≡ true → Refused (exceeded P.limit (s.count + 1)))
        → (is_closed (find c s.known) ≡ false → ltb P.limit (s.count + 1) ≡ false → c ≡ P.goal → Keep (done (arrived P (closing c rest s))))
        → (is_closed (find c s.known) ≡ false → ltb P.limit (s.count + 1) ≡ false → (ns : List ℕ) → P.neighbors c ≡ is ns → Keep (relax_all P c g ns (closing c rest s)))
        → Keep (popped P c rest s)
    unfolding popped
    popped-keeping skips exceeds arrives looks =
        on_test Keep (is_closed (find c s.known)) (going (state s.known rest s.count)) (entered P c g (closing c rest s)) skips
        (λ h. entered-keeping c g (closing c rest s) (exceeds h) (arrives h) (looks h))

-- the same, whatever is refused
module _ (P : Problem) (Holds : State → Type 0) (Right : List ℕ → ℕ → ℕ → Type 0) (c : ℕ) (rest : List Entry) (s : State) where
  -- a pop skips the cell, or closes it: then it arrives, or looks at the neighbours
  pub popped-keeps : (is_closed (find c s.known) ≡ true → Holds (state s.known rest s.count))
      → (is_closed (find c s.known) ≡ false → c ≡ P.goal → Holding Holds Right (done (arrived P (closing c rest s))))
      → (is_closed (find c s.known) ≡ false → (ns : List ℕ) → P.neighbors c ≡ is ns → Holding Holds Right (relax_all P c (g_of (find c s.known)) ns (closing c rest s)))
      → Holding Holds Right (popped P c rest s)
  popped-keeps skips arrives looks =
      popped-keeping P Holds Right AnyRefusal (any-refusal P) c rest s skips (λ h e. tt) (λ h e. arrives h) (λ h e. looks h)

-- ---- all steps

module _ (P : Problem) (Holds : State → Type 0) (Right : List ℕ → ℕ → ℕ → Type 0) (Refused : Refusal → Type 0) (steps : (s : State) → Holds s → Keeping Holds Right Refused (step P s)) where
  pub run-keeping : (k : ℕ) (f : Flow) → Keeping Holds Right Refused f → Keeping Holds Right Refused (run P k f)
  unfolding run
  run-keeping zero f h = h
  run-keeping (suc k) (done r) h = h
  run-keeping (suc k) (going s) h = run-keeping k (step P s) (steps s h)

-- the same, whatever is refused
pub run-keeps : (P : Problem) (Holds : State → Type 0) (Right : List ℕ → ℕ → ℕ → Type 0) → ((s : State) → Holds s → Holding Holds Right (step P s))
    → (k : ℕ) (f : Flow) → Holding Holds Right f → Holding Holds Right (run P k f)
run-keeps P Holds Right = run-keeping P Holds Right AnyRefusal
