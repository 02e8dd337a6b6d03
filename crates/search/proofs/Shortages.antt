-- Where a search stops for want of room: in the midst of a pop, at a neighbour whose g falls, in a state that fills the room. Over any problem that refuses other things by itself.
use mathlib.Core.Path.{◌≡◌, refl, ◌∙◌, subst}
use mathlib.Core.Bool.{true, false, ◌||◌}
use mathlib.Core.List.{List, [], ◌∷◌}
use mathlib.Core.Option.{Option}
use Prim.Native.Nat.{ℕ, zero, suc, ◌+◌, ◌≤◌}
use native.Mathlib.Omega.{arith}
use lib.Dec.{eqb, ltb}
use lib.ListN.{length}
use borrow.Author.Tests.{ltb-false}
use Rattle.refusal.specs.declared.Room.{Room}
use Rattle.refusal.specs.declared.Room.TheVariants.{Known, Waiting}
use Rattle.refusal.specs.declared.Refusal.{Refusal}
use Rattle.refusal.specs.declared.Refusal.TheVariants.{SearchLimitExceeded, NoRoom}
use Rattle.search.specs.Search.{Problem, OrRefused, is, refused, KnownRow, Entry, State, none_found, Flow, going, done, stopped, and_then, find, is_closed, is_known, g_of, plus, less, push, lower, tried, relax, relax_all, around, arrived, entered, popped, next, step, run, first, begin, Ends}
use Rattle.general.proofs.Tests.{whether, neither}
use Rattle.search.proofs.Invariants.{Lowered}
use Rattle.search.specs.Reached.{closing, Reached, at_first, popped-on, Midway, opened, looked-on}

-- a refusal that is about no room
abbrev pub Other : Refusal → Type 0
Other r = (room : Room) → r ≡ NoRoom room → ⊥

-- what a problem refuses by itself
pub record OtherRefusals (P : Problem) : Type 0 where
  pub ahead-other : (n : ℕ) (r : Refusal) → P.heuristic n ≡ refused r → Other r
  pub near-other : (n : ℕ) (r : Refusal) → P.neighbors n ≡ refused r → Other r
  pub nowhere-other : Other P.no_path

-- the room that is full where n is to come in: that of the known cells, if it is a new one, or that of the waiting entries
pub data Full (P : Problem) (n : ℕ) (s : State) : Room → Type 0 where
  of-known : is_known (find n s.known) ≡ false → P.known_room ≤ length s.known → Full P n s Known
  of-waiting : {h : ℕ} → (is_known (find n s.known) || ltb (length s.known) P.known_room) ≡ true → P.heuristic n ≡ is h → P.waiting_room ≤ length s.waiting → Full P n s Waiting

-- the place, and the neighbour for which there is no room there
pub record Shortage (P : Problem) (room : Room) : Type 0 where
  pub cell : ℕ
  pub g : ℕ
  pub neighbour : ℕ
  pub others : List ℕ
  pub place : State
  pub midway : Midway P cell g place (neighbour ∷ others)
  pub lowered : Lowered P neighbour (plus g (P.cost cell neighbour)) place
  pub full : Full P neighbour place room

module _ (P : Problem) (own : OtherRefusals P) (room : Room) where
  -- ---- at one neighbour

  going_on : {Q : Type 0} {s : State} → going s ≡ stopped (NoRoom room) → Q
  going_on e = absurd (let z : ◌≡◌ {A = ℕ} 0 1 = cc in omega arith)

  module _ (c g n : ℕ) (s : State) where
    abbrev t : ℕ
    t = plus g (P.cost c n)

    abbrev k : Option KnownRow
    k = find n s.known

    push-short : (is_known k || ltb (length s.known) P.known_room) ≡ true → (a : OrRefused ℕ) → P.heuristic n ≡ a → push P c n t s a ≡ stopped (NoRoom room) → Full P n s room
    push-short fits (refused r) a e = absurd (own.ahead-other n r a room (let same : r ≡ NoRoom room = cc in same))
    push-short fits (is h) a e =
        whether (ltb (length s.waiting) P.waiting_room) (λ w. going_on (rw w at e))
        (λ w. ended (rw w at e) (ltb-false (length s.waiting) P.waiting_room w))
      where
        ended : stopped (NoRoom Waiting) ≡ stopped (NoRoom room) → P.waiting_room ≤ length s.waiting → Full P n s room
        ended f w = let same : Waiting ≡ room = cc in subst (Full P n s) same (of-waiting fits a w)

    lower-short : lower P c n t s k ≡ stopped (NoRoom room) → Full P n s room
    unfolding lower
    lower-short e =
        whether (is_known k || ltb (length s.known) P.known_room) (λ h. push-short h (P.heuristic n) refl (rw h at e))
        (λ h. let o = neither (is_known k) (ltb (length s.known) P.known_room) h in ended (rw h at e) o.0 (ltb-false (length s.known) P.known_room o.1))
      where
        ended : stopped (NoRoom Known) ≡ stopped (NoRoom room) → is_known k ≡ false → P.known_room ≤ length s.known → Full P n s room
        ended f o h = let same : Known ≡ room = cc in subst (Full P n s) same (of-known o h)

    relax-short : relax P c g n s ≡ stopped (NoRoom room) → Lowered P n t s × Full P n s room
    unfolding relax tried
    relax-short e =
        whether (is_closed k || P.blocked n) (λ h. going_on (rw h at e))
        (λ h. let o = neither (is_closed k) (P.blocked n) h in
        whether (less t (g_of k)) (λ f. (record { not-closed = o.0; not-shut = o.1; falls = f }, lower-short (rw (h, f) at e))) (λ f. going_on (rw (h, f) at e)))

  -- ---- on the way there

  relax_all-short : (c g : ℕ) (ns : List ℕ) (s : State) → Midway P c g s ns → relax_all P c g ns s ≡ stopped (NoRoom room) → Shortage P room
  unfolding relax_all
  relax_all-short c g [] s m e = going_on e
  relax_all-short c g (n ∷ ns) s m e = go (relax P c g n s) refl e (λ t m f. relax_all-short c g ns t m f)
    where
      go : (f : Flow) → relax P c g n s ≡ f → and_then f (relax_all P c g ns) ≡ stopped (NoRoom room) → ((t : State) → Midway P c g t ns → relax_all P c g ns t ≡ stopped (NoRoom room) → Shortage P room) → Shortage P room
      go (going t) f e later = later t (looked-on m f) e
      go (done r) f e later =
          let h = relax-short c g n s (f ∙ e) in
          record { cell = c; g = g; neighbour = n; others = ns; place = s; midway = m; lowered = h.0; full = h.1 }

  module _ (s : State) (reached : Reached P s) (e : Entry) (rest : List Entry) (waits : s.waiting ≡ e ∷ rest) where
    around-short : (a : OrRefused (List ℕ)) → P.neighbors e.cell ≡ a → is_closed (find e.cell s.known) ≡ false → ltb P.limit (s.count + 1) ≡ false → eqb e.cell P.goal ≡ false
        → around P e.cell (g_of (find e.cell s.known)) (closing e.cell rest s) a ≡ stopped (NoRoom room) → Shortage P room
    around-short (refused r) a o l q f = absurd (own.near-other e.cell r a room (let same : r ≡ NoRoom room = cc in same))
    around-short (is ns) a o l q f = relax_all-short e.cell (g_of (find e.cell s.known)) ns (closing e.cell rest s) (opened reached waits o l q a) f

    popped-short : popped P e.cell rest s ≡ stopped (NoRoom room) → Shortage P room
    unfolding popped entered arrived
    popped-short f =
        whether (is_closed (find e.cell s.known)) (λ o. going_on (rw o at f))
        (λ o. whether (ltb P.limit (s.count + 1)) (λ l. absurd (beyond (rw (o, l) at f)))
        (λ l. whether (eqb e.cell P.goal) (λ q. absurd (at-goal (rw (o, l, q) at f)))
        (λ q. around-short (P.neighbors e.cell) refl o l q (rw (o, l, q) at f))))
      where
        beyond : stopped (SearchLimitExceeded (record { expansions = s.count + 1; limit = P.limit })) ≡ stopped (NoRoom room) → ⊥
        beyond f = let z : ◌≡◌ {A = ℕ} 0 1 = cc in omega arith

        at-goal : done (arrived P (closing e.cell rest s)) ≡ stopped (NoRoom room) → ⊥
        at-goal f = let z : ◌≡◌ {A = ℕ} 0 1 = cc in omega arith

  step-short : (s : State) → Reached P s → step P s ≡ stopped (NoRoom room) → Shortage P room
  unfolding step
  step-short s reached f = go s.waiting refl f
    where
      go : (w : List Entry) → s.waiting ≡ w → next P w s ≡ stopped (NoRoom room) → Shortage P room
      go [] e f = absurd (own.nowhere-other room (let same : P.no_path ≡ NoRoom room = cc in same))
      go (e ∷ rest) waits f = popped-short s reached e rest waits f

  run_short : (k : ℕ) (s : State) → Reached P s → run P k (going s) ≡ stopped (NoRoom room) → Shortage P room
  unfolding run
  run_short zero s reached e = going_on e
  run_short (suc k) s reached e = go k (step P s) refl e (λ t r f. run_short k t r f)
    where
      go : (k : ℕ) (f : Flow) → step P s ≡ f → run P k f ≡ stopped (NoRoom room) → ((t : State) → Reached P t → run P k (going t) ≡ stopped (NoRoom room) → Shortage P room) → Shortage P room
      go k (going t) f e later = later t (popped-on reached f) e
      go zero (done r) f e later = step-short s reached (f ∙ e)
      go (suc k) (done r) f e later = step-short s reached (f ∙ e)

  refused-told : (k : ℕ) (r : Refusal) → run P k (stopped r) ≡ stopped (NoRoom room) → r ≡ NoRoom room
  unfolding run
  refused-told zero r e = cc
  refused-told (suc k) r e = cc

  -- a search that ends for want of a room came to such a place
  pub short-at : Ends P (none_found (NoRoom room)) → Shortage P room
  short-at (k, e) = go (P.heuristic P.start) refl e
    where
      go : (a : OrRefused ℕ) → P.heuristic P.start ≡ a → run P k (begin P a) ≡ stopped (NoRoom room) → Shortage P room
      go (is h) a e = run_short k (first P h) (at_first a) e
      go (refused r) a e = absurd (own.ahead-other P.start r a room (refused-told k r e))
