-- A search that stops for want of room, held beside the same search in larger rooms: the larger one comes to the same place, and goes past it with one more. Over any problem.
use mathlib.Core.Path.{◌≡◌, refl, sym, ◌∙◌, ap, subst}
use mathlib.Core.Logic.{inl, inr}
use mathlib.Core.Bool.{true, false, ◌||◌}
use mathlib.Core.List.{List, ◌∷◌}
use Prim.Native.Nat.{ℕ, suc, ◌≤◌, ◌<◌}
use native.Mathlib.Nat.{le_of_lt}
use native.Mathlib.Omega.{arith}
use lib.Dec.{ltb}
use lib.ListN.{length}
use borrow.Author.Tests.{lt-ltb}
use Rattle.refusal.specs.declared.Room.{Room}
use Rattle.refusal.specs.declared.Room.TheVariants.{Known, Waiting}
use Rattle.refusal.specs.declared.Refusal.TheVariants.{NoRoom}
use Rattle.general.specs.Each.{Each}
use Rattle.search.specs.Search.{Problem, OrRefused, is, refused, Entry, State, none_found, Flow, going, find, is_closed, is_known, plus, pushed, push, lower, tried, relax, step, Ends}
use Rattle.search.proofs.WaitingLaws.{length-insert}
use Rattle.search.specs.Inner.KnownCell.{KnownCell}
use Rattle.search.specs.Inner.Counted.{closed_in}
use Rattle.search.proofs.ClosedCounts.{length-put, length-put-new}
use Rattle.search.proofs.Invariants.{Holding, Unfound, Lowered, relax-keeps}
use Rattle.search.proofs.Ending.{Roomy, Looking, push-looking, closing-looking, Less, left, Any, step_down, first-roomy}
use Rattle.search.proofs.LargerRooms.{with_rooms, fits-larger, short-known, short-waiting, Alike, relax-alike, step-alike}
use Rattle.search.specs.Reached.{closing, Reached, at_first, popped-on, Midway, opened, looked-on, OneMore, one_known, one-refused, one-waiting, MoreAt, takes-known, takes-refused, takes-waiting, FirstMore}
use Rattle.search.proofs.Shortages.{OtherRefusals, Full, of-known, of-waiting, short-at}

-- ---- no place is overfull

module _ (P : Problem) (some_Known : 1 ≤ P.known_room) (some-waiting : 1 ≤ P.waiting_room) where
  roomy-going : {s t : State} → Roomy P s → (f : Flow) → Holding (Less P (left P s)) (Any P) f → f ≡ going t → Roomy P t
  roomy-going {s} w f h e = (subst (Holding (Less P (left P s)) (Any P)) e h).roomy

  reached-roomy : {s : State} → Reached P s → Roomy P s
  reached-roomy (at_first {h = h} e) = first-roomy P some_Known some-waiting h
  reached-roomy (popped-on {s = s} r e) = let w = reached-roomy r in roomy-going w (step P s) (step_down P s w) e

  opened-roomy : (s : State) → Roomy P s → (e : Entry) (rest : List Entry) → s.waiting ≡ e ∷ rest → is_closed (find e.cell s.known) ≡ false → Roomy P (closing e.cell rest s)
  opened-roomy s w e rest waits o =
      let h = subst (Each (KnownCell s.known)) waits w.waits in
      (closing-looking P s w e.cell rest h.0 h.1 (omega (arith, ap length waits)) o).roomy

  pub looked-roomy : (c g n : ℕ) (s t : State) → Roomy P s → relax P c g n s ≡ going t → Roomy P t
  looked-roomy c g n s t w e =
      let closed = closed_in s.known in
      (subst (Holding (Looking P closed) Unfound) e (relax-keeps P c g (λ (n : ℕ). Unit {0}) (Looking P closed) (push-looking P closed c g) n s tt (record { roomy = w; same = refl }))).roomy

  pub midway-roomy : {c g : ℕ} {s : State} {ns : List ℕ} → Midway P c g s ns → Roomy P s
  midway-roomy (opened {s = s} {e = e} {rest = rest} r waits o l q near) = opened-roomy s (reached-roomy r) e rest waits o
  midway-roomy (looked-on {c = c} {g = g} {n = n} {s = s} {t = t} m e) = looked-roomy c g n s t (midway-roomy m) e

-- ---- the larger search comes to the same places

module _ (P : Problem) (known waiting : ℕ) (more-known : P.known_room ≤ known) (more-waiting : P.waiting_room ≤ waiting) where
  abbrev L : Problem
  L = with_rooms known waiting P

  same-going : {f h : Flow} {t : State} → Alike f h → f ≡ going t → h ≡ going t
  same-going (inl same) e = sym same ∙ e
  same-going (inr short-known) e = absurd (let z : ◌≡◌ {A = ℕ} 0 1 = cc in omega arith)
  same-going (inr short-waiting) e = absurd (let z : ◌≡◌ {A = ℕ} 0 1 = cc in omega arith)

  reached-larger : {s : State} → Reached P s → Reached L s
  reached-larger (at_first e) = at_first e
  reached-larger (popped-on {s = s} r e) = popped-on (reached-larger r) (same-going (step-alike P known waiting more-known more-waiting s) e)

  midway-larger : {c g : ℕ} {s : State} {ns : List ℕ} → Midway P c g s ns → Midway L c g s ns
  midway-larger (opened r waits o l q near) = opened (reached-larger r) waits o l q near
  midway-larger (looked-on {c = c} {g = g} {n = n} {s = s} m e) = looked-on (midway-larger m) (same-going (relax-alike P known waiting more-known more-waiting c g n s) e)

-- ---- and goes on

module _ (P : Problem) (known waiting : ℕ) (more-known : P.known_room < known) (more-waiting : P.waiting_room < waiting) where
  abbrev Larger : Problem
  Larger = with_rooms known waiting P

  module _ (c g n : ℕ) (s : State) (w : Roomy P s) (l : Lowered P n (plus g (P.cost c n)) s) where
    abbrev t : ℕ
    t = plus g (P.cost c n)

    -- at this place and this neighbour
    abbrev Past : Room → Type 0
    Past = MoreAt Larger P.known_room P.waiting_room c g n s

    -- with room for the cell
    relaxed : (is_known (find n s.known) || ltb (length s.known) known) ≡ true → relax Larger c g n s ≡ push Larger c n t s (P.heuristic n)
    unfolding relax tried lower
    relaxed fits = rw (l.not-closed, l.not-shut, l.falls, fits)

    -- and for its entry
    pushed-on : (h : ℕ) → push Larger c n t s (is h) ≡ going (pushed Larger c n t h s)
    pushed-on h = rw (lt-ltb (length s.waiting) waiting (omega (arith, w.few, more-waiting)))

    past-known : is_known (find n s.known) ≡ false → length s.known ≡ P.known_room → Past Known
    past-known new full = go (P.heuristic n) refl
      where
        fits : (is_known (find n s.known) || ltb (length s.known) known) ≡ true
        fits = rw new (lt-ltb (length s.known) known (omega (arith, full, more-known)))

        go : (a : OrRefused ℕ) → P.heuristic n ≡ a → Past Known
        go (refused r) a = takes-refused (relaxed fits ∙ ap (push Larger c n t s) a) full new a
        go (is h) a = takes-known (relaxed fits ∙ ap (push Larger c n t s) a ∙ pushed-on h) full (length-put-new n t c s.known new ∙ ap suc full)

    past-waiting : (is_known (find n s.known) || ltb (length s.known) P.known_room) ≡ true → {h : ℕ} → P.heuristic n ≡ is h → length s.waiting ≡ P.waiting_room → Past Waiting
    past-waiting fits {h} a full =
        takes-waiting
        (relaxed (fits-larger (is_known (find n s.known)) (length s.known) P.known_room known (le_of_lt more-known) fits) ∙ ap (push Larger c n t s) a ∙ pushed-on h)
        (length-put n t c s.known P.known_room w.fits fits)
        full
        (length-insert (record { f = plus t h; cell = n; g = t }) s.waiting ∙ ap suc full)

    past : {room : Room} → Full P n s room → Past room
    past (of-known new full) = past-known new (omega (arith, full, w.fits))
    past (of-waiting fits a full) = past-waiting fits a (omega (arith, full, w.few))

  -- a search that ends for want of a room: the larger one takes one more at the place that both come to
  pub short-first-more : 1 ≤ P.known_room → 1 ≤ P.waiting_room → OtherRefusals P → (room : Room) → Ends P (none_found (NoRoom room)) → FirstMore P (with_rooms known waiting P) room
  short-first-more some_Known some-waiting own room e =
      let k = short-at P own room e in
      record {
        cell = k.cell;
        g = k.g;
        neighbour = k.neighbour;
        others = k.others;
        place = k.place;
        midway = k.midway;
        more = past k.cell k.g k.neighbour k.place (midway-roomy P some_Known some-waiting k.midway) k.lowered k.full;
      }

  at_more : {c g n : ℕ} {s : State} {ns : List ℕ} {room : Room} → Midway Larger c g s (n ∷ ns) → MoreAt Larger P.known_room P.waiting_room c g n s room
      → OneMore Larger P.known_room P.waiting_room room
  at_more m (takes-known e full longer) = one_known m e full longer
  at_more m (takes-refused e full new a) = one-refused m e full new a
  at_more m (takes-waiting e fits full longer) = one-waiting m e full longer

  -- and so it needs one more
  pub short-one-more : 1 ≤ P.known_room → 1 ≤ P.waiting_room → OtherRefusals P → (room : Room) → Ends P (none_found (NoRoom room)) → OneMore (with_rooms known waiting P) P.known_room P.waiting_room room
  short-one-more some_Known some-waiting own room e =
      let k = short-first-more some_Known some-waiting own room e in
      at_more (midway-larger P known waiting (le_of_lt more-known) (le_of_lt more-waiting) k.midway) k.more
