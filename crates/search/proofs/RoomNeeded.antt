-- "NoRoom is given exactly where the plain search would need one more", both ways. `no-room-first-more`: a search ends with NoRoom of a room if and only if it comes to a place at which the search
-- in larger rooms takes one more than that room holds. `no-room-needed`: and it ends with NoRoom of one of the two if and only if the search in larger rooms anywhere needs one more.
use Rattle.std.specs.Prelude.{Result, Ok, Err}
use Rattle.lattice.specs.declared.Parity.{Parity}
use mathlib.Core.Path.{◌≡◌, refl, sym, ap, ◌∙◌}
use mathlib.Core.Logic.{◌⊎◌, inl, inr, ◌↔◌}
use mathlib.Core.Bool.{true, false, ◌||◌}
use mathlib.Core.List.{List, [], ◌∷◌}
use mathlib.Core.Option.{Option}
use Prim.Native.Nat.{ℕ, ◌+◌, ◌≤◌, ◌<◌}
use native.Mathlib.Nat.{le_of_lt}
use native.Mathlib.Omega.{arith}
use lib.Dec.{eqb, ltb}
use lib.ListN.{length}
use borrow.Author.Tests.{le-ltb, lt-ltb}
use Rattle.refusal.specs.declared.Cell.{Cell}
use Rattle.refusal.specs.declared.Room.{Room}
use Rattle.refusal.specs.declared.Room.TheVariants.{Known, Waiting}
use Rattle.refusal.specs.declared.Refusal.{Refusal}
use Rattle.refusal.specs.declared.Refusal.TheVariants.{NoRoom}
use Rattle.refusal.specs.Refusals.{raw_of}
use Rattle.lattice.specs.Lattice.{parity_of}
use Rattle.lattice.proofs.Laws.{parity-point, point-parity}
use Rattle.cell.specs.Cell.{coord_of}
use Rattle.table.specs.Records as layer
use Rattle.search.specs.Search.{Problem, OrRefused, is, refused, KnownRow, Entry, State, SearchResult, found, none_found, Flow, going, done, stopped, and_then, find, is_closed, is_known, g_of, plus, less, pushed, push, lower, tried, relax, relax_all, around, entered, popped, next, step, run, begin, Ends}
use Rattle.search.specs.Plan.{plan_of, pops_for, at_end, search_of, endpoints}
use Rattle.known.specs.Workspace.{in_rooms}
use Rattle.search.proofs.Split.{found_between}
use Rattle.general.proofs.Tests.{whether, neither}
use Rattle.search.proofs.ClosedCounts.{length-put-known, length-put-new}
use Rattle.search.proofs.Ending.{Roomy, run-split, ends, result-is}
use Rattle.search.proofs.Invariants.{Lowered}
use Rattle.search.specs.Reached.{closing, Reached, at_first, popped-on, Midway, opened, looked-on, OneMore, one_known, one-refused, one-waiting, MoreAt, takes-known, takes-refused, takes-waiting, FirstMore}
use Rattle.search.proofs.LargerRooms.{with_rooms, Short, short-known, short-waiting, Alike, relax-alike, step-alike}
use Rattle.search.proofs.Shortages.{Full, of-known, of-waiting}
use Rattle.search.proofs.OneMore.{looked-roomy, midway-roomy, short-first-more, short-one-more}
use Rattle.search.proofs.Refusals.{parity-other, plan-refusals}
use Rattle.search.specs.Terms.{Apart}
use Rattle.table.specs.Records.{layer}

-- ---- a search ends as the place that it comes to says

module _ (P : Problem) where
  abbrev start : Flow
  start = begin P (P.heuristic P.start)

  reached-run : {s : State} → Reached P s → (k : ℕ) × (run P k start ≡ going s)
  unfolding run
  reached-run (at_first e) = (0, ap (begin P) e)
  reached-run (popped-on r e) = let h = reached-run r in (h.0 + 1, run-split P h.0 1 start ∙ ap (run P 1) h.1 ∙ e)

  reached-ends : {s : State} {r : SearchResult} → Reached P s → step P s ≡ done r → Ends P r
  unfolding run
  reached-ends reached e = let h = reached-run reached in (h.0 + 1, run-split P h.0 1 start ∙ ap (run P 1) h.1 ∙ e)

  -- a pop that opens a cell is what looking at its neighbours is
  opened-step : (s : State) (e : Entry) (rest : List Entry) {ns : List ℕ} → s.waiting ≡ e ∷ rest → is_closed (find e.cell s.known) ≡ false
      → ltb P.limit (s.count + 1) ≡ false → eqb e.cell P.goal ≡ false → P.neighbors e.cell ≡ is ns
      → step P s ≡ relax_all P e.cell (g_of (find e.cell s.known)) ns (closing e.cell rest s)
  unfolding step popped entered
  opened-step s e rest waits o l q near =
      ap (λ (w : List Entry). next P w s) waits ∙ rw (o, l, q) (ap (around P e.cell (g_of (find e.cell s.known)) (closing e.cell rest s)) near)

  midway-ends : {c g : ℕ} {s : State} {ns : List ℕ} {r : SearchResult} → Midway P c g s ns → relax_all P c g ns s ≡ done r → Ends P r
  unfolding relax_all
  midway-ends (opened {s = s} {e = e} {rest = rest} reached waits o l q near) f = reached-ends reached (opened-step s e rest waits o l q near ∙ f)
  midway-ends (looked-on {c = c} {g = g} {ns = ns} m e) f = midway-ends m (ap (λ (h : Flow). and_then h (relax_all P c g ns)) e ∙ f)

  -- where looking at a neighbour ends it
  ends_there : {c g n : ℕ} {s : State} {ns : List ℕ} {r : SearchResult} → Midway P c g s (n ∷ ns) → relax P c g n s ≡ done r → Ends P r
  unfolding relax_all
  ends_there {c} {g} {n} {s} {ns} m e = midway-ends m (ap (λ (h : Flow). and_then h (relax_all P c g ns)) e)

-- ---- one neighbour

module _ (P : Problem) (c g n : ℕ) (s : State) where
  -- the g of n by way of c, and what is known of n
  abbrev t : ℕ
  t = plus g (P.cost c n)

  abbrev k : Option KnownRow
  k = find n s.known

  -- it is passed by, or its g falls
  relax-by : (relax P c g n s ≡ going s) ⊎ (Lowered P n t s × (relax P c g n s ≡ lower P c n t s k))
  unfolding relax tried
  relax-by =
      whether (is_closed k || P.blocked n) (λ h. inl (rw h))
      (λ h. let o = neither (is_closed k) (P.blocked n) h in
      whether (less t (g_of k)) (λ f. inr (record { not-closed = o.0; not-shut = o.1; falls = f }, rw (h, f))) (λ f. inl (rw (h, f))))

  -- where a room is full, it is refused
  full-stops : {room : Room} → Lowered P n t s → Full P n s room → relax P c g n s ≡ stopped (NoRoom room)
  unfolding relax tried lower
  full-stops l (of-known new full) = rw (l.not-closed, l.not-shut, l.falls, new, le-ltb (length s.known) P.known_room full)
  full-stops l (of-waiting fits a full) =
      rw (l.not-closed, l.not-shut, l.falls, fits) (ap (push P c n t s) a ∙ rw (le-ltb (length s.waiting) P.waiting_room full))

  -- a push to the state u
  record PushedTo (u : State) : Type 0 where
    h : ℕ
    told : P.heuristic n ≡ is h
    same : u ≡ pushed P c n t h s

  lower-pushes : {u : State} → lower P c n t s k ≡ going u → PushedTo u
  unfolding lower
  lower-pushes {u} e =
      whether (is_known k || ltb (length s.known) P.known_room) (λ room. by-told (P.heuristic n) refl (rw room at e)) (λ room. ended (rw room at e))
    where
      ended : {Q : Type 0} {r : Refusal} → stopped r ≡ going u → Q
      ended f = absurd (let z : ◌≡◌ {A = ℕ} 0 1 = cc in omega arith)

      by-told : (a : OrRefused ℕ) → P.heuristic n ≡ a → push P c n t s a ≡ going u → PushedTo u
      by-told (refused r) a f = ended f
      by-told (is h) a f =
          whether (ltb (length s.waiting) P.waiting_room) (λ w. pushes (rw w at f)) (λ w. ended (rw w at f))
        where
          pushes : going (pushed P c n t h s) ≡ going u → PushedTo u
          pushes q = record { h = h; told = a; same = let same : u ≡ pushed P c n t h s = cc in same }

-- ---- a place of the search in the smaller rooms, and the search in the larger ones there

module _ (P : Problem) (known waiting : ℕ) (more-known : P.known_room < known) (more-waiting : P.waiting_room < waiting) where
  abbrev Larger : Problem
  Larger = with_rooms known waiting P

  module _ (c g n : ℕ) (s : State) where
    abbrev cost : ℕ
    cost = plus g (P.cost c n)

    -- the same of both
    lowered-both : Lowered Larger n cost s → Lowered P n cost s
    lowered-both l = record { not-closed = l.not-closed; not-shut = l.not-shut; falls = l.falls }

    passed-by : {Q : Type 0} {u : State} → relax Larger c g n s ≡ going s → relax Larger c g n s ≡ going u → (u ≡ s → Q) → Q
    passed-by {u = u} f e later = later (let same : u ≡ s = cc in same)

    -- one more known cell, or one more entry, is one that the smaller room does not hold
    more-full : {room : Room} → MoreAt Larger P.known_room P.waiting_room c g n s room → Lowered P n cost s × Full P n s room
    more-full (takes-known {t = u} e full longer) = by-case (relax-by Larger c g n s)
      where
        by-push : Lowered P n cost s → PushedTo Larger c g n s u → Lowered P n cost s × Full P n s Known
        by-push l p =
            let size = ap (λ (x : State). length x.known) p.same in
            whether (is_known (find n s.known))
            (λ q. absurd (omega (arith, size, longer, full, length-put-known n cost c s.known q)))
            (λ q. (l, of-known q (omega (arith, full))))

        by-case : (relax Larger c g n s ≡ going s) ⊎ (Lowered Larger n cost s × (relax Larger c g n s ≡ lower Larger c n cost s (find n s.known))) → Lowered P n cost s × Full P n s Known
        by-case (inl f) = passed-by f e (λ q. absurd (omega (arith, longer, full, ap (λ (x : State). length x.known) q)))
        by-case (inr (l, f)) = by-push (lowered-both l) (lower-pushes Larger c g n s (sym f ∙ e))
    more-full (takes-refused {r = r} e full new a) = by-case (relax-by Larger c g n s)
      where
        by-case : (relax Larger c g n s ≡ going s) ⊎ (Lowered Larger n cost s × (relax Larger c g n s ≡ lower Larger c n cost s (find n s.known))) → Lowered P n cost s × Full P n s Known
        by-case (inl f) = absurd (let z : ◌≡◌ {A = ℕ} 0 1 = cc in omega arith)
        by-case (inr (l, f)) = (lowered-both l, of-known new (omega (arith, full)))
    more-full (takes-waiting {t = u} e fits full longer) = by-case (relax-by Larger c g n s)
      where
        by-push : Lowered P n cost s → PushedTo Larger c g n s u → Lowered P n cost s × Full P n s Waiting
        by-push l p =
            let size = ap (λ (x : State). length x.known) p.same in
            let roomy : (is_known (find n s.known) || ltb (length s.known) P.known_room) ≡ true =
            whether (is_known (find n s.known)) (λ q. rw q)
            (λ q. rw q (lt-ltb (length s.known) P.known_room (omega (arith, size, fits, length-put-new n cost c s.known q)))) in
            (l, of-waiting roomy p.told (omega (arith, full)))

        by-case : (relax Larger c g n s ≡ going s) ⊎ (Lowered Larger n cost s × (relax Larger c g n s ≡ lower Larger c n cost s (find n s.known))) → Lowered P n cost s × Full P n s Waiting
        by-case (inl f) = passed-by f e (λ q. absurd (omega (arith, longer, full, ap (λ (x : State). length x.waiting) q)))
        by-case (inr (l, f)) = by-push (lowered-both l) (lower-pushes Larger c g n s (sym f ∙ e))

  -- the first place at which the larger search takes one more ends the smaller one
  first-more-ends : {room : Room} → FirstMore P (with_rooms known waiting P) room → Ends P (none_found (NoRoom room))
  first-more-ends k =
      let h = more-full k.cell k.g k.neighbour k.place k.more in
      ends_there P k.midway (full-stops P k.cell k.g k.neighbour k.place h.0 h.1)

  -- ---- any place of the search in the larger rooms

  abbrev NoRoomEnds : Type 0
  NoRoomEnds = (room : Room) × Ends P (none_found (NoRoom room))

  short-ends : {f : Flow} → Short f → ((r : Refusal) → f ≡ stopped r → Ends P (none_found r)) → NoRoomEnds
  short-ends short-known later = (Known, later (NoRoom Known) refl)
  short-ends short-waiting later = (Waiting, later (NoRoom Waiting) refl)

  -- the smaller search comes to it too, or has ended for want of room
  reached-smaller : {s : State} → Reached Larger s → Reached P s ⊎ NoRoomEnds
  reached-smaller (at_first e) = inl (at_first e)
  reached-smaller (popped-on {s = s} {t = t} r e) = go (reached-smaller r)
    where
      alike : Reached P s → Alike (step P s) (step Larger s) → Reached P t ⊎ NoRoomEnds
      alike reached (inl same) = inl (popped-on reached (same ∙ e))
      alike reached (inr short) = inr (short-ends short (λ q f. reached-ends P reached f))

      go : Reached P s ⊎ NoRoomEnds → Reached P t ⊎ NoRoomEnds
      go (inl reached) = alike reached (step-alike P known waiting (le_of_lt more-known) (le_of_lt more-waiting) s)
      go (inr short) = inr short

  midway-smaller : {c g : ℕ} {s : State} {ns : List ℕ} → Midway Larger c g s ns → Midway P c g s ns ⊎ NoRoomEnds
  midway-smaller (opened {s = s} {e = e} {rest = rest} {ns = ns} r waits o l q near) = go (reached-smaller r)
    where
      go : Reached P s ⊎ NoRoomEnds → Midway P e.cell (g_of (find e.cell s.known)) (closing e.cell rest s) ns ⊎ NoRoomEnds
      go (inl reached) = inl (opened reached waits o l q near)
      go (inr short) = inr short
  midway-smaller (looked-on {c = c} {g = g} {n = n} {ns = ns} {s = s} {t = t} m e) = go (midway-smaller m)
    where
      alike : Midway P c g s (n ∷ ns) → Alike (relax P c g n s) (relax Larger c g n s) → Midway P c g t ns ⊎ NoRoomEnds
      alike here (inl same) = inl (looked-on here (same ∙ e))
      alike here (inr short) = inr (short-ends short (λ q f. ends_there P here f))

      go : Midway P c g s (n ∷ ns) ⊎ NoRoomEnds → Midway P c g t ns ⊎ NoRoomEnds
      go (inl here) = alike here (relax-alike P known waiting (le_of_lt more-known) (le_of_lt more-waiting) c g n s)
      go (inr short) = inr short

  module _ (some_Known : 1 ≤ P.known_room) (some-waiting : 1 ≤ P.waiting_room) where
    -- where the larger search goes on to a state that the smaller rooms do not hold
    overfull-ends : {c g n : ℕ} {s u : State} {ns : List ℕ} → Midway P c g s (n ∷ ns) → relax Larger c g n s ≡ going u → (Roomy P u → ⊥) → NoRoomEnds
    overfull-ends {c} {g} {n} {s} {u} {ns} here e over = alike (relax-alike P known waiting (le_of_lt more-known) (le_of_lt more-waiting) c g n s)
      where
        alike : Alike (relax P c g n s) (relax Larger c g n s) → NoRoomEnds
        alike (inl same) = absurd (over (looked-roomy P some_Known some-waiting c g n s u (midway-roomy P some_Known some-waiting here) (same ∙ e)))
        alike (inr short) = short-ends short (λ q f. ends_there P here f)

    -- a larger search that needs one more: the smaller one ends for want of room
    one-more-ends : {room : Room} → OneMore (with_rooms known waiting P) P.known_room P.waiting_room room → NoRoomEnds
    one-more-ends (one_known {c = c} {g = g} {n = n} {ns = ns} {s = s} m e full longer) = go (midway-smaller m)
      where
        go : Midway P c g s (n ∷ ns) ⊎ NoRoomEnds → NoRoomEnds
        go (inl here) = overfull-ends here e (λ w. omega (arith, longer, w.fits))
        go (inr short) = short
    one-more-ends (one-waiting {c = c} {g = g} {n = n} {ns = ns} {s = s} m e full longer) = go (midway-smaller m)
      where
        go : Midway P c g s (n ∷ ns) ⊎ NoRoomEnds → NoRoomEnds
        go (inl here) = overfull-ends here e (λ w. omega (arith, longer, w.few))
        go (inr short) = short
    one-more-ends (one-refused {c = c} {g = g} {n = n} {ns = ns} {s = s} m e full new a) = go (midway-smaller m)
      where
        go : Midway P c g s (n ∷ ns) ⊎ NoRoomEnds → NoRoomEnds
        go (inl here) =
            (Known, first-more-ends (record { cell = c; g = g; neighbour = n; others = ns; place = s; midway = here; more = takes-refused e full new a }))
        go (inr short) = short

-- ---- the search over cells

module _ (s e : Cell) (known waiting limit rule : ℕ) (rows : List layer.Row) where
  abbrev plan : Problem
  plan = plan_of (endpoints s e) (in_rooms known waiting) limit rule rows

  apart-runs : Apart s e → search_of (endpoints s e) (in_rooms known waiting) limit rule rows ≡ at_end (run plan (pops_for plan.known_room plan.waiting_room) (begin plan (plan.heuristic plan.start)))
  unfolding search_of
  apart-runs a = rw a.elsewhere (λ i. found_between (point-parity (coord_of s) a.start-point i) (point-parity (coord_of e) a.goal-point i) plan)

  -- a search that lacks room is one
  no-room-apart : (room : Room) → search_of (endpoints s e) (in_rooms known waiting) limit rule rows ≡ none_found (NoRoom room) → Apart s e
  unfolding search_of
  no-room-apart room f = whether (eqb (raw_of s) (raw_of e)) (λ t. alike (rw t at f)) (λ t. by-parity t (parity_of (coord_of s)) (parity_of (coord_of e)) refl refl (rw t at f))
    where
      alike : found (raw_of s ∷ []) 0 0 ≡ none_found (NoRoom room) → Apart s e
      alike g = absurd (let z : ◌≡◌ {A = ℕ} 0 1 = cc in omega arith)

      by-parity : eqb (raw_of s) (raw_of e) ≡ false → (p q : Result Parity Refusal) → parity_of (coord_of s) ≡ p → parity_of (coord_of e) ≡ q → found_between p q plan ≡ none_found (NoRoom room) → Apart s e
      by-parity t (Err r) q first second g = absurd (parity-other (coord_of s) r first room (let same : r ≡ NoRoom room = cc in same))
      by-parity t (Ok p) (Err r) first second g = absurd (parity-other (coord_of e) r second room (let same : r ≡ NoRoom room = cc in same))
      by-parity t (Ok p) (Ok q) first second g = record { elsewhere = t; start-point = parity-point (coord_of s) p first; goal-point = parity-point (coord_of e) q second }

  module _ (some_Known : 1 ≤ known) (some-waiting : 1 ≤ waiting) where
    result-ends : {r : SearchResult} → Apart s e → search_of (endpoints s e) (in_rooms known waiting) limit rule rows ≡ r → Ends plan r
    unfolding plan_of
    result-ends a f = (pops_for known waiting, ends plan some_Known some-waiting ∙ ap done (sym (apart-runs a) ∙ f))

    ends-result : {r : SearchResult} → Apart s e → Ends plan r → search_of (endpoints s e) (in_rooms known waiting) limit rule rows ≡ r
    unfolding plan_of
    ends-result {r} a k = apart-runs a ∙ result-is plan some_Known some-waiting r k

module _ (s e : Cell) (known waiting more-known more-waiting limit rule : ℕ) (rows : List layer.Row)
    (some_Known : 1 ≤ known) (some-waiting : 1 ≤ waiting) (known-grows : known < more-known) (waiting-grows : waiting < more-waiting) where
  abbrev small : Problem
  small = plan_of (endpoints s e) (in_rooms known waiting) limit rule rows

  abbrev large : Problem
  large = plan_of (endpoints s e) (in_rooms more-known more-waiting) limit rule rows

  -- a search ends with NoRoom of a room if and only if it comes to a place at which the search in larger rooms takes one more than that room holds
  pub no-room-first-more : (room : Room) → (search_of (endpoints s e) (in_rooms known waiting) limit rule rows ≡ none_found (NoRoom room)) ↔ (Apart s e × FirstMore small large room)
  unfolding plan_of
  no-room-first-more room = (there, λ h. back h.0 h.1)
    where
      there : search_of (endpoints s e) (in_rooms known waiting) limit rule rows ≡ none_found (NoRoom room) → Apart s e × FirstMore small large room
      there f =
          let a = no-room-apart s e known waiting limit rule rows room f in
          (a, short-first-more small more-known more-waiting known-grows waiting-grows some_Known some-waiting (plan-refusals s e known waiting limit rule rows) room (result-ends s e known waiting limit rule rows some_Known some-waiting a f))

      back : Apart s e → FirstMore small large room → search_of (endpoints s e) (in_rooms known waiting) limit rule rows ≡ none_found (NoRoom room)
      back a k = ends-result s e known waiting limit rule rows some_Known some-waiting a (first-more-ends small more-known more-waiting known-grows waiting-grows k)

  -- it ends with NoRoom of one of the two rooms if and only if the search in larger rooms anywhere needs one more than they hold
  pub no-room-needed : ((room : Room) × (search_of (endpoints s e) (in_rooms known waiting) limit rule rows ≡ none_found (NoRoom room))) ↔ (Apart s e × ((room : Room) × OneMore large known waiting room))
  unfolding plan_of
  no-room-needed = (λ h. there h.0 h.1, λ h. back h.0 h.1.1)
    where
      there : (room : Room) → search_of (endpoints s e) (in_rooms known waiting) limit rule rows ≡ none_found (NoRoom room) → Apart s e × ((room : Room) × OneMore large known waiting room)
      there room f =
          let a = no-room-apart s e known waiting limit rule rows room f in
          (a, (room, short-one-more small more-known more-waiting known-grows waiting-grows some_Known some-waiting (plan-refusals s e known waiting limit rule rows) room (result-ends s e known waiting limit rule rows some_Known some-waiting a f)))

      back : Apart s e → {room : Room} → OneMore large known waiting room → (room : Room) × (search_of (endpoints s e) (in_rooms known waiting) limit rule rows ≡ none_found (NoRoom room))
      back a m =
          let k = one-more-ends small more-known more-waiting known-grows waiting-grows some_Known some-waiting m in
          (k.0, ends-result s e known waiting limit rule rows some_Known some-waiting a k.1)
