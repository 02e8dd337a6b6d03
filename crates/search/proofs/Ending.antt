-- The search ends, and with one result. Each pop takes an entry away, and a pop that adds entries closes a known cell: so what is counted by `left` falls. Over any problem.
use mathlib.Core.Path.{◌≡◌, refl, sym, ◌∙◌, ap, subst}
use mathlib.Core.Bool.{true, false}
use mathlib.Core.List.{List, [], ◌∷◌}
use Prim.Native.Nat.{ℕ, zero, suc, ◌+◌, ◌-◌, ◌*◌, ◌≤◌, ◌<◌}
use native.Mathlib.Nat.{suc-mul}
use native.Mathlib.Numerals.{add-one}
use native.Mathlib.Omega.{arith}
use lib.ListN.{length}
use borrow.Author.Tests.{ltb-true, eq-eqb}
use Rattle.general.specs.Each.{Each}
use Rattle.search.specs.Search.{Problem, OrRefused, is, refused, Entry, State, SearchResult, none_found, Flow, going, done, find, close, is_closed, is_known, g_of, plus, pushed, relax_all, arrived, popped, next, step, run, first, begin, Ends}
use Rattle.search.specs.Plan.{at_end, pops_for}
use Rattle.search.proofs.WaitingLaws.{length-insert, waits-put, waits-close}
use Rattle.search.specs.Inner.KnownCell.{KnownCell}
use Rattle.search.proofs.ClosedCounts.{length-put, length-close, closed-at-most, closed-put, closed-close}
use Rattle.search.specs.Inner.Counted.{closed_in}
use Rattle.search.specs.Reached.{closing}
use Rattle.search.proofs.Invariants.{Holding, holding-follows, Lowered, HasRoom, relax_all-keeps, popped-keeps}

-- ---- one result

module _ (P : Problem) where
  run-done : (k : ℕ) (r : SearchResult) → run P k (done r) ≡ done r
  unfolding run
  run-done zero r = refl
  run-done (suc k) r = refl

  -- so many pops, and then so many more
  pub run-split : (a b : ℕ) (f : Flow) → run P (a + b) f ≡ run P b (run P a f)
  unfolding run
  run-split zero b f = let e : 0 + b ≡ b = omega arith in rw e
  run-split (suc a) b (done r) = rw (run-done (suc a + b) r, run-done b r)
  run-split (suc a) b (going s) = let e : suc a + b ≡ suc (a + b) = omega arith in rw e (run-split a b (step P s))

  -- two ends agree
  pub one_end : (r q : SearchResult) → Ends P r → Ends P q → r ≡ q
  one_end r q (j, d) (k, e) =
      let start = begin P (P.heuristic P.start) in
      let a : run P (j + k) start ≡ done r = run-split j k start ∙ rw d (run-done k r) in
      let b : run P (k + j) start ≡ done q = run-split k j start ∙ rw e (run-done j q) in
      let turned : j + k ≡ k + j = omega arith in
      same-done (sym a ∙ rw turned b)
    where
      same-done : done r ≡ done q → r ≡ q
      same-done e = cc

-- ---- rooms are kept

module _ (P : Problem) where
  -- no more cells are known and no more entries wait than there is room for, and the cells that wait are known
  pub record Roomy (s : State) : Type 0 where
    pub fits : length s.known ≤ P.known_room
    pub few : length s.waiting ≤ P.waiting_room
    pub waits : Each (KnownCell s.known) s.waiting

  -- while neighbours are looked at, the same cells are closed
  pub record Looking (closed : ℕ) (s : State) : Type 0 where
    pub roomy : Roomy s
    pub same : closed_in s.known ≡ closed

  pub push-looking : (closed c g n h : ℕ) (s : State) → P.heuristic n ≡ is h → Unit {0} → Looking closed s → Lowered P n (plus g (P.cost c n)) s → HasRoom P n s → Looking closed (pushed P c n (plus g (P.cost c n)) h s)
  push-looking closed c g n h s estimate any a l room =
      let t = plus g (P.cost c n) in
      let k = s.known in
      record {
        roomy = record {
          fits = length-put n t c k P.known_room a.roomy.fits room.known-room;
          few = omega (arith, length-insert (record { f = plus t h; cell = n; g = t }) s.waiting, ltb-true (length s.waiting) P.waiting_room room.waiting-room);
          waits = waits-put n t c (plus t h) k s.waiting a.roomy.waits;
        };
        same = closed-put n t c k l.not-closed ∙ a.same;
      }

  pub each-any : (ns : List ℕ) → Each (λ (n : ℕ). Unit {0}) ns
  each-any [] = tt
  each-any (n ∷ ns) = (tt, each-any ns)

  -- ---- what is left falls

  -- a whole room of entries for each cell that can still be closed, and the entries that wait
  abbrev pub left_after : ℕ → ℕ → ℕ
  left_after closed waiting = (P.known_room - closed) * (P.waiting_room + 1) + waiting

  abbrev pub left : State → ℕ
  left s = left_after (closed_in s.known) (length s.waiting)

  pub record Less (m : ℕ) (s : State) : Type 0 where
    pub roomy : Roomy s
    pub fewer : left s < m

  abbrev pub Any : List ℕ → ℕ → ℕ → Type 0
  Any cells cost expansions = Unit {0}

  abbrev pub Down : ℕ → Flow → Type 0
  Down m = Holding (Less m) Any

  -- to close one more is worth more than to fill the room
  one-closed : (closed few many : ℕ) → closed < P.known_room → few ≤ P.waiting_room → left_after (suc closed) few < left_after closed many
  one-closed closed few many h l =
      let one : P.known_room - closed ≡ suc (P.known_room - suc closed) = omega arith in
      let more : (P.known_room - closed) * (P.waiting_room + 1) ≡ (P.known_room - suc closed) * (P.waiting_room + 1) + (P.waiting_room + 1) =
      ap (λ (n : ℕ). n * (P.waiting_room + 1)) one ∙ suc-mul (P.known_room - suc closed) (P.waiting_room + 1) in
      omega (arith, more)

  module _ (s : State) (w : Roomy s) (c : ℕ) (rest : List Entry) (known : is_known (find c s.known) ≡ true) (waits : Each (KnownCell s.known) rest) (taken : length rest < length s.waiting) where
    pub closing-looking : is_closed (find c s.known) ≡ false → Looking (suc (closed_in s.known)) (closing c rest s)
    closing-looking o =
        record {
          roomy = record { fits = rw (length-close c s.known) w.fits; few = omega (arith, taken, w.few); waits = waits-close c s.known rest waits };
          same = closed-close c s.known known o;
        }

    looking-less : closed_in s.known < P.known_room → (t : State) → Looking (suc (closed_in s.known)) t → Less (left s) t
    looking-less room t a =
        record {
          roomy = a.roomy;
          fewer = subst (λ (n : ℕ). left_after n (length t.waiting) < left s) (sym a.same) (one-closed (closed_in s.known) (length t.waiting) (length s.waiting) room a.roomy.few);
        }

    looking-down : is_closed (find c s.known) ≡ false → (g : ℕ) (ns : List ℕ) → Down (left s) (relax_all P c g ns (closing c rest s))
    looking-down o g ns =
        let closed = closed_in s.known in
        let a = closing-looking o in
        let room : closed < P.known_room = omega (arith, a.same, closed-at-most (close c s.known), a.roomy.fits) in
        holding-follows (Looking (suc closed)) (Less (left s)) Any (looking-less room) (relax_all P c g ns (closing c rest s))
        (relax_all-keeps P c g (λ (n : ℕ). Unit {0}) (Looking (suc closed)) (push-looking (suc closed) c g) ns (closing c rest s) (each-any ns) a)

    popped-down : Down (left s) (popped P c rest s)
    unfolding arrived
    popped-down =
        popped-keeps P (Less (left s)) Any c rest s
        (λ h. record { roomy = record { fits = w.fits; few = omega (arith, taken, w.few); waits = waits }; fewer = omega (arith, taken) })
        (λ h e. tt)
        (λ h ns e. looking-down h (g_of (find c s.known)) ns)

  pub step_down : (s : State) → Roomy s → Down (left s) (step P s)
  unfolding step
  step_down s w = go s.waiting w.waits (omega arith)
    where
      go : (l : List Entry) → Each (KnownCell s.known) l → length l ≤ length s.waiting → Down (left s) (next P l s)
      go [] waits h = tt
      go (e ∷ rest) waits h = popped-down s w e.cell rest waits.0 waits.1 (omega (arith, h))

  -- ---- the end

  abbrev Done : Flow → Type 0
  Done f = (r : SearchResult) × (f ≡ done r)

  run_ends : (k : ℕ) (s : State) → Roomy s → left s < k → Done (run P k (going s))
  unfolding run
  run_ends zero s w h = absurd (omega arith)
  run_ends (suc k) s w h = go (step P s) (step_down s w) (λ t v l. run_ends k t v l)
    where
      go : (f : Flow) → Down (left s) f → ((t : State) → Roomy t → left t < k → Done (run P k (going t))) → Done (run P k f)
      go (done r) d later = (r, run-done P k r)
      go (going t) d later = later t d.roomy (omega (arith, d.fewer, h))

  module _ (known-room : 1 ≤ P.known_room) (waiting-room : 1 ≤ P.waiting_room) where
    enough : left_after 0 1 < pops_for P.known_room P.waiting_room
    enough =
        let none : (P.known_room - 0) * (P.waiting_room + 1) ≡ P.known_room * (P.waiting_room + 1) = ap (λ (n : ℕ). n * (P.waiting_room + 1)) (omega arith) in
        let one : (P.known_room + 1) * (P.waiting_room + 1) ≡ P.known_room * (P.waiting_room + 1) + (P.waiting_room + 1) =
        ap (λ (n : ℕ). n * (P.waiting_room + 1)) (add-one P.known_room) ∙ suc-mul P.known_room (P.waiting_room + 1) in
        omega (arith, none, one)

    pub first-roomy : (h : ℕ) → Roomy (first P h)
    unfolding find
    first-roomy h = record { fits = known-room; few = waiting-room; waits = (rw (eq-eqb P.start P.start refl), tt) }

    begin-ends : (h : OrRefused ℕ) → Done (run P (pops_for P.known_room P.waiting_room) (begin P h))
    unfolding closed_in
    begin-ends (refused r) = (none_found r, run-done P (pops_for P.known_room P.waiting_room) (none_found r))
    begin-ends (is h) =
        run_ends (pops_for P.known_room P.waiting_room) (first P h) (first-roomy h)
        enough

    -- what the definition takes for its result
    abbrev pub flow : Flow
    flow = run P (pops_for P.known_room P.waiting_room) (begin P (P.heuristic P.start))

    -- so many pops are enough: the search is done
    pub ends : flow ≡ done (at_end flow)
    ends = let e = begin-ends (P.heuristic P.start) in e.1 ∙ ap (λ (f : Flow). done (at_end f)) (sym e.1)

    -- and whatever it ends with, after however many pops, is that result
    pub result-is : (r : SearchResult) → Ends P r → at_end flow ≡ r
    result-is r e = one_end P (at_end flow) r (pops_for P.known_room P.waiting_room, ends) e
