-- Why a route that is found leads to the goal at the cost that is told: of each known cell the cells before it are closed, go back to the start, and its g is the sum on the way.
-- A closed cell is never put again, so nothing on such a trail changes. Over any problem.
use mathlib.Core.Path.{◌≡◌, refl, sym, ◌∙◌, subst}
use mathlib.Core.Bool.{true, false}
use mathlib.Core.Logic.{◌⊎◌, inl, inr}
use mathlib.Core.List.{List, [], ◌∷◌}
use Prim.Native.Nat.{ℕ, zero, suc}
use native.Mathlib.Numerals.{add-one}
use borrow.Author.Tests.{eq-eqb, ne_eqb}
use Rattle.general.specs.Each.{Each}
use Rattle.search.specs.Search.{Problem, OrRefused, is, refused, KnownRow, Entry, State, Flow, done, found, find, put, close, is_closed, is_known, g_of, before_of, plus, traced, pushed, relax_all, arrived, popped, next, step, run, begin}
use Rattle.general.proofs.Tests.{same_or_not, contrary}
use Rattle.search.proofs.KnownLaws.{find-put, find-put-other, g-close, before-close, known-close, closed-close, closed-now, closed-known, closed-apart}
use Rattle.search.proofs.WaitingLaws.{each-follows, waits-put, waits-close}
use Rattle.search.specs.Inner.KnownCell.{KnownCell}
use Rattle.search.specs.Reached.{closing}
use Rattle.search.proofs.Invariants.{Holding, holding-follows, Lowered, HasRoom, relax_all-keeps, popped-keeps, run-keeps}
use Rattle.search.specs.Terms.{Leads, Route, here, onward}
    -- ---- trails

module _ (P : Problem) (Beside : ℕ → ℕ → Type 0) where
  -- the way back from a cell to the start, in at most m steps over closed cells
  data Trail (k : List KnownRow) : ℕ → ℕ → Type 0 where
    origin : {m : ℕ} → g_of (find P.start k) ≡ 0 → Trail k m P.start
    after : {m n : ℕ} (c : ℕ) → (n ≡ P.start → ⊥) → is_closed (find c k) ≡ true → before_of (find n k) ≡ c → g_of (find n k) ≡ plus (g_of (find c k)) (P.cost c n) → Beside c n → P.blocked n ≡ false → Trail k m c → Trail k (suc m) n

  longer : {k : List KnownRow} {m c : ℕ} → Trail k m c → Trail k (suc m) c
  longer (origin z) = origin z
  longer (after c other closed before sum beside free trail) = after c other closed before sum beside free (longer trail)

  trail-close : (d : ℕ) {k : List KnownRow} {m c : ℕ} → Trail k m c → Trail (close d k) m c
  trail-close d {k} (origin z) = origin (g-close P.start d k ∙ z)
  trail-close d {k} (after {n = n} c other closed before sum beside free trail) =
      after c other (closed-close c d k closed) (before-close n d k ∙ before) (rw (g-close n d k, g-close c d k) sum) beside free (trail-close d trail)

  module _ (d g b : ℕ) (k : List KnownRow) (unclosed : is_closed (find d k) ≡ false) where
    find-kept : (c : ℕ) → is_closed (find c k) ≡ true → find c (put d g b k) ≡ find c k
    find-kept c h = find-put-other c d g b k (closed-apart c d k h unclosed)

    closed-kept : (c : ℕ) → is_closed (find c k) ≡ true → is_closed (find c (put d g b k)) ≡ true
    closed-kept c h = rw (find-kept c h) h

    trail-put : {m c : ℕ} → (c ≡ d → ⊥) → Trail k m c → Trail (put d g b k) m c
    trail-put a (origin z) = origin (rw (find-put-other P.start d g b k a) z)
    trail-put a (after {n = n} c other closed before sum beside free trail) =
        after c other (closed-kept c closed) (rw (find-put-other n d g b k a) before) (rw (find-put-other n d g b k a, find-kept c closed) sum) beside free (trail-put (closed-apart c d k closed unclosed) trail)

  -- ---- the route that is read back

  traced-start : (k : List KnownRow) (m : ℕ) (later : List ℕ) → traced P.start m k P.start later ≡ P.start ∷ later
  unfolding traced
  traced-start k zero later = refl
  traced-start k (suc m) later = rw (eq-eqb P.start P.start refl)

  trail-route : {k : List KnownRow} {m c last total : ℕ} {later : List ℕ} → Trail k m c → Leads P Beside c (g_of (find c k)) later last total → Route P Beside last total (traced P.start m k c later)
  unfolding traced
  trail-route {k} {m} {last = last} {total = total} {later = later} (origin z) leads =
      record { later = later; begins = traced-start k m later; leads = subst (λ (g : ℕ). Leads P Beside P.start g later last total) z leads }
  trail-route {k} {last = last} {total = total} {later = later} (after {m = m} {n = n} c other closed before sum beside free trail) leads =
      rw (ne_eqb n P.start other, before) (trail-route trail (onward beside free (subst (λ (g : ℕ). Leads P Beside n g later last total) sum leads)))

  -- ---- while the neighbours of a cell c are looked at, the cell closed after m others

  record Around (c m g : ℕ) (s : State) : Type 0 where
    own : Trail s.known m c
    closed : is_closed (find c s.known) ≡ true
    trails : (x : ℕ) → is_known (find x s.known) ≡ true → Trail s.known (suc m) x
    waits : Each (KnownCell s.known) s.waiting
    left : is_closed (find P.start s.known) ≡ true
    counted : s.count ≡ suc m
    final : g ≡ g_of (find c s.known)

  push-around : (c m g n h : ℕ) (s : State) → P.heuristic n ≡ is h → Beside c n → Around c m g s → Lowered P n (plus g (P.cost c n)) s → HasRoom P n s → Around c m g (pushed P c n (plus g (P.cost c n)) h s)
  push-around c m g n h s estimate beside a l room =
      let t = plus g (P.cost c n) in
      let k = s.known in
      let unclosed = l.not-closed in
      let same : find c (put n t c k) ≡ find c k = find-kept n t c k unclosed c a.closed in
      let own = trail-put n t c k unclosed (closed-apart c n k a.closed unclosed) a.own in
      let closed = closed-kept n t c k unclosed c a.closed in
      record {
        own = own;
        closed = closed;
        trails = λ x known. same_or_not x n
            (λ e. rw e (after {n = n} c (λ f. closed-apart P.start n k a.left unclosed (sym f)) closed (rw find-put) (rw (find-put, same, ← a.final)) beside l.not-shut own))
            (λ e. trail-put n t c k unclosed e (a.trails x (rw (find-put-other x n t c k e) at known)));
        waits = waits-put n t c (plus t h) k s.waiting a.waits;
        left = closed-kept n t c k unclosed P.start a.left;
        counted = a.counted;
        final = rw same a.final;
      }

  -- ---- between pops

  -- before the start is closed no other cell waits
  abbrev Leaves : List KnownRow → Entry → Type 0
  Leaves k e = (e.cell ≡ P.start) ⊎ (is_closed (find P.start k) ≡ true)

  record Between (s : State) : Type 0 where
    trails : (x : ℕ) → is_known (find x s.known) ≡ true → Trail s.known s.count x
    waits : Each (KnownCell s.known) s.waiting
    leaves : Each (Leaves s.known) s.waiting

  abbrev Right : List ℕ → ℕ → ℕ → Type 0
  Right cells cost expansions = Route P Beside P.goal cost cells

  abbrev Good : Flow → Type 0
  Good = Holding Between Right

  around-between : (c m g : ℕ) (s : State) → Around c m g s → Between s
  around-between c m g s a =
      record {
        trails = λ x h. rw a.counted (a.trails x h);
        waits = a.waits;
        leaves = each-follows (KnownCell s.known) (Leaves s.known) (λ (e : Entry) h. inr a.left) s.waiting a.waits;
      }

  closing-around : (e : Entry) (rest : List Entry) (s : State) → Between s → Each (KnownCell s.known) (e ∷ rest) → Each (Leaves s.known) (e ∷ rest)
      → Around e.cell s.count (g_of (find e.cell s.known)) (closing e.cell rest s)
  closing-around e rest s b waits leaves =
      let c = e.cell in
      let k = s.known in
      record {
        own = trail-close c (b.trails c waits.0);
        closed = closed-now c k waits.0;
        trails = λ x known. longer (trail-close c (b.trails x (rw (known-close x c k) at known)));
        waits = waits-close c k rest waits.1;
        left = left-now leaves.0;
        counted = add-one s.count;
        final = sym (g-close c c k);
      }
    where
      left-now : Leaves s.known e → is_closed (find P.start (close e.cell s.known)) ≡ true
      left-now (inl f) = rw (← f) (closed-now e.cell s.known waits.0)
      left-now (inr h) = closed-close P.start e.cell s.known h

  module _ (near-beside : (c : ℕ) (ns : List ℕ) → P.neighbors c ≡ is ns → Each (Beside c) ns) where
    looking-good : (c m g : ℕ) (s : State) → Around c m g s → (ns : List ℕ) → P.neighbors c ≡ is ns → Good (relax_all P c g ns s)
    looking-good c m g s a ns e =
        holding-follows (Around c m g) Between Right (around-between c m g) (relax_all P c g ns s)
        (relax_all-keeps P c g (Beside c) (Around c m g) (push-around c m g) ns s (near-beside c ns e) a)

    goal-good : (c m g : ℕ) (s : State) → Around c m g s → c ≡ P.goal → Good (done (arrived P s))
    unfolding arrived
    goal-good c m g s a e =
        subst (λ (x : ℕ). Route P Beside x (g_of (find x s.known)) (traced P.start s.count s.known x [])) e
        (rw a.counted (trail-route (a.trails c (closed-known (find c s.known) a.closed)) here))

    popped-good : (e : Entry) (rest : List Entry) (s : State) → Between s → Each (KnownCell s.known) (e ∷ rest) → Each (Leaves s.known) (e ∷ rest) → Good (popped P e.cell rest s)
    popped-good e rest s b waits leaves =
        let c = e.cell in
        let g = g_of (find c s.known) in
        let a = closing-around e rest s b waits leaves in
        popped-keeps P Between Right c rest s
        (λ h. record { trails = b.trails; waits = waits.1; leaves = leaves.1 })
        (λ h. goal-good c s.count g (closing c rest s) a)
        (λ h. looking-good c s.count g (closing c rest s) a)

    step-good : (s : State) → Between s → Good (step P s)
    unfolding step
    step-good s b = go s.waiting b.waits b.leaves
      where
        go : (w : List Entry) → Each (KnownCell s.known) w → Each (Leaves s.known) w → Good (next P w s)
        go [] waits leaves = tt
        go (e ∷ rest) waits leaves = popped-good e rest s b waits leaves

    begin-good : (h : OrRefused ℕ) → Good (begin P h)
    unfolding find
    begin-good (refused r) = tt
    begin-good (is h) =
        record {
          trails = λ x known. same_or_not x P.start (λ e. rw e (origin (rw (eq-eqb P.start P.start refl)))) (λ e. contrary (rw (ne_eqb x P.start e) at known) refl);
          waits = (rw (eq-eqb P.start P.start refl), tt);
          leaves = (inl refl, tt);
        }

    -- what is found is a route to the goal at its cost
    pub found-route : (k : ℕ) (cells : List ℕ) (cost expansions : ℕ) → run P k (begin P (P.heuristic P.start)) ≡ done (found cells cost expansions) → Route P Beside P.goal cost cells
    found-route k cells cost expansions e = subst Good e (run-keeps P Between Right step-good k (begin P (P.heuristic P.start)) (begin-good (P.heuristic P.start)))
