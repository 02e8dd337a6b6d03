-- A byte step from sizes within the rooms leads to sizes within the rooms, whatever the bytes hold, and pops come to an end: what is left falls with each.
use Rattle.std.specs.Prelude.{Result, Ok, Err, Option, Some, None}
use Rattle.lattice.specs.declared.Parity.{Parity}
use mathlib.Core.Path.{◌≡◌, refl, sym, ap, subst, ◌∙◌}
use mathlib.Core.Bool.{Bool, true, false, cond}
use mathlib.Core.List.{List, [], ◌∷◌}
use Prim.Native.Nat.{ℕ, suc, ◌+◌, ◌-◌, ◌≤◌, ◌<◌}
use native.Mathlib.Omega.{arith}
use lib.Dec.{ltb, eqb}
use lib.Ieee.{binary64, to_bits}
use lib.ListN.{length}
use borrow.Author.Tests.{ltb-true, eqb-false}
use Rattle.refusal.specs.declared.Cell.{Cell}
use Rattle.refusal.specs.declared.Refusal.{Refusal}
use Rattle.refusal.specs.declared.Refusal.TheVariants.{SearchLimitExceeded, NoRoom, NoPathFound, BadWorkspace}
use Rattle.refusal.specs.declared.Room.TheVariants as room
use Rattle.refusal.specs.Refusals.{raw_of}
use Rattle.lattice.specs.Lattice.{parity_of, neighbor_steps, neighbor_places, has_neighbor_room}
use Rattle.cell.specs.Cell.{coord_of, near_cells, neighbors_of, distance_cells}
use Rattle.cell.proofs.Split.{neighbors_in, neighbors_by}
use Rattle.words.specs.Word.{little}
use Rattle.words.proofs.Laws.{length-stored}
use Rattle.table.specs.Records.{Row}
use Rattle.route.specs.Route.{cost_between, is_shut}
use Rattle.waiting.specs.Inner.Entries.{entry_at}
use Rattle.waiting.specs.Inner.Sift.{push_in, pop_in}
use Rattle.waiting.proofs.Sifted.{length_push, length-pop}
use Rattle.known.specs.Inner.Known.{cell_in, record_offset, add_in}
use Rattle.known.specs.Inner.Seek.{find_in}
use Rattle.known.proofs.Added.{length-record}
use Rattle.search_rows.specs.Inner.Rows.{g_in, row_in, close_in, lower_in, append_in}
use Rattle.search_rows.proofs.Written.{length-row}
use Rattle.search.specs.Search.{OrRefused, is, refused, plus}
use Rattle.search.specs.Plan.{distance_bits}
use Rattle.general.proofs.Tests.{on_test}
use Rattle.general.proofs.Results.{ok-path, err-is-no-ok}
use Rattle.expansion.specs.declared.Plan.{Plan}
use Rattle.expansion.specs.declared.Sizes.{Sizes}
use Rattle.expansion.specs.declared.Step.{Step}
use Rattle.expansion.specs.declared.Step.TheVariants as step
use Rattle.expansion.specs.Inner.Bytes.{sizes_of, entry_to, After, is_no_cost, Fits, pushed_in, push_known_in, push_new_in, try_known_in, try_new_in, tried_in, relax_in, onward_in, step_of, going_in, relax_all_in, around_in, entered_in, popped_in, advance_in, enough}
use Rattle.expansion.proofs.Left.{left_in}

-- ---- lengths

pub length-close : (w : List ℕ) (room i : ℕ) → length (close_in w room i) ≡ length w
length-close w room i = length-stored little 4 w (record_offset room i + 20) 1

pub length-append-in : (w : List ℕ) (room n : ℕ) (c : Cell) (g before : ℕ) → length (append_in w room n c g before) ≡ length w
length-append-in w room n c g before = length-row (add_in w room n c) room n g before ∙ length-record w room n c

-- fourteen neighbours, wherever there are any
pub length-near : (c : Cell) (cells : List Cell) → neighbors_of c ≡ Ok cells → length cells ≡ 14
unfolding neighbors_of near_cells neighbor_places neighbor_steps
length-near c cells e = by-parity (parity_of (coord_of c)) e
  where
    by-room : (t : Bool) → neighbors_in t c ≡ Ok cells → length cells ≡ 14
    by-room true f = sym (ap length (ok-path f))
    by-room false f = absurd (err-is-no-ok f)

    by-parity : (a : Result Parity Refusal) → neighbors_by a c ≡ Ok cells → length cells ≡ 14
    by-parity (Err r) f = absurd (err-is-no-ok f)
    by-parity (Ok q) f = by-room (has_neighbor_room (coord_of c)) f

-- ---- what stays

-- more known cells, within their room; so many more waiting entries at most, within theirs
pub record Within (p : Plan) (z : Sizes) (more : ℕ) (z' : Sizes) : Type 0 where
  pub from : z.known ≤ z'.known
  pub known : z'.known ≤ p.known
  pub few : z'.waiting ≤ p.waiting
  pub added : z'.waiting ≤ z.waiting + more
  pub counted : z'.count ≡ z.count

abbrev pub On : Plan → Sizes → ℕ → Result Step Refusal → Type 0
On p z more (Ok (step.Going z')) = Within p z more z'
On p z more (Err r) = Unit {0}
On p z more (Ok (step.Arrived z')) = Within p z more z'

pub record Kept (p : Plan) (w h : List ℕ) (z : Sizes) (more : ℕ) (x : After Step) : Type 0 where
  pub workspace-length : length x.0 ≡ length w
  pub heap-length : length x.1 ≡ length h
  pub on : On p z more x.2

-- enough pops are enough
pub left-enough : (p : Plan) (w h : List ℕ) (z : Sizes) → Fits p w h z → left_in p z < enough p
left-enough p w h z fits = let few = fits.few in omega arith

pub fits_kept : (p : Plan) (w h w' h' : List ℕ) (z z' : Sizes) (more : ℕ) → Fits p w h z → Kept p w h z more (w', h', Ok (step.Going z')) → Fits p w' h' z'
fits_kept p w h w' h' z z' more fits kept =
    let within = kept.on in
    let long = kept.workspace-length in
    let size = fits.roomy.size in
    record {
      roomy = record { size = omega arith; small = fits.roomy.small; least = fits.roomy.least };
      known = within.known;
      few = within.few;
      small = fits.small;
      size = omega (arith, kept.heap-length, fits.size);
      counted = omega (arith, within.counted, within.from, fits.counted);
    }

module _ (p : Plan) (flags : List Row) where
  module _ (w h : List ℕ) (z : Sizes) (fits : Fits p w h z) where
    pub kept_here : (more : ℕ) → Kept p w h z more (w, h, Ok (step.Going z))
    kept_here more = record { workspace-length = refl; heap-length = refl; on = record { from = omega arith; known = fits.known; few = fits.few; added = omega arith; counted = refl } }

    kept-stopped : (more : ℕ) (r : Refusal) → Kept p w h z more (w, h, Err r)
    kept-stopped more r = record { workspace-length = refl; heap-length = refl; on = tt }

    -- what a neighbour leaves is kept
    abbrev KeptOn : After Sizes → Type 0
    KeptOn x = Kept p w h z 1 (going_in x)

    pushed-kept : (w' : List ℕ) (known : ℕ) (n : Cell) (g : ℕ) (told : OrRefused ℕ) → length w' ≡ length w → z.known ≤ known → known ≤ p.known → Kept p w h z 1 (going_in (pushed_in p w w' h z known n g told))
    pushed-kept w' known n g (refused r) long from to = kept-stopped 1 r
    pushed-kept w' known n g (is x) long from to =
        on_test KeptOn (ltb z.waiting p.waiting)
        (w', push_in h z.waiting (entry_to (plus g x) n g), Ok (sizes_of known (z.waiting + 1) z.count))
        (w, h, Err (NoRoom room.Waiting))
        (λ e.
        let less = ltb-true z.waiting p.waiting e in
        record { workspace-length = long; heap-length = length_push h z.waiting (entry_to (plus g x) n g); on = record { from = from; known = to; few = omega arith; added = omega arith; counted = refl } })
        (λ e. kept-stopped 1 (NoRoom room.Waiting))

    renew-kept : (at i g : ℕ) → Kept p w h z 1 (going_in (push_known_in p w h z at i g))
    unfolding push_known_in
    renew-kept at i g = pushed-kept (lower_in w p.known i g at) z.known (cell_in w p.known i) g (distance_bits (distance_cells (cell_in w p.known i) p.goal)) (length-row w p.known i g at) (omega arith) fits.known

    fresh_kept : (at : ℕ) (n : Cell) (g : ℕ) → z.known < p.known → Kept p w h z 1 (going_in (push_new_in p w h z at n g))
    unfolding push_new_in
    fresh_kept at n g less = pushed-kept (append_in w p.known z.known n g at) (z.known + 1) n g (distance_bits (distance_cells n p.goal)) (length-append-in w p.known z.known n g at) (omega arith) (omega arith)

    known_kept : (at i : ℕ) (n : Cell) (t : ℕ) → Kept p w h z 1 (going_in (try_known_in p flags w h z at i n t))
    unfolding try_known_in
    known_kept at i n t =
        let here : After Sizes = (w, h, Ok z) in
        let free = cond (is_shut p.rule flags n) here (push_known_in p w h z at i t) in
        let shorter = cond (ltb t (g_in w p.known i)) free here in
        on_test KeptOn (row_in w p.known i).closed here shorter (λ e. kept_here 1)
        (λ e. on_test KeptOn (ltb t (g_in w p.known i)) free here
        (λ l. on_test KeptOn (is_shut p.rule flags n) here (push_known_in p w h z at i t) (λ s. kept_here 1) (λ s. renew-kept at i t))
        (λ l. kept_here 1))

    new-kept : (at : ℕ) (n : Cell) (t : ℕ) → Kept p w h z 1 (going_in (try_new_in p flags w h z at n t))
    unfolding try_new_in
    new-kept at n t =
        let here : After Sizes = (w, h, Ok z) in
        let full : After Sizes = (w, h, Err (NoRoom room.Known)) in
        let rooms = cond (ltb z.known p.known) (push_new_in p w h z at n t) full in
        on_test KeptOn (is_shut p.rule flags n) here (cond (ltb t 0x7FF0_0000_0000_0000) rooms here) (λ s. kept_here 1)
        (λ s. on_test KeptOn (ltb t 0x7FF0_0000_0000_0000) rooms here
        (λ l. on_test KeptOn (ltb z.known p.known) (push_new_in p w h z at n t) full (λ e. fresh_kept at n t (ltb-true z.known p.known e)) (λ e. kept-stopped 1 (NoRoom room.Known)))
        (λ l. kept_here 1))

    tried-kept : (at : ℕ) (n : Cell) (t : ℕ) (r : Option ℕ) → Kept p w h z 1 (going_in (tried_in p flags w h z at n t r))
    tried-kept at n t (Some i) = known_kept at i n t
    tried-kept at n t None = new-kept at n t

    pub relax-kept : (at : ℕ) (c : Cell) (g : ℕ) (n : Cell) → Kept p w h z 1 (going_in (relax_in p flags at c g n w h z))
    unfolding relax_in
    relax-kept at c g n = tried-kept at n (plus g (to_bits binary64 (cost_between c n))) (find_in w p.known z.known n)

    -- a neighbour and what comes after it
    then-kept : (a m : ℕ) (next : List ℕ → List ℕ → Sizes → After Sizes) (w' h' : List ℕ) (r : Result Sizes Refusal) → Kept p w h z a (w', h', step_of r)
        → ((z' : Sizes) → Fits p w' h' z' → Kept p w' h' z' m (going_in (next w' h' z'))) → Kept p w h z (a + m) (going_in (onward_in w' h' r next))
    then-kept a m next w' h' (Err r) kept more = record { workspace-length = kept.workspace-length; heap-length = kept.heap-length; on = tt }
    then-kept a m next w' h' (Ok z') kept more =
        record {
          workspace-length = after.workspace-length ∙ kept.workspace-length;
          heap-length = after.heap-length ∙ kept.heap-length;
          on = both (next w' h' z').2 after.on;
        }
      where
        after : Kept p w' h' z' m (going_in (next w' h' z'))
        after = more z' (fits_kept p w h w' h' z z' a fits kept)

        both : (r : Result Sizes Refusal) → On p z' m (step_of r) → On p z (a + m) (step_of r)
        both (Err r) on = tt
        both (Ok z'') on =
            let first = kept.on in
            record {
              from = omega (arith, first.from, on.from);
              known = on.known;
              few = on.few;
              added = omega (arith, first.added, on.added);
              counted = on.counted ∙ first.counted;
            }

  pub relax-all-kept : (at : ℕ) (c : Cell) (g : ℕ) (ns : List Cell) (w h : List ℕ) (z : Sizes) → Fits p w h z → Kept p w h z (length ns) (going_in (relax_all_in p flags at c g ns w h z))
  unfolding relax_all_in
  relax-all-kept at c g [] w h z fits = kept_here w h z fits 0
  relax-all-kept at c g (n ∷ ns) w h z fits =
      let x = relax_in p flags at c g n w h z in
      let more : 1 + length ns ≡ suc (length ns) = omega arith in
      subst (λ (k : ℕ). Kept p w h z k (going_in (onward_in x.0 x.1 x.2 (relax_all_in p flags at c g ns)))) more
      (then-kept w h z fits 1 (length ns) (relax_all_in p flags at c g ns) x.0 x.1 x.2 (relax-kept w h z fits at c g n) (λ z' there. relax-all-kept at c g ns x.0 x.1 z' there))

  around-kept : (w h : List ℕ) (z : Sizes) → Fits p w h z → (at : ℕ) (c : Cell) (g : ℕ) (o : Result (List Cell) Refusal) → ((cells : List Cell) → o ≡ Ok cells → length cells ≡ 14) → Kept p w h z 14 (around_in p flags w h z at c g o)
  around-kept w h z fits at c g (Err r) long = kept-stopped w h z fits 14 r
  around-kept w h z fits at c g (Ok cells) long = subst (λ (k : ℕ). Kept p w h z k (going_in (relax_all_in p flags at c g cells w h z))) (long cells refl) (relax-all-kept at c g cells w h z fits)

  pub entered-kept : (w h : List ℕ) (z : Sizes) → Fits p w h z → (at g : ℕ) → Kept p w h z 14 (entered_in p flags w h z at g)
  unfolding entered_in
  entered-kept w h z fits at g =
      let c = cell_in w p.known at in
      let spent : After Step = (w, h, Err (SearchLimitExceeded (record { expansions = z.count; limit = p.limit }))) in
      let there : After Step = (w, h, Ok (step.Arrived z)) in
      let around = around_in p flags w h z at c g (neighbors_of c) in
      on_test (Kept p w h z 14) (ltb p.limit z.count) spent (cond (eqb (raw_of c) (raw_of p.goal)) there around) (λ e. kept-stopped w h z fits 14 (SearchLimitExceeded (record { expansions = z.count; limit = p.limit })))
      (λ e. on_test (Kept p w h z 14) (eqb (raw_of c) (raw_of p.goal)) there around (λ f. record { workspace-length = refl; heap-length = refl; on = (kept_here w h z fits 14).on })
      (λ f. around-kept w h z fits at c g (neighbors_of c) (length-near c)))

  -- ---- one pop

  -- a pop leaves less to do, within the rooms
  pub record Forward (z z' : Sizes) : Type 0 where
    pub known : z'.known ≤ p.known
    pub few : z'.waiting ≤ p.waiting
    pub counted : z'.count ≤ z'.known
    pub less : left_in p z' < left_in p z

  abbrev pub OnForward : Sizes → Result Step Refusal → Type 0
  OnForward z (Ok (step.Going z')) = Forward z z'
  OnForward z (Err r) = Unit {0}
  OnForward z (Ok (step.Arrived z')) = Forward z z'

  pub record Popped (w h : List ℕ) (z : Sizes) (x : After Step) : Type 0 where
    pub workspace-length : length x.0 ≡ length w
    pub heap-length : length x.1 ≡ length h
    pub on : OnForward z x.2

  -- the sizes while a popped cell is entered
  abbrev pub closed_sizes : Sizes → Sizes
  closed_sizes z = sizes_of z.known (z.waiting - 1) (z.count + 1)

  pub fits-closed : (w h w' h' : List ℕ) (z : Sizes) → Fits p w h z → z.count < z.known → length w' ≡ length w → length h' ≡ length h → Fits p w' h' (closed_sizes z)
  fits-closed w h w' h' z fits less long high =
      let size = fits.roomy.size in
      let few = fits.few in
      record {
        roomy = record { size = omega arith; small = fits.roomy.small; least = fits.roomy.least };
        known = fits.known;
        few = omega arith;
        small = fits.small;
        size = omega (arith, fits.size);
        counted = omega arith;
      }

  module _ (w h h' : List ℕ) (z : Sizes) (fits : Fits p w h z) (some : 0 < z.waiting) (high : length h' ≡ length h) where
    bad-pop : Popped w h z (w, h', Err BadWorkspace)
    bad-pop = record { workspace-length = refl; heap-length = high; on = tt }

    skip-pop : Popped w h z (w, h', Ok (step.Going (sizes_of z.known (z.waiting - 1) z.count)))
    skip-pop =
        let few = fits.few in
        record { workspace-length = refl; heap-length = high; on = record { known = fits.known; few = omega arith; counted = fits.counted; less = omega arith } }

    enter-pop : (i g : ℕ) → z.count < z.known → Popped w h z (entered_in p flags (close_in w p.known i) h' (closed_sizes z) i g)
    enter-pop i g less =
        let w' = close_in w p.known i in
        let x = entered_in p flags w' h' (closed_sizes z) i g in
        let kept = entered-kept w' h' (closed_sizes z) (fits-closed w h w' h' z fits less (length-close w p.known i) high) i g in
        record { workspace-length = kept.workspace-length ∙ length-close w p.known i; heap-length = kept.heap-length ∙ high; on = forward x.2 kept.on }
      where
        within : (z' : Sizes) → Within p (closed_sizes z) 14 z' → Forward z z'
        within z' on =
            let most = fits.known in
            record {
              known = on.known;
              few = on.few;
              counted = omega (arith, on.counted, on.from);
              less = omega (arith, on.counted, on.added);
            }

        forward : (r : Result Step Refusal) → On p (closed_sizes z) 14 r → OnForward z r
        forward (Err r) on = tt
        forward (Ok (step.Arrived z')) on = within z' on
        forward (Ok (step.Going z')) on = within z' on

    found-pop : (r : Option ℕ) → Popped w h z (popped_in p flags w h' z r)
    found-pop None = bad-pop
    found-pop (Some i) =
        let bad : After Step = (w, h', Err BadWorkspace) in
        let skip : After Step = (w, h', Ok (step.Going (sizes_of z.known (z.waiting - 1) z.count))) in
        let enter = entered_in p flags (close_in w p.known i) h' (closed_sizes z) i (g_in w p.known i) in
        let last = cond (is_no_cost (g_in w p.known i)) bad enter in
        on_test (Popped w h z) (row_in w p.known i).closed skip (cond (ltb z.count z.known) last bad) (λ e. skip-pop)
        (λ e. on_test (Popped w h z) (ltb z.count z.known) last bad
        (λ l. on_test (Popped w h z) (is_no_cost (g_in w p.known i)) bad enter (λ f. bad-pop) (λ f. enter-pop i (g_in w p.known i) (ltb-true z.count z.known l)))
        (λ l. bad-pop))

  pub advance-forward : (w h : List ℕ) (z : Sizes) → Fits p w h z → Popped w h z (advance_in p flags w h z)
  unfolding advance_in
  advance-forward w h z fits =
      let none : After Step = (w, h, Err (NoPathFound (record { start = p.start; goal = p.goal }))) in
      let pop = popped_in p flags w (pop_in h z.waiting) z (find_in w p.known z.known (entry_at h 0).cell) in
      on_test (Popped w h z) (eqb z.waiting 0) none pop (λ e. record { workspace-length = refl; heap-length = refl; on = tt })
      (λ e. found-pop w h (pop_in h z.waiting) z fits (positive z.waiting (eqb-false z.waiting 0 e)) (length-pop h z.waiting) (find_in w p.known z.known (entry_at h 0).cell))
    where
      positive : (n : ℕ) → (n ≡ 0 → ⊥) → 0 < n
      positive n some = omega arith

  pub fits-forward : (w h w' h' : List ℕ) (z z' : Sizes) → Fits p w h z → length w' ≡ length w → length h' ≡ length h → Forward z z' → Fits p w' h' z'
  fits-forward w h w' h' z z' fits long high on =
      let size = fits.roomy.size in
      record {
        roomy = record { size = omega arith; small = fits.roomy.small; least = fits.roomy.least };
        known = on.known;
        few = on.few;
        small = fits.small;
        size = omega (arith, fits.size);
        counted = on.counted;
      }
