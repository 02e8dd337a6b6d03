-- Where the bytes hold a state of the search, each byte step is the definition's step of that state, and the bytes hold its outcome.
use Rattle.std.specs.Prelude.{Result, Ok, Err, Option, Some, None}
use Rattle.refusal.specs.declared.Refusal.{Refusal}
use Rattle.lattice.specs.declared.Parity.{Parity}
use mathlib.Core.Path.{◌≡◌, refl, sym, ap, subst, ◌∙◌}
use mathlib.Core.Bool.{Bool, true, false, cond}
use mathlib.Core.List.Memᴰ
use mathlib.Core.List.{List, [], ◌∷◌, map, Memᴰ}
use mathlib.Core.Option.{none, some}
use Prim.Native.Nat.{ℕ, zero, suc, ◌+◌, ◌-◌, ◌*◌, ◌≤◌, ◌<◌}
use native.Mathlib.Omega.{arith}
use lib.Dec.{leb, ltb, eqb}
use lib.Ieee.{binary64, to_bits}
use borrow.Author.Tests.{leb-true, ltb-true, ltb-false, eqb-true, eqb-false}
use Rattle.refusal.specs.declared.Cell.{Cell}
use Rattle.refusal.specs.declared.Refusal.TheVariants.{SearchLimitExceeded, NoRoom, NoPathFound, BadWorkspace}
use Rattle.refusal.specs.declared.Room.TheVariants as room
use Rattle.refusal.specs.Refusals.{raw_of}
use Rattle.lattice.specs.Lattice.{parity_of, neighbor_places, has_neighbor_room}
use Rattle.lattice.proofs.Laws.{room_fits}
use Rattle.general.specs.Each.{Each}
use Rattle.cell.specs.Cell.{frame_of, resolution_of, coord_of, plain_at, near_cells, neighbors_of, distance_cells}
use Rattle.cell.proofs.Split.{neighbors_in, neighbors_by}
use Rattle.cell.specs.Terms.{Words}
use Rattle.cell.proofs.Laws.{fields-packed}
use Rattle.words.specs.Word.{little, Bytes}
use Rattle.words.proofs.Laws.{bytes-stored}
use Rattle.table.specs.Records.{rows_of}
use Rattle.route.specs.Route.{cost_between, is_shut}
use Rattle.waiting.specs.declared.Entry.{Entry}
use Rattle.waiting.specs.Inner.Entries.{entry_at, EntryWords}
use Rattle.waiting.specs.Inner.Sift.{push_in, pop_in}
use Rattle.waiting.specs.Inner.Steps.{Popped}
use Rattle.waiting.proofs.Sifted.{pushed-in, popped-in, bytes-push, bytes-pop}
use Rattle.known.specs.Inner.Known.{cell_in, record_offset, bucket_of, head_in, with_high, with_low, with_link, add_in}
use Rattle.known.proofs.Laws.{cell-words}
use Rattle.known.specs.Inner.Seek.{find_in}
use Rattle.search_rows.specs.Inner.Rows.{g_in, row_in, rows_in, close_in, lower_in, append_in, with_mark, with_cost, Looked, RowChanged}
use Rattle.search_rows.proofs.RowsLaws.{raw_same, find-row, find-no-row, length-rows}
use Rattle.search_rows.proofs.Looked.{looked-in}
use Rattle.search_rows.proofs.Written.{closed_in, lowered-in}
use Rattle.search_rows.proofs.Appended.{appended-in}
use Rattle.search.specs.Search.{Problem, OrRefused, is, refused, KnownRow, State, Flow, going, and_then, find, put, is_closed, plus, push, tried, relax, relax_all, entered, step}
use Rattle.search.specs.Plan.{distance_bits}
use Rattle.general.proofs.Tests.{on_test}
use Rattle.general.proofs.Results.{ok-path, err-is-no-ok}
use Rattle.search.proofs.Invariants.{Holding, Unfound}
use Rattle.search.proofs.ClosedCounts.{closed-at-most}
use Rattle.search.specs.Costs.{Cost}
use Rattle.search.proofs.Costs.{cost-order, cost-small, small-cost, plus-cost, step-cost, ahead-cost}
use Rattle.expansion.specs.declared.Plan.{Plan}
use Rattle.expansion.specs.declared.Sizes.{Sizes}
use Rattle.expansion.specs.declared.Step.{Step}
use Rattle.expansion.specs.declared.Step.TheVariants as steps
use Rattle.expansion.specs.Inner.State.{state_in, problem_of, flow_in, HoldsSearch, GoodStep, StepMeets, RunMeetsTo, RunMeets}
use Rattle.expansion.proofs.StateLaws.{entered-meets, refused-meets, full_meets, waiting-room}
use Rattle.expansion.proofs.RelaxLaws.{closed-meets, shut-meets, worse-meets, lowered-meets, added-meets, crowded-meets, Paid, relaxed}
use Rattle.expansion.proofs.AroundLaws.{Stands, rows-stand, stand-rows, relax-stands}
use Rattle.expansion.proofs.EnterLaws.{spent-meets, arrived-meets, alone-meets, around-meets}
use Rattle.expansion.proofs.AdvanceLaws as advancing
use Rattle.expansion.proofs.RunLaws.{Running, run-start, run-next, run_ends, run-pauses}
use Rattle.expansion.specs.Inner.Bytes.{sizes_of, entry_to, After, is_no_cost, Fits, pushed_in, push_known_in, push_new_in, try_known_in, try_new_in, tried_in, relax_in, onward_in, step_of, going_in, and_then_in, relax_all_in, around_in, entered_in, popped_in, advance_in, enough, due_in, paused_in, pops_in, run_in}
use Rattle.expansion.proofs.Left.{left_in}
use Rattle.expansion.proofs.BytesKept.{left-enough, advance-forward, Popped as Went}
use Rattle.expansion.proofs.BytesLoops.{run-pops, both_true}

-- ---- bytes stay bytes

bytes-lower : (w : List ℕ) (room i g before : ℕ) → Bytes w → Bytes (lower_in w room i g before)
bytes-lower w room i g before b =
    bytes-stored little 4 (with_cost w room i g) (record_offset room i + 32) before (bytes-stored little 8 (with_mark w room i 0) (record_offset room i + 24) g (bytes-stored little 4 w (record_offset room i + 20) 0 b))

bytes-add : (w : List ℕ) (room n : ℕ) (c : Cell) → Bytes w → Bytes (add_in w room n c)
bytes-add w room n c b =
    bytes-stored little 4 (with_link w room n c) (4 * bucket_of c room) (n + 1)
    (bytes-stored little 4 (with_low w room n c) (record_offset room n + 16) (head_in w (bucket_of c room))
    (bytes-stored little 8 (with_high w room n c) (record_offset room n + 8) c.low (bytes-stored little 8 w (record_offset room n) c.high b)))

pub bytes-appended : (w : List ℕ) (room n : ℕ) (c : Cell) (g before : ℕ) → Bytes w → Bytes (append_in w room n c g before)
bytes-appended w room n c g before b = bytes-lower (add_in w room n c) room n g before (bytes-add w room n c b)

bytes-close : (w : List ℕ) (room i : ℕ) → Bytes w → Bytes (close_in w room i)
bytes-close w room i b = bytes-stored little 4 w (record_offset room i + 20) 1 b

-- ---- words of the neighbours

each_of : (cells : List Cell) → ((k : Cell) → Memᴰ k cells → Words k) → Each Words cells
each_of [] f = tt
each_of (k ∷ cells) f = (f k (Memᴰ.head refl), each_of cells (λ b m. f b (Memᴰ.tail m)))

plain-words : (c : Cell) → has_neighbor_room (coord_of c) ≡ true → (k : Cell) → Memᴰ k (near_cells c) → Words k
unfolding near_cells
plain-words c room k m =
    let frame : frame_of c < 256 = omega arith in
    let resolution : resolution_of c < 256 = omega arith in
    let r = Memᴰ.of_map (plain_at (frame_of c) (resolution_of c)) (neighbor_places (coord_of c)) m in
    subst Words r.2 (fields-packed (frame_of c) (resolution_of c) r.0 0 0 frame resolution (omega arith) (room_fits (coord_of c) r.0 room r.1)).words

near-words : (c : Cell) (cells : List Cell) → neighbors_of c ≡ Ok cells → Each Words cells
unfolding neighbors_of
near-words c cells e = by-parity (parity_of (coord_of c)) e
  where
    by-room : (t : Bool) → has_neighbor_room (coord_of c) ≡ t → neighbors_in t c ≡ Ok cells → Each Words cells
    by-room true room f = subst (Each Words) (ok-path f) (each_of (near_cells c) (plain-words c room))
    by-room false room f = absurd (err-is-no-ok f)

    by-parity : (a : Result Parity Refusal) → neighbors_by a c ≡ Ok cells → Each Words cells
    by-parity (Err r) f = absurd (err-is-no-ok f)
    by-parity (Ok q) f = by-room (has_neighbor_room (coord_of c)) refl f

-- the bytes that hold a state have sizes within the rooms
pub good-fits : {p : Plan} {w h : List ℕ} {z : Sizes} → HoldsSearch p w h z → Fits p w h z
good-fits {p} {w} {h} {z} good =
    record {
      roomy = good.rows.known.roomy;
      known = good.rows.known.count;
      few = good.few;
      small = good.small;
      size = good.size;
      counted = omega (arith, good.counted, closed-at-most (rows_in w p.known z.known), length-rows w p.known z.known);
    }

module _ (p : Plan) (flags : List ℕ) (count : ℕ) where
  -- the problem that the plan poses in the flag layer
  abbrev P : Problem
  P = problem_of p flags count

  -- a byte step meets a step of the definition, and leaves bytes
  pub record Simulates (w h : List ℕ) (x : After Step) (f : Flow) : Type 0 where
    pub meets : StepMeets P p w h x.0 x.1 x.2 f
    pub bytes : Bytes x.0
    pub heap-bytes : Bytes x.1

  module _ (w h : List ℕ) (z : Sizes) (good : HoldsSearch p w h z) (bytes : Bytes w) (heap-bytes : Bytes h) where
    abbrev s : State
    s = state_in p w h z

    abbrev rows : List KnownRow
    rows = rows_in w p.known z.known

    -- nothing was written
    unwritten : (r : Result Step Refusal) (f : Flow) → StepMeets P p w h w h r f → Simulates w h (w, h, r) f
    unwritten r f m = record { meets = m; bytes = bytes; heap-bytes = heap-bytes }

    -- ---- one neighbour

    module _ (w' : List ℕ) (known : ℕ) (n : Cell) (g b : ℕ) (cost : Cost g) (words : Words n) (unclosed : is_closed (find (raw_of n) rows) ≡ false)
        (changed : RowChanged w w' p.known z.known known (put (raw_of n) g b rows)) (bytes' : Bytes w') where
      pushed-simulates : (told : OrRefused ℕ) → told ≡ distance_bits (distance_cells n p.goal) → Simulates w h (going_in (pushed_in p w w' h z known n g told)) (push P b (raw_of n) g s told)
      pushed-simulates (refused r) e = unwritten (Err r) (push P b (raw_of n) g s (refused r)) (refused-meets p w h z b (raw_of n) g P (waiting-room p flags count) (refused r) r refl)
      pushed-simulates (is x) e =
          let h' = push_in h z.waiting (entry_to (plus g x) n g) in
          on_test (λ (y : After Sizes). Simulates w h (going_in y) (push P b (raw_of n) g s (is x))) (ltb z.waiting p.waiting)
          (w', h', Ok (sizes_of known (z.waiting + 1) z.count))
          (w, h, Err (NoRoom room.Waiting))
          (λ l.
          let less = ltb-true z.waiting p.waiting l in
          let size = good.size in
          let sum = plus-cost g x cost (ahead-cost n p.goal x e) in
          let f-word = sum.positive in
          let g-word = cost.positive in
          let entry-words : EntryWords (entry_to (plus g x) n g) = record { f-word = omega arith; cell-words = words; g-word = omega arith } in
          record {
            meets = entered-meets p w h w' h' z known (plus g x) g b n P (waiting-room p flags count) (is x) x refl refl
                (record {
                  good = good;
                  f-cost = sum;
                  g-cost = cost;
                  words = words;
                  unclosed = unclosed;
                  room = less;
                  changed = changed;
                  push = pushed-in h z.waiting (entry_to (plus g x) n g) heap-bytes entry-words good.heap (omega arith);
                });
            bytes = bytes';
            heap-bytes = bytes-push h z.waiting (entry_to (plus g x) n g) heap-bytes;
          })
          (λ l. unwritten (Err (NoRoom room.Waiting)) (push P b (raw_of n) g s (is x)) (full_meets p w h z b (raw_of n) g P (waiting-room p flags count) (is x) x refl (ltb-false z.waiting p.waiting l)))

    module _ (at : ℕ) (below : at < z.known) where
      abbrev c : ℕ
      c = raw_of (cell_in w p.known at)

      renew-simulates : (i g : ℕ) → Cost g → i < z.known → (row_in w p.known i).closed ≡ false
          → Simulates w h (going_in (push_known_in p w h z at i g)) (push P c (raw_of (cell_in w p.known i)) g s (distance_bits (distance_cells (cell_in w p.known i) p.goal)))
      unfolding push_known_in
      renew-simulates i g cost here unclosed =
          let d = cell_in w p.known i in
          let small = cost.positive in
          pushed-simulates (lower_in w p.known i g at) z.known d g c cost (cell-words w p.known i bytes)
          (ap is_closed (find-row w p.known z.known good.rows bytes i here) ∙ unclosed)
          (lowered-in w p.known z.known i g at good.rows bytes here below (omega arith))
          (bytes-lower w p.known i g at bytes)
          (distance_bits (distance_cells d p.goal)) refl

      fresh-simulates : (n : Cell) (g : ℕ) → Cost g → Words n → z.known < p.known → ((j : ℕ) → j < z.known → cell_in w p.known j ≡ n → ⊥)
          → Simulates w h (going_in (push_new_in p w h z at n g)) (push P c (raw_of n) g s (distance_bits (distance_cells n p.goal)))
      unfolding push_new_in
      fresh-simulates n g cost words less nowhere =
          let small = cost.positive in
          let w' = append_in w p.known z.known n g at in
          let changed = appended-in w p.known z.known n g at good.rows less (omega arith) nowhere (omega arith) words bytes in
          pushed-simulates w' (z.known + 1) n g c cost words
          (ap is_closed (find-no-row w p.known z.known n bytes words nowhere))
          (subst (λ (d : Cell). RowChanged w w' p.known z.known (z.known + 1) (put (raw_of n) g (raw_of d) rows)) (changed.cells at below) changed)
          (bytes-appended w p.known z.known n g at bytes)
          (distance_bits (distance_cells n p.goal)) refl

      module _ (n : Cell) (t : ℕ) (cost : Cost t) (words : Words n) where
        abbrev here : After Sizes
        here = (w, h, Ok z)

        known-simulates : (i : ℕ) → i < z.known → cell_in w p.known i ≡ n → Simulates w h (going_in (try_known_in p (rows_of 20 flags count) w h z at i n t)) (tried P c (raw_of n) t s (some (row_in w p.known i)))
        unfolding try_known_in row_in
        known-simulates i less-than cell =
            let flow = tried P c (raw_of n) t s (some (row_in w p.known i)) in
            let Right : After Sizes → Type 0 = λ (y : After Sizes). Simulates w h (going_in y) flow in
            let g = g_in w p.known i in
            let renewed = push_known_in p w h z at i t in
            let free = cond (is_shut p.rule (rows_of 20 flags count) n) here renewed in
            let order = cost-order t g cost (good.costs i less-than) in
            on_test Right (row_in w p.known i).closed here (cond (ltb t g) free here)
            (λ e. unwritten (Ok (steps.Going z)) flow (closed-meets p flags w h count z at t n good words (some (row_in w p.known i)) e))
            (λ e. on_test Right (ltb t g) free here
            (λ l. on_test Right (is_shut p.rule (rows_of 20 flags count) n) here renewed
            (λ q. unwritten (Ok (steps.Going z)) flow (shut-meets p flags w h count z at t n good words (some (row_in w p.known i)) e q))
            (λ q.
            let m = renew-simulates i t cost less-than e in
            record { meets = lowered-meets p flags w h count z at t n good words q _ _ _ i (cell_in w p.known i) cell e (order ∙ l) m.meets; bytes = m.bytes; heap-bytes = m.heap-bytes }))
            (λ l. unwritten (Ok (steps.Going z)) flow (worse-meets p flags w h count z at t n good words (some (row_in w p.known i)) (order ∙ l))))

        new-simulates : ((j : ℕ) → j < z.known → cell_in w p.known j ≡ n → ⊥) → Simulates w h (going_in (try_new_in p (rows_of 20 flags count) w h z at n t)) (tried P c (raw_of n) t s none)
        unfolding try_new_in
        new-simulates nowhere =
            let flow = tried P c (raw_of n) t s none in
            let Right : After Sizes → Type 0 = λ (y : After Sizes). Simulates w h (going_in y) flow in
            let full : After Sizes = (w, h, Err (NoRoom room.Known)) in
            let added = push_new_in p w h z at n t in
            let roomy = cond (ltb z.known p.known) added full in
            let order = cost-order t 0x7FF0_0000_0000_0000 cost (cost-small 0x7FF0_0000_0000_0000 (omega arith)) in
            on_test Right (is_shut p.rule (rows_of 20 flags count) n) here (cond (ltb t 0x7FF0_0000_0000_0000) roomy here)
            (λ q. unwritten (Ok (steps.Going z)) flow (shut-meets p flags w h count z at t n good words none refl q))
            (λ q. on_test Right (ltb t 0x7FF0_0000_0000_0000) roomy here
            (λ l. on_test Right (ltb z.known p.known) added full
            (λ e.
            let less-than = ltb-true z.known p.known e in
            let m = fresh-simulates n t cost words less-than nowhere in
            record { meets = added-meets p flags w h count z at t n good words q (order ∙ l) _ _ _ less-than m.meets; bytes = m.bytes; heap-bytes = m.heap-bytes })
            (λ e. unwritten (Err (NoRoom room.Known)) flow (crowded-meets p flags w h count z at t n good words q (order ∙ l) (ltb-false z.known p.known e))))
            (λ l. unwritten (Ok (steps.Going z)) flow (worse-meets p flags w h count z at t n good words none (order ∙ l))))

      tried-simulates : (g : ℕ) (n : Cell) (t : ℕ) → Paid w p.known at g t n → Cost t → (r : Option ℕ) → Looked w p.known z.known n r → Simulates w h (going_in (tried_in p (rows_of 20 flags count) w h z at n t r)) (relax P c g (raw_of n) s)
      tried-simulates g n t by paid (Some i) looked =
          subst (Simulates w h (going_in (try_known_in p (rows_of 20 flags count) w h z at i n t))) (relaxed p flags w h count z at g t n by (some (row_in w p.known i)) looked.2) (known-simulates n t paid by.words i looked.0 looked.1)
      tried-simulates g n t by paid None looked =
          subst (Simulates w h (going_in (try_new_in p (rows_of 20 flags count) w h z at n t))) (relaxed p flags w h count z at g t n by none looked.1) (new-simulates n t paid by.words looked.0)

      pub relax-simulates : (g : ℕ) (n : Cell) → Cost g → Words n → Simulates w h (going_in (relax_in p (rows_of 20 flags count) at (cell_in w p.known at) g n w h z)) (relax P c g (raw_of n) s)
      unfolding relax_in
      relax-simulates g n cost words =
          let k = to_bits binary64 (cost_between (cell_in w p.known at) n) in
          tried-simulates g n (plus g k) (record { words = words; words-before = cell-words w p.known at bytes; sum = refl }) (plus-cost g k cost (step-cost (cell_in w p.known at) n))
          (find_in w p.known z.known n) (looked-in w p.known z.known n good.rows bytes words)

  -- ---- one neighbour after the other

  -- a neighbour, and what comes after it
  then-simulates : (w h : List ℕ) (f : Flow) (next : List ℕ → List ℕ → Sizes → After Sizes) (later : State → Flow) (w' h' : List ℕ) (r : Result Sizes Refusal) → Simulates w h (w', h', step_of r) f
      → ((z' : Sizes) → r ≡ Ok z' → Simulates w' h' (going_in (next w' h' z')) (later (state_in p w' h' z'))) → Simulates w h (going_in (onward_in w' h' r next)) (and_then f later)
  then-simulates w h f next later w' h' (Err r) m more =
      subst (Simulates w h (w', h', Err r)) (sym m.meets.same ∙ ap (λ (y : Flow). and_then y later) m.meets.same) m
  then-simulates w h f next later w' h' (Ok z') m more =
      let after = more z' refl in
      record {
        meets = record {
          same = after.meets.same ∙ ap (λ (y : Flow). and_then y later) m.meets.same;
          good = after.meets.good;
          workspace-length = after.meets.workspace-length ∙ m.meets.workspace-length;
          heap-length = after.meets.heap-length ∙ m.meets.heap-length;
        };
        bytes = after.bytes;
        heap-bytes = after.heap-bytes;
      }

  pub relax-all-simulates : (at g : ℕ) (c : Cell) → Cost g → (ns : List Cell) → Each Words ns → (w h : List ℕ) (z : Sizes) → HoldsSearch p w h z → Bytes w → Bytes h → at < z.known → cell_in w p.known at ≡ c
      → Simulates w h (going_in (relax_all_in p (rows_of 20 flags count) at c g ns w h z)) (relax_all P (raw_of c) g (map raw_of ns) (state_in p w h z))
  unfolding relax_all_in relax_all
  relax-all-simulates at g c cost [] words w h z good bytes heap-bytes below cell = unwritten w h z good bytes heap-bytes (Ok (steps.Going z)) (going (state_in p w h z)) (record { same = refl; good = good; workspace-length = refl; heap-length = refl })
  relax-all-simulates at g c cost (n ∷ ns) words w h z good bytes heap-bytes below cell =
      let x = relax_in p (rows_of 20 flags count) at c g n w h z in
      let m : Simulates w h (going_in x) (relax P (raw_of c) g (raw_of n) (state_in p w h z)) =
      subst (λ (d : Cell). Simulates w h (going_in (relax_in p (rows_of 20 flags count) at d g n w h z)) (relax P (raw_of d) g (raw_of n) (state_in p w h z))) cell (relax-simulates w h z good bytes heap-bytes at below g n cost words.0) in
      then-simulates w h (relax P (raw_of c) g (raw_of n) (state_in p w h z)) (relax_all_in p (rows_of 20 flags count) at c g ns) (relax_all P (raw_of c) g (map raw_of ns)) x.0 x.1 x.2 m
      (λ z' e. on x.0 x.1 x.2 m z' e (relax-all-simulates at g c cost ns words.1))
    where
      stood : Stands (raw_of c) at (rows_in w p.known z.known)
      stood = subst (λ (d : Cell). Stands (raw_of d) at (rows_in w p.known z.known)) cell (rows-stand w p.known z.known at below)

      on : (w' h' : List ℕ) (r : Result Sizes Refusal) → Simulates w h (w', h', step_of r) (relax P (raw_of c) g (raw_of n) (state_in p w h z)) → (z' : Sizes) → r ≡ Ok z'
          → ((w h : List ℕ) (z : Sizes) → HoldsSearch p w h z → Bytes w → Bytes h → at < z.known → cell_in w p.known at ≡ c → Simulates w h (going_in (relax_all_in p (rows_of 20 flags count) at c g ns w h z)) (relax_all P (raw_of c) g (map raw_of ns) (state_in p w h z)))
          → Simulates w' h' (going_in (relax_all_in p (rows_of 20 flags count) at c g ns w' h' z')) (relax_all P (raw_of c) g (map raw_of ns) (state_in p w' h' z'))
      on w' h' r m z' e more =
          let same : going (state_in p w' h' z') ≡ relax P (raw_of c) g (raw_of n) (state_in p w h z) = ap (λ (x : Result Sizes Refusal). flow_in P p w' h' (step_of x)) (sym e) ∙ m.meets.same in
          let stands : Stands (raw_of c) at (rows_in w' p.known z'.known) = subst (Holding (λ (t : State). Stands (raw_of c) at t.known) Unfound) (sym same) (relax-stands P at (raw_of c) g (raw_of n) (state_in p w h z) stood) in
          let there = stand-rows (raw_of c) w' p.known z'.known at stands in
          let cell-there = raw_same (cell_in w' p.known at) c (cell-words w' p.known at m.bytes) (subst Words cell (cell-words w p.known at bytes)) there.1 in
          more w' h' z' (subst (λ (x : Result Sizes Refusal). GoodStep p w' h' (step_of x)) e m.meets.good) m.bytes m.heap-bytes there.0 cell-there

  -- ---- one pop

  pub entered-simulates : (w h : List ℕ) (z : Sizes) → HoldsSearch p w h z → Bytes w → Bytes h → (at g : ℕ) → Cost g → at < z.known → Simulates w h (entered_in p (rows_of 20 flags count) w h z at g) (entered P (raw_of (cell_in w p.known at)) g (state_in p w h z))
  unfolding entered_in
  entered-simulates w h z good bytes heap-bytes at g cost below =
      let d = cell_in w p.known at in
      let flow = entered P (raw_of d) g (state_in p w h z) in
      let Right : After Step → Type 0 = λ (y : After Step). Simulates w h y flow in
      let spent : After Step = (w, h, Err (SearchLimitExceeded (record { expansions = z.count; limit = p.limit }))) in
      let there : After Step = (w, h, Ok (steps.Arrived z)) in
      let around = around_in p (rows_of 20 flags count) w h z at d g (neighbors_of d) in
      on_test Right (ltb p.limit z.count) spent (cond (eqb (raw_of d) (raw_of p.goal)) there around)
      (λ e. unwritten w h z good bytes heap-bytes (Err (SearchLimitExceeded (record { expansions = z.count; limit = p.limit }))) flow (spent-meets p flags w h count z at g (ltb-true p.limit z.count e)))
      (λ e. on_test Right (eqb (raw_of d) (raw_of p.goal)) there around
      (λ f. unwritten w h z good bytes heap-bytes (Ok (steps.Arrived z)) flow (arrived-meets p flags w h count z at g (ltb-false p.limit z.count e) d refl bytes below good f))
      (λ f. by-answer (ltb-false p.limit z.count e) f (neighbors_of d) refl))
    where
      by-answer : z.count ≤ p.limit → eqb (raw_of (cell_in w p.known at)) (raw_of p.goal) ≡ false → (a : Result (List Cell) Refusal) → neighbors_of (cell_in w p.known at) ≡ a
          → Simulates w h (around_in p (rows_of 20 flags count) w h z at (cell_in w p.known at) g a) (entered P (raw_of (cell_in w p.known at)) g (state_in p w h z))
      by-answer left f (Err r) o =
          unwritten w h z good bytes heap-bytes (Err r) (entered P (raw_of (cell_in w p.known at)) g (state_in p w h z))
          (alone-meets p flags w h count z at g left (cell_in w p.known at) refl (cell-words w p.known at bytes) f (neighbors_of (cell_in w p.known at)) refl r o)
      by-answer left f (Ok cells) o =
          let m = relax-all-simulates at g (cell_in w p.known at) cost cells (near-words (cell_in w p.known at) cells o) w h z good bytes heap-bytes below refl in
          record {
            meets = around-meets p flags w h count z at g left (cell_in w p.known at) refl (cell-words w p.known at bytes) f (neighbors_of (cell_in w p.known at)) refl cells o _ _ _ m.meets;
            bytes = m.bytes;
            heap-bytes = m.heap-bytes;
          }

  -- the entry that a heap gives
  module _ (w h : List ℕ) (z : Sizes) (good : HoldsSearch p w h z) (bytes : Bytes w) (heap-bytes : Bytes h) (some-wait : 0 < z.waiting) where
    abbrev h₁ : List ℕ
    h₁ = pop_in h z.waiting

    abbrev first : Entry
    first = entry_at h 0

    pop : Popped h h₁ z.waiting first
    pop =
        let few = good.few in
        let size = good.size in
        popped-in h z.waiting heap-bytes good.heap (omega arith) some-wait

    popped-simulates : (r : Option ℕ) → Looked w p.known z.known first.cell r → Simulates w h (popped_in p (rows_of 20 flags count) w h₁ z r) (step P (state_in p w h z))
    unfolding row_in
    popped-simulates None looked = absurd (advancing.never-nowhere p P w h h₁ z first good pop looked.1)
    popped-simulates (Some i) looked =
        let flow = step P (state_in p w h z) in
        let Right : After Step → Type 0 = λ (y : After Step). Simulates w h y flow in
        let g = g_in w p.known i in
        let w' = close_in w p.known i in
        let sizes = sizes_of z.known (z.waiting - 1) (z.count + 1) in
        let bad : After Step = (w, h₁, Err BadWorkspace) in
        let skip : After Step = (w, h₁, Ok (steps.Going (sizes_of z.known (z.waiting - 1) z.count))) in
        let enter = entered_in p (rows_of 20 flags count) w' h₁ sizes i g in
        let last = cond (is_no_cost g) bad enter in
        let changed = closed_in w p.known z.known i good.rows bytes looked.0 in
        on_test Right (row_in w p.known i).closed skip (cond (ltb z.count z.known) last bad)
        (λ e. record { meets = advancing.skipped-meets p P w h h₁ z first good pop i looked.2 e; bytes = bytes; heap-bytes = bytes-pop h z.waiting heap-bytes })
        (λ e.
        let closed = advancing.closed-good p P w h h₁ z first good pop i looked.2 e looked.0 looked.1 w' changed in
        on_test Right (ltb z.count z.known) last bad
        (λ l. on_test Right (is_no_cost g) bad enter
        (λ f. let most = small-cost g (good.costs i looked.0) in let above = ltb-true 0x7FF0_0000_0000_0000 g f in absurd (omega arith))
        (λ f.
        let m = entered-simulates w' h₁ sizes closed (bytes-close w p.known i bytes) (bytes-pop h z.waiting heap-bytes) i g (good.costs i looked.0) looked.0 in
        record { meets = advancing.entered-meets p P w h h₁ z first good pop i looked.2 e looked.0 looked.1 w' changed g refl _ _ _ m.meets; bytes = m.bytes; heap-bytes = m.heap-bytes }))
        (λ l.
        let none = ltb-false z.count z.known l in
        absurd (omega (arith, closed.counted, closed-at-most (rows_in w' p.known z.known), length-rows w' p.known z.known))))

  pub advance-simulates : (w h : List ℕ) (z : Sizes) → HoldsSearch p w h z → Bytes w → Bytes h → Simulates w h (advance_in p (rows_of 20 flags count) w h z) (step P (state_in p w h z))
  unfolding advance_in
  advance-simulates w h z good bytes heap-bytes =
      let flow = step P (state_in p w h z) in
      let none : After Step = (w, h, Err (NoPathFound (record { start = p.start; goal = p.goal }))) in
      let first = entry_at h 0 in
      let popped = popped_in p (rows_of 20 flags count) w (pop_in h z.waiting) z (find_in w p.known z.known first.cell) in
      on_test (λ (y : After Step). Simulates w h y flow) (eqb z.waiting 0) none popped
      (λ e. unwritten w h z good bytes heap-bytes (Err (NoPathFound (record { start = p.start; goal = p.goal }))) flow (advancing.nowhere-meets p flags w h count z (eqb-true z.waiting 0 e)))
      (λ e.
      let some-wait = positive z.waiting (eqb-false z.waiting 0 e) in
      let words = (pop w h z good bytes heap-bytes some-wait).words.cell-words in
      popped-simulates w h z good bytes heap-bytes some-wait (find_in w p.known z.known first.cell) (looked-in w p.known z.known first.cell good.rows bytes words))
    where
      positive : (n : ℕ) → (n ≡ 0 → ⊥) → 0 < n
      positive n more = omega arith

  -- ---- pop after pop

  pops-simulate : (until k : ℕ) (w₀ h₀ : List ℕ) (z₀ : Sizes) (w h : List ℕ) (z : Sizes) → Running p flags count w₀ h₀ z₀ w h z → Bytes w → Bytes h → left_in p z < k
      → let x = pops_in p (rows_of 20 flags count) k until w h z in RunMeetsTo P p until w₀ h₀ x.0 x.1 x.2 (going (state_in p w₀ h₀ z₀))
  unfolding pops_in
  pops-simulate until zero w₀ h₀ z₀ w h z a bytes heap-bytes suffice = absurd (omega arith)
  pops-simulate until (suc k) w₀ h₀ z₀ w h z a bytes heap-bytes suffice =
      let x = advance_in p (rows_of 20 flags count) w h z in
      on_test (λ (y : After Step). RunMeetsTo P p until w₀ h₀ y.0 y.1 y.2 (going (state_in p w₀ h₀ z₀))) (paused_in p until w h z) (w, h, Ok (steps.Going z)) (and_then_in x.0 x.1 x.2 (pops_in p (rows_of 20 flags count) k until))
      (λ paused. run-pauses a until paused)
      (λ goes. on x.0 x.1 x.2 (advance-simulates w h z a.good bytes heap-bytes) (advance-forward p (rows_of 20 flags count) w h z (good-fits a.good)) (pops-simulate until k w₀ h₀ z₀))
    where
      on : (w' h' : List ℕ) (r : Result Step Refusal) → Simulates w h (w', h', r) (step P (state_in p w h z)) → Went p (rows_of 20 flags count) w h z (w', h', r)
          → ((w h : List ℕ) (z : Sizes) → Running p flags count w₀ h₀ z₀ w h z → Bytes w → Bytes h → left_in p z < k
          → let x = pops_in p (rows_of 20 flags count) k until w h z in RunMeetsTo P p until w₀ h₀ x.0 x.1 x.2 (going (state_in p w₀ h₀ z₀)))
          → let x = and_then_in w' h' r (pops_in p (rows_of 20 flags count) k until) in RunMeetsTo P p until w₀ h₀ x.0 x.1 x.2 (going (state_in p w₀ h₀ z₀))
      on w' h' (Ok (steps.Going z')) m went more = more w' h' z' (run-next a w' h' z' m.meets) m.bytes m.heap-bytes (omega (arith, went.on.less))
      on w' h' (Err r) m went more = run_ends a until w' h' (Err r) (λ y e. absurd (let c : ◌≡◌ {A = ℕ} 0 1 = cc in omega arith)) m.meets
      on w' h' (Ok (steps.Arrived z')) m went more = run_ends a until w' h' (Ok (steps.Arrived z')) (λ y e. absurd (let c : ◌≡◌ {A = ℕ} 0 1 = cc in omega arith)) m.meets

  module _ (until : ℕ) (w h w' h' : List ℕ) (z : Sizes) (r : Result Step Refusal) (good : HoldsSearch p w h z) (bytes : Bytes w) (heap-bytes : Bytes h) (e : (w', h', r) ≡ run_in p (rows_of 20 flags count) until w h z) where
    -- a run is at the definition's flow after some pops
    pub run-to : RunMeetsTo P p until w h w' h' r (going (state_in p w h z))
    run-to =
        let fits = good-fits good in
        subst (λ (x : After Step). RunMeetsTo P p until w h x.0 x.1 x.2 (going (state_in p w h z))) (sym (e ∙ sym (run-pops p (rows_of 20 flags count) until w h z)))
        (pops-simulate until (enough p) w h z w h z (run-start good) bytes heap-bytes (left-enough p w h z fits))

    -- without a bound it goes to the end: no more are counted than there is room for
    pub run_by : p.known < until → RunMeets P p w h w' h' r (going (state_in p w h z))
    run_by free = record { pops = run-to.pops; met = run-to.met; last = λ x q. never x q }
      where
        never : (x : Sizes) → r ≡ Ok (steps.Going x) → ⊥
        never x q =
            let fits = good-fits (subst (GoodStep p w' h') q run-to.met.good) in
            let known = fits.known in
            let counted = fits.counted in
            let far = leb-true until x.count (both_true (leb until x.count) (due_in p w' h' x) (run-to.paused x q)).0 in
            omega arith
