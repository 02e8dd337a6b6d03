-- The steps of a search over its two buffers, whatever the bytes hold: what each function of the code leaves in them and answers. The text is that of search's Search.antt, sentence by
-- sentence, with records for cells: w has the known cells, h the waiting entries. What cannot be searched on is BadWorkspace, where it is touched: sizes above their rooms, a waiting
-- cell that no chain leads to, a popped cell whose g is a NaN or negative, a count that would pass the known cells. For contracts inside. Definitions only.
use Rattle.refusal.specs.declared.Refusal.{Refusal}
use Rattle.std.specs.Prelude.{Bool, true, not, ◌&&◌, leb, ltb, eqb, length, Result, Ok, Err, Option, Some, None}
use Rattle.std.proofs.Math.Bool.{false, cond}
use mathlib.Core.List.{List, [], ◌∷◌}
use Prim.Native.Nat.{ℕ, zero, suc, ◌+◌, ◌-◌, ◌*◌, ◌≤◌}
use Rattle.std.specs.Float.Ieee.{binary64, to_bits}
use Rattle.refusal.specs.declared.Cell.{Cell}
use Rattle.refusal.specs.declared.Refusal.TheVariants.{SearchLimitExceeded, NoRoom, NoPathFound, BadWorkspace}
use Rattle.refusal.specs.declared.Room.TheVariants as room
use Rattle.refusal.specs.Refusals.{raw_of}
use Rattle.cell.specs.Cell.{neighbors_of, distance_cells}
use Rattle.table.specs.Records.{Row}
use Rattle.route.specs.Route.{cost_between, is_shut}
use Rattle.waiting.specs.declared.Entry.{Entry}
use Rattle.waiting.specs.Inner.Entries.{entry_at}
use Rattle.waiting.specs.Inner.Sift.{push_in, pop_in}
use Rattle.known.specs.Inner.Known.{Roomy, cell_in}
use Rattle.known.specs.Inner.Seek.{find_in}
use Rattle.known.specs.Inner.Workspace.{Room}
use Rattle.search_rows.specs.Inner.Rows.{g_in, row_in, close_in, lower_in, append_in}
use Rattle.search.specs.Search.{OrRefused, is, refused, plus}
use Rattle.search.specs.Plan.{distance_bits}
use Rattle.expansion.specs.declared.Plan.{Plan}
use Rattle.expansion.specs.declared.Sizes.{Sizes}
use Rattle.expansion.specs.declared.Step.{Step}
use Rattle.expansion.specs.declared.Step.TheVariants as step
use Rattle.known.specs.Workspace.{most_room}
use Rattle.waiting.specs.Width.{entry_width}

-- so many known cells, waiting entries and cells counted
abbrev pub sizes_of : ℕ → ℕ → ℕ → Sizes
sizes_of known waiting count = record { known = known; waiting = waiting; count = count }

-- an entry for a cell, with these f and g
abbrev pub entry_to : ℕ → Cell → ℕ → Entry
entry_to f n g = record { f = f; cell = n; g = g }

-- ---- what is asked of the buffers

-- the buffers are long enough for the rooms that were named
pub record Rooms (known waiting : ℕ) (w h : List ℕ) : Type 0 where
  pub roomy : Roomy w known
  pub waits : Room waiting
  pub size : entry_width * waiting ≤ length h

-- the buffers are long enough, and the sizes are within the rooms. Nothing is said of what the bytes hold
pub record Fits (p : Plan) (w h : List ℕ) (z : Sizes) : Type 0 where
  pub roomy : Roomy w p.known
  pub known : z.known ≤ p.known
  pub few : z.waiting ≤ p.waiting
  pub small : p.waiting ≤ most_room
  pub size : entry_width * p.waiting ≤ length h
  pub counted : z.count ≤ z.known

-- ---- steps

-- the two buffers, and the answer
abbrev pub After : Type 0 → Type 0
After A = List ℕ × List ℕ × Result A Refusal

-- on from the buffers and sizes, unless it was refused
abbrev pub onward_in : {A : Type 0} → List ℕ → List ℕ → Result Sizes Refusal → (List ℕ → List ℕ → Sizes → After A) → After A
onward_in w h (Ok z) next = next w h z
onward_in w h (Err r) next = (w, h, Err r)

-- on from the buffers and sizes of a step, unless it was refused or arrived
abbrev pub and_then_in : List ℕ → List ℕ → Result Step Refusal → (List ℕ → List ℕ → Sizes → After Step) → After Step
and_then_in w h (Ok (step.Going z)) next = next w h z
and_then_in w h (Ok (step.Arrived z)) next = (w, h, Ok (step.Arrived z))
and_then_in w h (Err r) next = (w, h, Err r)

-- sizes as those of a step: the search goes on from them
abbrev pub step_of : Result Sizes Refusal → Result Step Refusal
step_of (Ok z) = Ok (step.Going z)
step_of (Err r) = Err r

-- the same with the two buffers
abbrev pub going_in : After Sizes → After Step
going_in x = (x.0, x.1, step_of x.2)

-- no cost has these bits: they are a NaN's or negative
abbrev pub is_no_cost : ℕ → Bool
is_no_cost g = ltb 0x7FF0_0000_0000_0000 g

module _ (p : Plan) where
  -- "heuristic overflow, waiting room": w' is the buffer with the row of n written, and so many cells are known then
  abbrev pub pushed_in : List ℕ → List ℕ → List ℕ → Sizes → ℕ → Cell → ℕ → OrRefused ℕ → After Sizes
  pushed_in w w' h z known n g (refused r) = (w, h, Err r)
  pushed_in w w' h z known n g (is x) =
      cond (ltb z.waiting p.waiting)
      (w', push_in h z.waiting (entry_to (plus g x) n g), Ok (sizes_of known (z.waiting + 1) z.count))
      (w, h, Err (NoRoom room.Waiting))

  -- a shorter way to the cell of record i, from the cell of record `at`
  unfoldable pub push_known_in : List ℕ → List ℕ → Sizes → ℕ → ℕ → ℕ → After Sizes
  unfolding cell_in plus push_in
  push_known_in w h z at i g =
      pushed_in w (lower_in w p.known i g at) h z z.known (cell_in w p.known i) g (distance_bits (distance_cells (cell_in w p.known i) p.goal))

  -- a first way to a cell
  unfoldable pub push_new_in : List ℕ → List ℕ → Sizes → ℕ → Cell → ℕ → After Sizes
  unfolding plus push_in
  push_new_in w h z at n g = pushed_in w (append_in w p.known z.known n g at) h z (z.known + 1) n g (distance_bits (distance_cells n p.goal))

  -- ---- sizes

  -- the sizes are within their rooms; others are no search's
  abbrev pub is_sized : Sizes → Bool
  is_sized z = leb z.known p.known && (leb z.waiting p.waiting && leb z.count z.known)

  -- so many pops are enough
  abbrev pub enough : ℕ
  enough = 15 * p.known + p.waiting + 1

  -- ---- whether the next pop counts

  -- the cell is not closed, by the record that was found; one that no chain leads to is for the pop to refuse
  abbrev pub is_open : List ℕ → Option ℕ → Bool
  is_open w None = true
  is_open w (Some i) = not (row_in w p.known i).closed

  -- it is no skip: an entry waits, and its cell is not closed
  unfoldable pub due_in : List ℕ → List ℕ → Sizes → Bool
  unfolding row_in find_in
  due_in w h z = cond (eqb z.waiting 0) false (is_open w (find_in w p.known z.known (entry_at h 0).cell))

  -- so many cells are counted, and the next pop would count one more: the skips before it are done
  abbrev pub paused_in : ℕ → List ℕ → List ℕ → Sizes → Bool
  paused_in until w h z = leb until z.count && due_in w h z

module _ (p : Plan) (flags : List Row) where
  -- ---- one neighbour n of a cell c, which is that of record `at`: t is its g by way of c
  -- "skip if closed; skip if blocked under the avoiding rule; if g falls", of a known cell: the bits of costs are in the order of the numbers
  unfoldable pub try_known_in : List ℕ → List ℕ → Sizes → ℕ → ℕ → Cell → ℕ → After Sizes
  unfolding push_known_in row_in is_shut
  try_known_in w h z at i n t =
      cond (row_in w p.known i).closed (w, h, Ok z)
      (cond (ltb t (g_in w p.known i)) (cond (is_shut p.rule flags n) (w, h, Ok z) (push_known_in p w h z at i t)) (w, h, Ok z))

  -- the same of a cell that is not known yet, and "known room", which only such a cell needs
  unfoldable pub try_new_in : List ℕ → List ℕ → Sizes → ℕ → Cell → ℕ → After Sizes
  unfolding push_new_in is_shut
  try_new_in w h z at n t =
      cond (is_shut p.rule flags n) (w, h, Ok z)
      (cond (ltb t 0x7FF0_0000_0000_0000) (cond (ltb z.known p.known) (push_new_in p w h z at n t) (w, h, Err (NoRoom room.Known))) (w, h, Ok z))

  -- a neighbour by the record that was found of it, if any
  abbrev pub tried_in : List ℕ → List ℕ → Sizes → ℕ → Cell → ℕ → Option ℕ → After Sizes
  tried_in w h z at n t (Some i) = try_known_in w h z at i n t
  tried_in w h z at n t None = try_new_in w h z at n t

  -- one neighbour, at the cost g of c and of the step to it
  unfoldable pub relax_in : ℕ → Cell → ℕ → Cell → List ℕ → List ℕ → Sizes → After Sizes
  unfolding try_known_in try_new_in plus cost_between find_in
  relax_in at c g n w h z = tried_in w h z at n (plus g (to_bits binary64 (cost_between c n))) (find_in w p.known z.known n)

  -- one neighbour after the other
  unfoldable pub relax_all_in : ℕ → Cell → ℕ → List Cell → List ℕ → List ℕ → Sizes → After Sizes
  unfolding relax_in
  relax_all_in at c g [] w h z = (w, h, Ok z)
  relax_all_in at c g (n ∷ ns) w h z = let x = relax_in at c g n w h z in onward_in x.0 x.1 x.2 (relax_all_in at c g ns)

  -- ---- one pop

  -- "neighbour overflow"
  abbrev pub around_in : List ℕ → List ℕ → Sizes → ℕ → Cell → ℕ → Result (List Cell) Refusal → After Step
  around_in w h z at c g (Err r) = (w, h, Err r)
  around_in w h z at c g (Ok cells) = going_in (relax_all_in at c g cells w h z)

  -- "limit, goal": the cell of record `at`, closed and counted
  unfoldable pub entered_in : List ℕ → List ℕ → Sizes → ℕ → ℕ → After Step
  unfolding relax_all_in cell_in raw_of neighbors_of
  entered_in w h z at g =
      cond (ltb p.limit z.count) (w, h, Err (SearchLimitExceeded (record { expansions = z.count; limit = p.limit })))
      (cond (eqb (raw_of (cell_in w p.known at)) (raw_of p.goal)) (w, h, Ok (step.Arrived z))
      (around_in w h z at (cell_in w p.known at) g (neighbors_of (cell_in w p.known at))))

  -- "skip if closed, count and close": the first entry was popped, and h is what it left
  abbrev pub popped_in : List ℕ → List ℕ → Sizes → Option ℕ → After Step
  popped_in w h z None = (w, h, Err BadWorkspace)
  popped_in w h z (Some i) =
      cond (row_in w p.known i).closed (w, h, Ok (step.Going (sizes_of z.known (z.waiting - 1) z.count)))
      (cond (ltb z.count z.known)
      (cond (is_no_cost (g_in w p.known i)) (w, h, Err BadWorkspace) (entered_in (close_in w p.known i) h (sizes_of z.known (z.waiting - 1) (z.count + 1)) i (g_in w p.known i)))
      (w, h, Err BadWorkspace))

  -- one pop: NoPathFound where no entry waits
  unfoldable pub advance_in : List ℕ → List ℕ → Sizes → After Step
  unfolding entered_in row_in pop_in find_in
  advance_in w h z =
      cond (eqb z.waiting 0) (w, h, Err (NoPathFound (record { start = p.start; goal = p.goal })))
      (popped_in w (pop_in h z.waiting) z (find_in w p.known z.known (entry_at h 0).cell))

  -- ---- pop after pop

  -- so many at most, none where it is paused and none once it has ended
  unfoldable pub pops_in : ℕ → ℕ → List ℕ → List ℕ → Sizes → After Step
  unfolding advance_in due_in
  pops_in zero until w h z = (w, h, Ok (step.Going z))
  pops_in (suc k) until w h z =
      let x = advance_in w h z in
      let on = and_then_in x.0 x.1 x.2 (pops_in k until) in
      cond (paused_in p until w h z) (w, h, Ok (step.Going z)) on

  -- until so many cells are counted: a number above the known room is no bound
  unfoldable pub run_in : ℕ → List ℕ → List ℕ → Sizes → After Step
  unfolding pops_in
  run_in until w h z = pops_in (enough p) until w h z

  -- the same from any sizes
  unfoldable pub resume_in : ℕ → List ℕ → List ℕ → Sizes → After Step
  unfolding run_in
  resume_in until w h z = cond (is_sized p z) (run_in until w h z) (w, h, Err BadWorkspace)
