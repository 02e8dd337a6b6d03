-- "Per pop: skip if closed, count and close, limit, goal, neighbour overflow. Per neighbour: skip if closed; skip if blocked under the avoiding rule; if g falls: known room, heuristic
-- overflow, waiting room. A popped entry's room serves again." The search of path.rs with the two patches, one named step for each sentence, over any problem: no lattice, no hash, no
-- heap and no byte is in it. A cell is its raw number of 128 bits, a cost the bits of an f64. Definitions only.
use Rattle.std.specs.Prelude.{◌≡◌, Bool, true, false, ◌||◌, leb, eqb, length}
use Rattle.std.proofs.Math.Bool.{cond}
use mathlib.Core.List.{List, [], ◌∷◌}
use Rattle.std.proofs.Math.Option.{Option, none, some}
use Prim.Native.Nat.{ℕ, zero, suc, ◌+◌, ◌*◌, ◌^◌}
use Rattle.std.proofs.Math.Dec.{ltb}
use Rattle.std.specs.Float.{binary64}
use Rattle.std.specs.Float.Ieee.{add, lt, to_bits, of_bits}
use Rattle.refusal.specs.declared.Room.TheVariants.{Known, Waiting}
use Rattle.refusal.specs.declared.Refusal.{Refusal}
use Rattle.refusal.specs.declared.Refusal.TheVariants.{SearchLimitExceeded, NoRoom}

-- ---- costs by their bits, each operation rounded once

-- the sum of two costs
unfoldable pub plus : ℕ → ℕ → ℕ
unfolding add to_bits of_bits
plus a b = to_bits binary64 (add binary64 (of_bits binary64 a) (of_bits binary64 b))

-- the first cost is below the second
unfoldable pub less : ℕ → ℕ → Bool
unfolding lt of_bits
less a b = lt (of_bits binary64 a) (of_bits binary64 b)

-- ---- the problem

-- an answer, or a refusal
pub data OrRefused (A : Type 0) : Type 0 where
  is : A → OrRefused A
  refused : Refusal → OrRefused A

-- what is to be searched: two ends, the rooms, the limit, and what the search asks of cells
pub record Problem : Type 0 where
  pub start : ℕ
  pub goal : ℕ
  pub known_room : ℕ
  pub waiting_room : ℕ
  pub limit : ℕ
  -- whether the rule keeps the drone from entering a cell
  pub blocked : ℕ → Bool
  -- the neighbours of a cell, in the table's order
  pub neighbors : ℕ → OrRefused (List ℕ)
  -- what a step costs
  pub cost : ℕ → ℕ → ℕ
  -- the heuristic: how far a cell is from the goal
  pub heuristic : ℕ → OrRefused ℕ
  -- what is refused where no entry waits
  pub no_path : Refusal

-- ---- the state

-- a known cell: its g, the cell before it on the way, and whether it is closed
pub record KnownRow : Type 0 where
  pub cell : ℕ
  pub g : ℕ
  pub before : ℕ
  pub closed : Bool

-- a waiting entry, with the g that it was pushed with
pub record Entry : Type 0 where
  pub f : ℕ
  pub cell : ℕ
  pub g : ℕ

-- the known cells in the order of first sight, the waiting entries in the order in which they come out, and the cells closed so far
pub record State : Type 0 where
  pub known : List KnownRow
  pub waiting : List Entry
  pub count : ℕ

-- a state of these three
abbrev pub state : List KnownRow → List Entry → ℕ → State
state k w n = record { known = k; waiting = w; count = n }

-- a route with its cost and the number of expansions, or a refusal
pub data SearchResult : Type 0 where
  found : List ℕ → ℕ → ℕ → SearchResult
  none_found : Refusal → SearchResult

-- a search goes on from a state, or is done
pub data Flow : Type 0 where
  going : State → Flow
  done : SearchResult → Flow

-- done: refused
abbrev pub stopped : Refusal → Flow
stopped r = done (none_found r)

-- on from the state, unless the search is done
abbrev pub and_then : Flow → (State → Flow) → Flow
and_then (done r) next = done r
and_then (going s) next = next s

-- ---- known cells

-- the row of a cell, if it is known
unfoldable pub find : ℕ → List KnownRow → Option KnownRow
find c [] = none
find c (e ∷ es) = let r = find c es in cond (eqb c e.cell) (some e) r

-- a row of these
abbrev pub row : ℕ → ℕ → ℕ → Bool → KnownRow
row c g b t = record { cell = c; g = g; before = b; closed = t }

-- a cell's g and the cell before it from now on; a cell that is not known yet comes last
unfoldable pub put : ℕ → ℕ → ℕ → List KnownRow → List KnownRow
put c g b [] = row c g b false ∷ []
put c g b (e ∷ es) = let r = put c g b es in cond (eqb c e.cell) (row c g b false ∷ es) (e ∷ r)

-- the rows with a cell closed
unfoldable pub close : ℕ → List KnownRow → List KnownRow
close c [] = []
close c (e ∷ es) = let r = close c es in cond (eqb c e.cell) (row e.cell e.g e.before true ∷ es) (e ∷ r)

-- a known cell that is closed
abbrev pub is_closed : Option KnownRow → Bool
is_closed none = false
is_closed (some e) = e.closed

-- a cell of which there is a row
abbrev pub is_known : Option KnownRow → Bool
is_known none = false
is_known (some e) = true

-- the g of a cell: infinity where it is not known
abbrev pub g_of : Option KnownRow → ℕ
g_of none = 0x7FF0_0000_0000_0000
g_of (some e) = e.g

-- the cell before it on the way
abbrev pub before_of : Option KnownRow → ℕ
before_of none = 0
before_of (some e) = e.before

-- ---- waiting entries

-- first out is the smaller number: by f, then by the cell, then by g. That this is document 01's order, costs compared as numbers, is `keys-in-order` of proofs/Theorems.antt
unfoldable pub waiting_key : Entry → ℕ
waiting_key e = (e.f * 2 ^ 128 + e.cell) * 2 ^ 64 + e.g

-- the waiting entries with one more in its place among them
unfoldable pub insert : Entry → List Entry → List Entry
unfolding waiting_key
insert e [] = e ∷ []
insert e (d ∷ ds) = let r = insert e ds in cond (leb (waiting_key e) (waiting_key d)) (e ∷ d ∷ ds) (d ∷ r)

-- ---- the route: from a cell back to the start, in at most m steps

-- the cells from the start s to c, and then the later ones: each cell's way back is the cell before it
unfoldable pub traced : ℕ → ℕ → List KnownRow → ℕ → List ℕ → List ℕ
unfolding find
traced s zero k c later = c ∷ later
traced s (suc m) k c later = let r = traced s m k (before_of (find c k)) (c ∷ later) in cond (eqb c s) (c ∷ later) r

module _ (P : Problem) where
  -- ---- one neighbour n of a cell c: t is its g by way of c

  -- n is known at t by way of c and waits, with f the sum of t and its distance h from the goal
  abbrev pub pushed : ℕ → ℕ → ℕ → ℕ → State → State
  pushed c n t h s = state (put n t c s.known) (insert (record { f = plus t h; cell = n; g = t }) s.waiting) s.count

  -- "heuristic overflow, waiting room"
  abbrev pub push : ℕ → ℕ → ℕ → State → OrRefused ℕ → Flow
  push c n t s (refused r) = stopped r
  push c n t s (is h) = cond (ltb (length s.waiting) P.waiting_room) (going (pushed c n t h s)) (stopped (NoRoom Waiting))

  -- "known room": only a cell that is not known yet needs it
  unfoldable pub lower : ℕ → ℕ → ℕ → State → Option KnownRow → Flow
  unfolding plus put insert
  lower c n t s k = cond (is_known k || ltb (length s.known) P.known_room) (push c n t s (P.heuristic n)) (stopped (NoRoom Known))

  -- "skip if closed; skip if blocked under the avoiding rule; if g falls"
  unfoldable pub tried : ℕ → ℕ → ℕ → State → Option KnownRow → Flow
  unfolding lower less
  tried c n t s k = cond (is_closed k || P.blocked n) (going s) (cond (less t (g_of k)) (lower c n t s k) (going s))

  -- one neighbour, at the cost of c and of the step to it
  unfoldable pub relax : ℕ → ℕ → ℕ → State → Flow
  unfolding tried find plus
  relax c g n s = tried c n (plus g (P.cost c n)) s (find n s.known)

  -- one neighbour after the other
  unfoldable pub relax_all : ℕ → ℕ → List ℕ → State → Flow
  unfolding relax
  relax_all c g [] s = going s
  relax_all c g (n ∷ ns) s = and_then (relax c g n s) (relax_all c g ns)

  -- ---- one pop

  -- "neighbour overflow"
  abbrev pub around : ℕ → ℕ → State → OrRefused (List ℕ) → Flow
  around c g s (refused r) = stopped r
  around c g s (is ns) = relax_all c g ns s

  -- the goal is closed: its route, its g and the cells closed
  unfoldable pub arrived : State → SearchResult
  unfolding traced find
  arrived s = found (traced P.start s.count s.known P.goal []) (g_of (find P.goal s.known)) s.count

  -- "limit, goal"
  unfoldable pub entered : ℕ → ℕ → State → Flow
  unfolding relax_all arrived
  entered c g s =
      cond (ltb P.limit s.count) (stopped (SearchLimitExceeded (record { expansions = s.count; limit = P.limit })))
      (cond (eqb c P.goal) (done (arrived s)) (around c g s (P.neighbors c)))

  -- "skip if closed, count and close"
  unfoldable pub popped : ℕ → List Entry → State → Flow
  unfolding entered close find
  popped c rest s =
      cond (is_closed (find c s.known)) (going (state s.known rest s.count))
      (entered c (g_of (find c s.known)) (state (close c s.known) rest (s.count + 1)))

  -- where no entry waits, there is no path; else the first is popped
  abbrev pub next : List Entry → State → Flow
  next [] s = stopped P.no_path
  next (e ∷ rest) s = popped e.cell rest s

  -- one pop
  unfoldable pub step : State → Flow
  unfolding popped
  step s = next s.waiting s

  -- ---- the whole search, between two ends of one parity that are not the same

  -- so many pops at most, and none once it is done
  unfoldable pub run : ℕ → Flow → Flow
  unfolding step
  run zero f = f
  run (suc k) (done r) = done r
  run (suc k) (going s) = run k (step s)

  -- at first the start alone is known and waits, at no cost, h from the goal
  abbrev pub first : ℕ → State
  first h = state (row P.start 0 P.start false ∷ []) (record { f = h; cell = P.start; g = 0 } ∷ []) 0

  -- "heuristic overflow" of the start
  abbrev pub begin : OrRefused ℕ → Flow
  begin (refused r) = stopped r
  begin (is h) = going (first h)

  -- the search ends with a result
  abbrev pub Ends : SearchResult → Type 0
  Ends r = (k : ℕ) × (run k (begin (P.heuristic P.start)) ≡ done r)
