-- What a walk has seen, read off its workspace: the known cells are the first n records, those found stand from record `to` on, and a ring has listed those before record i.
-- For contracts inside. Definitions only.
use Rattle.std.specs.Prelude.{◌≡◌, Bool, true, cond, List, [], ℕ, ◌-◌, ◌≤◌, ◌<◌, length, Result, Ok, Err}
use Rattle.refusal.specs.declared.Cell.{Cell}
use Rattle.refusal.specs.declared.Refusal.{Refusal}
use Rattle.general.specs.Changed.{Changed, changed}
use Rattle.known.specs.Inner.Known.{cell_in, cells_in, known_cells, Known}
use Rattle.cell_list.specs.Listing.{room_in}
use Rattle.ring.specs.declared.Rooms.{Rooms}
use Rattle.std.specs.declared.ops.Range.{Range}
use Rattle.ring.specs.Ring.{Sight, sight, Walk, going, stopped, list_all, walk_of, listed_by}

-- the cells of the records from `from` up to `to`
abbrev pub cells_between : List ℕ → ℕ → ℕ → ℕ → List Cell
cells_between l room from to = cells_in l room from (to - from)

-- what a walk has seen by these three numbers; a shell has listed none yet
abbrev pub sight_in : Bool → List ℕ → ℕ → ℕ → ℕ → ℕ → Sight
sight_in every l room n to i = sight (known_cells l room n) (cells_between l room to n) (cond every (known_cells l room i) [])

-- a workspace that only more cells were added to
pub record Grown (l l' : List ℕ) (room n n' : ℕ) : Type 0 where
  pub known : Known l' room n'
  pub more : n ≤ n'
  pub cells : (j : ℕ) → j < n → cell_in l' room j ≡ cell_in l room j
  pub length-kept : length l' ≡ length l

-- the walk w of the definition is what the answer and the workspace show
abbrev pub Shows : Bool → List ℕ → List ℕ → ℕ → ℕ → ℕ → ℕ → Result ℕ Refusal → Walk → Type 0
Shows every l l' room n to i (Ok n') w = Grown l l' room n n' × (w ≡ going (sight_in every l' room n' to i))
Shows every l l' room n to i (Err r) w = (length l' ≡ length l) × (w ≡ stopped r)

-- the same of every walk whose waiting cells begin at record `next`: f is told how many of the cells at hand wait
abbrev pub Sees : Rooms → ℕ → ℕ → List ℕ → List ℕ → Result ℕ Refusal → (ℕ → Sight → Walk) → Type 0
Sees rooms next n l l' r f =
    (every : Bool) (to i : ℕ) → next ≤ to → to ≤ n → i ≤ to → Shows every l l' rooms.known n to i r (f (to - next) (sight_in every l rooms.known n to i))

-- a ring that listed the cells before record `from`, and went on past those before record `to`, had output room for them
abbrev pub Lists : Bool → Rooms → ℕ → ℕ → Result ℕ Refusal → Type 0
Lists every rooms from to (Ok n) = every ≡ true → from ≤ rooms.output → to ≤ rooms.output
Lists every rooms from to (Err r) = Unit {0}

-- the walk w has come to its last cells: the records from `from` up to `to`, which are left to be listed
pub record Last (every : Bool) (l l' : List ℕ) (rooms : Rooms) (from to : ℕ) (w : Walk) : Type 0 where
  pub known : Known l' rooms.known to
  pub ordered : from ≤ to
  pub length-kept : length l' ≡ length l
  pub listed : every ≡ true → from ≤ rooms.output
  pub rest : w ≡ list_all rooms (cells_between l' rooms.known from to) (sight_in every l' rooms.known to to from)

-- what was reached is the walk w of the definition: at its last cells, or refused
abbrev pub Reaches : Bool → List ℕ → List ℕ → Rooms → Result (Range ℕ) Refusal → Walk → Type 0
Reaches every l l' rooms (Ok s) w = Last every l l' rooms s.start s.end w
Reaches every l l' rooms (Err r) w = (length l' ≡ length l) × (w ≡ stopped r)

-- ---- what is asked before cells are listed

-- the records from `from` up to `to` are known, and the output has room for their cells
pub record Listable (l : List ℕ) (room from to : ℕ) (output : List ℕ) : Type 0 where
  pub known : Known l room to
  pub ordered : from ≤ to
  pub room-left : to - from ≤ room_in output

-- the last cells of a walk are known, a ring had output room for all before them, and the output room is that of the buffer
pub record Finishable (every : Bool) (l : List ℕ) (rooms : Rooms) (last : Range ℕ) (output : List ℕ) : Type 0 where
  pub known : Known l rooms.known last.end
  pub ordered : last.start ≤ last.end
  pub listed : every ≡ true → last.start ≤ rooms.output
  pub same-room : rooms.output ≡ room_in output

-- the answer and the output of a call whose centre was read
abbrev pub walked_from : Result Cell Refusal → Bool → Rooms → ℕ → List ℕ → Changed (Result ℕ Refusal)
walked_from (Err r) every rooms k l = changed (Err r) l
walked_from (Ok c) every rooms k l = listed_by (walk_of every rooms k c) l
