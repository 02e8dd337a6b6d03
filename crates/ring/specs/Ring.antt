-- "`k_ring`, `k_shell`: breadth first in neighbour order; k = 0 is the centre, unchecked. Cells nearer than k are expanded, so parity and overflow are met there. Rooms are named and
-- tested as for the search. The centre takes one known and one waiting room; each unseen neighbour needs known room, then waiting room; output room is needed when a cell is listed,
-- before it is expanded: NoRoom 1, 2, 3." And of the search: "A popped entry's room serves again." The cells that wait are the rest of those at one number of steps, then those found
-- one step further: the one after the other, in the order of first sight, is breadth first. Definitions only.
use Rattle.std.specs.Prelude.{Bool, true, false, cond, ◌||◌, ◌&&◌, List, [], ◌∷◌, ◌++◌, ℕ, zero, suc, ◌+◌, ◌*◌, leb, ltb, length, Result, Ok, Err}
use Rattle.refusal.specs.declared.Cell.{Cell}
use Rattle.refusal.specs.declared.Room.TheVariants.{Known, Waiting, Output}
use Rattle.refusal.specs.declared.Refusal.{Refusal}
use Rattle.refusal.specs.declared.Refusal.TheVariants.{NoRoom, BadWorkspace}
use Rattle.cell.specs.Cell.{same_cell, neighbors_of}
use Rattle.cell.specs.Bytes.{from_bytes_of, on_cell}
use Rattle.general.specs.Changed.{Changed, changed}
use Rattle.cell_list.specs.Listing.{room_in, cells_laid}
use Rattle.known.specs.Workspace.{is_room, zeros, known_width, WalkRooms}
use Rattle.ring.specs.declared.Rooms.{Rooms}
use Rattle.general.specs.Refuse.{refuse_unless}

-- what a walk has seen: the known cells in the order of first sight, those of them that it found for its next step, and the cells that it listed
pub record Sight : Type 0 where
  pub known : List Cell
  pub found : List Cell
  pub listed : List Cell

-- what was seen, by these three lists
abbrev pub sight : List Cell → List Cell → List Cell → Sight
sight k f l = record { known = k; found = f; listed = l }

-- a walk goes on, or was refused
pub data Walk : Type 0 where
  going : Sight → Walk
  stopped : Refusal → Walk

-- on with what was seen, unless the walk was refused
abbrev pub and_then : Walk → (Sight → Walk) → Walk
and_then (going s) next = next s
and_then (stopped r) next = stopped r

-- ---- one neighbour

-- the cell is one of these
unfoldable pub is_among : Cell → List Cell → Bool
is_among c [] = false
is_among c (d ∷ ds) = same_cell c d || is_among c ds

-- one more known cell, which waits to be expanded
abbrev pub noted : Cell → Sight → Sight
noted c s = sight (s.known ++ (c ∷ [])) (s.found ++ (c ∷ [])) s.listed

-- "each unseen neighbour needs known room, then waiting room": so many others wait besides those found
abbrev pub note : Rooms → ℕ → Cell → Sight → Walk
note rooms others c s =
    cond (ltb (length s.known) rooms.known) (cond (ltb (others + length s.found) rooms.waiting) (going (noted c s)) (stopped (NoRoom Waiting))) (stopped (NoRoom Known))

-- a neighbour that is known is passed over, any other is noted
unfoldable pub see : Rooms → ℕ → Cell → Sight → Walk
unfolding is_among
see rooms others c s = cond (is_among c s.known) (going s) (note rooms others c s)

-- one neighbour after the other
unfoldable pub see_all : Rooms → ℕ → List Cell → Sight → Walk
unfolding see
see_all rooms others [] s = going s
see_all rooms others (c ∷ cs) s = and_then (see rooms others c s) (see_all rooms others cs)

-- ---- one cell

-- "parity and overflow are met there"
abbrev pub expand_into : Rooms → ℕ → Result (List Cell) Refusal → Sight → Walk
expand_into rooms others (Err r) s = stopped r
expand_into rooms others (Ok cs) s = see_all rooms others cs s

-- all neighbours of a cell are seen, in neighbour order
unfoldable pub expand : Rooms → ℕ → Cell → Sight → Walk
unfolding neighbors_of see_all
expand rooms others c s = expand_into rooms others (neighbors_of c) s

-- "output room is needed when a cell is listed"
unfoldable pub list : Rooms → Cell → Sight → Walk
list rooms c s = cond (ltb (length s.listed) rooms.output) (going (sight s.known s.found (s.listed ++ (c ∷ [])))) (stopped (NoRoom Output))

-- a ring lists every cell, a shell only the last ones
abbrev pub list_if : Bool → Rooms → Cell → Sight → Walk
list_if true rooms c s = list rooms c s
list_if false rooms c s = going s

-- ---- the cells at one number of steps

-- each is listed, then expanded; the cells behind it wait
unfoldable pub level : Bool → Rooms → List Cell → Sight → Walk
unfolding list expand
level every rooms [] s = going s
level every rooms (c ∷ cs) s = and_then (and_then (list_if every rooms c s) (expand rooms (length cs) c)) (level every rooms cs)

-- the last ones are listed and not expanded
unfoldable pub list_all : Rooms → List Cell → Sight → Walk
unfolding list
list_all rooms [] s = going s
list_all rooms (c ∷ cs) s = and_then (list rooms c s) (list_all rooms cs)

-- ---- all steps

-- the cells found are the next ones at hand
abbrev pub further : Sight → Sight
further s = sight s.known [] s.listed

-- k more steps from the cells at hand; the last cells are listed
unfoldable pub levels : Bool → Rooms → ℕ → List Cell → Sight → Walk
unfolding level list_all
levels every rooms zero cs s = list_all rooms cs s
levels every rooms (suc k) cs s = and_then (level every rooms cs s) (λ t. levels every rooms k t.found (further t))

-- from a centre, k steps
unfoldable pub walk_of : Bool → Rooms → ℕ → Cell → Walk
unfolding levels
walk_of every rooms k c = levels every rooms k (c ∷ []) (sight (c ∷ []) [] [])

-- ---- the call

-- what it says, and what stands in the two lent buffers when it returns
pub record Ringed : Type 0 where
  pub said : Result ℕ Refusal
  pub workspace : List ℕ
  pub output : List ℕ

-- this said, with these bytes in the two buffers
abbrev pub ringed : Result ℕ Refusal → List ℕ → List ℕ → Ringed
ringed a w l = record { said = a; workspace = w; output = l }

-- the answer and the output of a walk
abbrev pub listed_by : Walk → List ℕ → Changed (Result ℕ Refusal)
listed_by (stopped r) l = changed (Err r) l
listed_by (going s) l = changed (Ok (length s.listed)) (cells_laid s.listed l)

-- "is all zero at return, answered or refused"
abbrev pub wiped : Changed (Result ℕ Refusal) → List ℕ → Ringed
wiped a w = ringed a.said (zeros w) a.bytes

-- "room for known cells and waiting entries, each 1..=65,536": 44 bytes for a known cell, none for a waiting entry, which is a known cell's
unfoldable pub has_rooms : ℕ → ℕ → List ℕ → Bool
has_rooms known waiting w = is_room known && (is_room waiting && leb (known_width * known) (length w))

-- the rooms that the caller names, and that of the output
abbrev pub rooms_of : ℕ → ℕ → List ℕ → Rooms
rooms_of known waiting l = record { known = known; waiting = waiting; output = room_in l }

-- BadWorkspace first, which leaves the workspace untouched, then BadList
unfoldable pub ring_in : Bool → List ℕ → ℕ → WalkRooms → List ℕ → List ℕ → Ringed
unfolding has_rooms from_bytes_of walk_of cells_laid
ring_in every center k rooms w l =
    refuse_unless (has_rooms rooms.known rooms.waiting w) (ringed (Err BadWorkspace) w l)
    (on_cell (λ r. wiped (changed (Err r) l) w) (λ c. wiped (listed_by (walk_of every (rooms_of rooms.known rooms.waiting l) k c) l) w) center)
