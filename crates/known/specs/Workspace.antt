-- What each walk asks of its lent workspaces and leaves in them: "The caller names room for known cells and waiting entries, each 1..=65,536, else BadWorkspace". "The workspace of search
-- and rings may hold anything at entry and is all zero at return, answered or refused". Definitions only.
use Rattle.std.specs.Prelude.{ℕ, Bool, ◌&&◌, List, length, replicate, nat_le}

-- the most cells or entries that a room may be for
abbrev pub most_room : ℕ
most_room = 65536

-- whether a room is one: "each 1..=65,536"
abbrev pub is_room : ℕ → Bool
is_room n = nat_le 1 n && nat_le n most_room

-- the bytes that a workspace needs for each known cell: the head of a chain, and a record
abbrev pub known_width : ℕ
known_width = 44

-- as many zeros as there are bytes
abbrev pub zeros : List ℕ → List ℕ
zeros l = replicate (length l) 0

-- the room that a ring or a search has for known cells and for waiting entries
pub record WalkRooms : Type 0 where
  pub known : ℕ
  pub waiting : ℕ

-- so much room for known cells and for waiting entries
abbrev pub in_rooms : ℕ → ℕ → WalkRooms
in_rooms known waiting = record { known = known; waiting = waiting }
