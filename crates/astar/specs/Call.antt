-- The call: "The caller names room for known cells and waiting entries, each 1..=65,536, else BadWorkspace, also when the buffers are shorter than those need [...] Order: 11, 13, 14, 15;
-- start = goal answers with cost 0.0, zero expansions, though mixed or blocked; parity of start, then goal; heuristic overflow." "The workspace of search and rings may hold anything at
-- entry and is all zero at return, answered or refused; only BadWorkspace leaves it untouched." A known cell takes 44 bytes of the one buffer, and 64 bytes of it are a head for a search
-- that is paused; a waiting entry takes 32 bytes of the other. Definitions only.
use Rattle.refusal.specs.declared.Cell.{Cell}
use Rattle.refusal.specs.declared.Refusal.{Refusal}
use Rattle.search.specs.declared.Route.{Route}
use Rattle.std.specs.Prelude.{Bool, ◌&&◌, List, ℕ, ◌+◌, ◌*◌, leb, ltb, length, Err, Result}
use Rattle.refusal.specs.declared.Refusal.TheVariants.{BadWorkspace, BadLayer, BadRule}
use Rattle.cell.specs.Bytes.{from_bytes_of, by_cell}
use Rattle.table.specs.Records.{rows_of, is_sound, flag_width, Layer}
use Rattle.general.specs.Changed.{Changed}
use Rattle.known.specs.Workspace.{is_room, zeros, known_width, WalkRooms}
use Rattle.search.specs.Search.{SearchResult, none_found}
use Rattle.search.specs.Plan.{search_of, endpoints}
use Rattle.search.specs.SearchOutcome.{Searched, searched}
use Rattle.astar.specs.Answer.{answered_in}
use Rattle.waiting.specs.Width.{entry_width}
use Rattle.general.specs.Refuse.{refuse_unless}
use Rattle.refusal.specs.declared.Ends.{Ends}

-- the limit of a search that is given none
abbrev pub default_limit : ℕ
default_limit = 100000

-- the bytes of a workspace behind its known cells, which no call uses yet
abbrev pub reserved : ℕ
reserved = 64

-- each room is 1 to 65,536, and the two buffers are long enough for them
unfoldable pub has_rooms : ℕ → ℕ → List ℕ → List ℕ → Bool
has_rooms known waiting w h = (is_room known && is_room waiting) && (leb (known_width * known + reserved) (length w) && leb (entry_width * waiting) (length h))

-- BadLayer, BadRule, then the search
abbrev pub found_in_layer : Ends → WalkRooms → ℕ → ℕ → Layer → SearchResult
found_in_layer ends rooms limit rule flags =
    refuse_unless (is_sound flag_width flags.table flags.count) (none_found BadLayer)
    (refuse_unless (ltb rule 2) (none_found BadRule)
    (search_of ends rooms limit rule (rows_of flag_width flags.table flags.count)))

-- BadList of the start's bytes, then of the goal's
abbrev pub found_from_bytes : Result Cell Refusal → Result Cell Refusal → WalkRooms → ℕ → ℕ → Layer → SearchResult
found_from_bytes start goal rooms limit rule flags = by_cell none_found (λ s. by_cell none_found (λ e. found_in_layer (endpoints s e) rooms limit rule flags) goal) start

-- "is all zero at return, answered or refused"
abbrev pub wiped : Changed (Result Route Refusal) → List ℕ → List ℕ → Searched
wiped a w h = searched a.said (zeros w) (zeros h) a.bytes

-- what a search is asked: the bytes of its ends, the rooms, the limit, the rule and the flag layer
pub record Asking : Type 0 where
  pub start : List ℕ
  pub goal : List ℕ
  pub rooms : WalkRooms
  pub limit : ℕ
  pub rule : ℕ
  pub flags : Layer

-- a search that is asked these
abbrev pub asking : List ℕ → List ℕ → WalkRooms → ℕ → ℕ → Layer → Asking
asking start goal rooms limit rule flags = record { start = start; goal = goal; rooms = rooms; limit = limit; rule = rule; flags = flags }

-- the two workspaces and the output that it is lent
pub record Buffers : Type 0 where
  pub workspace : List ℕ
  pub heap : List ℕ
  pub output : List ℕ

-- these three as they are lent
abbrev pub buffers : List ℕ → List ℕ → List ℕ → Buffers
buffers workspace heap output = record { workspace = workspace; heap = heap; output = output }

-- the whole call: BadWorkspace first, which leaves all as it was; else the answer and the output, and zeros in both workspaces
unfoldable pub search_in : Asking → Buffers → Searched
unfolding has_rooms from_bytes_of is_sound rows_of search_of
search_in a b =
    refuse_unless (has_rooms a.rooms.known a.rooms.waiting b.workspace b.heap) (searched (Err BadWorkspace) b.workspace b.heap b.output)
    (wiped (answered_in (found_from_bytes (from_bytes_of a.start) (from_bytes_of a.goal) a.rooms a.limit a.rule a.flags) b.output) b.workspace b.heap)
