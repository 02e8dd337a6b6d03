-- What a search says, and what stands in the output: "Successful output fills the front of its buffer; the rest is unchanged." "Any answer longer than its buffer [...] is NoRoom 3."
-- Definitions only.
use Rattle.search.specs.declared.Route.{Route}
use Rattle.refusal.specs.declared.Refusal.{Refusal}
use Rattle.std.specs.Prelude.{cond, List, map, ℕ, leb, length, Ok, Err, Result}
use Rattle.refusal.specs.declared.Room.TheVariants as room
use Rattle.refusal.specs.declared.Refusal.TheVariants.{NoRoom}
use Rattle.general.specs.Changed.{Changed, changed}
use Rattle.cell_list.specs.Listing.{room_in, cells_laid}
use Rattle.search.specs.Search.{SearchResult, found, none_found}
use Rattle.refusal.specs.Refusals.{cell_of}

-- the answer and the output by a search's result
abbrev pub answered_in : SearchResult → List ℕ → Changed (Result Route Refusal)
answered_in (none_found r) l = changed (Err r) l
answered_in (found cs cost n) l =
    cond (leb (length cs) (room_in l)) (changed (Ok (record { cells = length cs; cost = cost; expansions = n })) (cells_laid (map cell_of cs) l))
    (changed (Err (NoRoom room.Output)) l)
