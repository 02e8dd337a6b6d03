-- The start, the run, the way back and the end of a search over its two buffers, whatever the bytes hold: what each function of the code leaves in them and answers. The text is that of
-- the definition, with records for cells: w has the known cells, h the waiting entries. A way back that leads to no known record, and a goal that no chain leads to, are BadWorkspace.
-- For contracts inside. Definitions only.
use Rattle.search.specs.declared.Route.{Route}
use Rattle.refusal.specs.declared.Refusal.{Refusal}
use Rattle.std.specs.Prelude.{◌≡◌, cond, List, [], ◌∷◌, ℕ, zero, suc, ◌≤◌, ◌<◌, leb, ltb, length, Result, Ok, Err, Option, Some, None}
use Rattle.refusal.specs.declared.Cell.{Cell}
use Rattle.refusal.specs.declared.Room.TheVariants as room
use Rattle.refusal.specs.declared.Refusal.TheVariants.{NoRoom, BadWorkspace}
use Rattle.refusal.specs.Refusals.{raw_of}
use Rattle.words.specs.Word.{word}
use Rattle.cell.specs.Cell.{same_cell, distance_cells}
use Rattle.table.specs.Records.{Row}
use Rattle.general.specs.Changed.{Changed, changed}
use Rattle.cell_list.specs.Listing.{room_in, cells_laid}
use Rattle.waiting.specs.Inner.Sift.{push_in}
use Rattle.known.specs.Inner.Known.{Roomy, cell_in, clear_in}
use Rattle.known.specs.Inner.Seek.{find_in}
use Rattle.search_rows.specs.Inner.Rows.{g_in, before_in, append_in}
use Rattle.search.specs.Search.{OrRefused, is, refused}
use Rattle.search.specs.Plan.{distance_bits}
use Rattle.expansion.specs.declared.Plan.{Plan}
use Rattle.expansion.specs.declared.Sizes.{Sizes}
use Rattle.expansion.specs.declared.Step.{Step}
use Rattle.expansion.specs.declared.Step.TheVariants as step
use Rattle.expansion.specs.Inner.Bytes.{sizes_of, entry_to, After, onward_in, run_in}

-- ---- the start

-- "heuristic overflow" of the start; else it is known and waits
abbrev pub begun_in : Plan → List ℕ → List ℕ → OrRefused ℕ → After Sizes
begun_in p w h (refused r) = (w, h, Err r)
begun_in p w h (is x) = (append_in (clear_in w p.known) p.known 0 p.start 0 0, push_in h 0 (entry_to x p.start 0), Ok (sizes_of 1 1 0))

-- the start of a search, which is so far from the goal
unfoldable pub begin_in : Plan → List ℕ → List ℕ → After Sizes
unfolding push_in
begin_in p w h = begun_in p w h (distance_bits (distance_cells p.start p.goal))

-- more cells than are ever counted
abbrev pub no_bound : ℕ
no_bound = 0xFFFF_FFFF_FFFF_FFFF

-- from the start to the last step
unfoldable pub whole_in : Plan → List Row → List ℕ → List ℕ → After Step
unfolding begin_in run_in
whole_in p flags w h = let x = begin_in p w h in onward_in x.0 x.1 x.2 (run_in p flags no_bound)

-- ---- the way back

-- the cells from the start to that of record `at`, and then `later`, in so many steps at most, with n known records; none where the number of the record before is no known one's
unfoldable pub way_in : Plan → List ℕ → ℕ → ℕ → ℕ → List Cell → Option (List Cell)
unfolding cell_in raw_of word
way_in p w n zero at later = Some (cell_in w p.known at ∷ later)
way_in p w n (suc m) at later =
    let c = cell_in w p.known at in
    let b = before_in w p.known at in
    let further = way_in p w n m b (c ∷ later) in
    cond (same_cell c p.start) (Some (c ∷ later)) (cond (ltb b n) further None)

-- the cells from the start to that of record i
abbrev pub way_back : Plan → List ℕ → Sizes → ℕ → Option (List Cell)
way_back p w z i = way_in p w z.known z.count i []

-- how many they are
abbrev pub length_of : Option (List Cell) → Option ℕ
length_of None = None
length_of (Some cs) = Some (length cs)

-- what stands in the output once they are written
abbrev pub laid_in : Option (List Cell) → List ℕ → List ℕ
laid_in None l = l
laid_in (Some cs) l = cells_laid cs l

-- the answer and the output: BadWorkspace where there is no way, NoRoom 3 where it is too long; g is its cost, n the number of expansions
abbrev pub route_in : Option (List Cell) → ℕ → ℕ → List ℕ → Changed (Result Route Refusal)
route_in None g n l = changed (Err BadWorkspace) l
route_in (Some cs) g n l =
    cond (leb (length cs) (room_in l)) (changed (Ok (record { cells = length cs; cost = g; expansions = n })) (cells_laid cs l))
    (changed (Err (NoRoom room.Output)) l)

-- a search that has come to the cell of record i
abbrev pub answer_in : Plan → List ℕ → Sizes → ℕ → List ℕ → Changed (Result Route Refusal)
answer_in p w z i l = route_in (way_back p w z i) (g_in w p.known i) z.count l

-- ---- the end

-- the way back from the goal's record; BadWorkspace where the goal is not found
abbrev pub goal_in : Plan → List ℕ → Sizes → List ℕ → Option ℕ → Changed (Result Route Refusal)
goal_in p w z l (Some i) = answer_in p w z i l
goal_in p w z l None = changed (Err BadWorkspace) l

-- a refusal, or the goal; BadWorkspace where the search goes on
abbrev pub end_in : Plan → List ℕ → Result Step Refusal → List ℕ → Changed (Result Route Refusal)
end_in p w (Err r) l = changed (Err r) l
end_in p w (Ok (step.Arrived z)) l = goal_in p w z l (find_in w p.known z.known p.goal)
end_in p w (Ok (step.Going z)) l = changed (Err BadWorkspace) l

-- ---- what is asked: lengths and bounds alone

-- the workspace is long enough for its room, and the sizes are within it
pub record Sized (p : Plan) (w : List ℕ) (z : Sizes) : Type 0 where
  pub roomy : Roomy w p.known
  pub known : z.known ≤ p.known
  pub counted : z.count ≤ z.known

-- a search that has arrived has its sizes within the room
abbrev pub SizedEnd : Plan → List ℕ → Result Step Refusal → Type 0
SizedEnd p w (Err r) = Unit {0}
SizedEnd p w (Ok (step.Arrived z)) = Sized p w z
SizedEnd p w (Ok (step.Going z)) = Unit {0}

-- the way back from record i, which is known, is so many cells long, and the output has room for them
pub record Writable (p : Plan) (w : List ℕ) (z : Sizes) (i cells : ℕ) (output : List ℕ) : Type 0 where
  pub sized : Sized p w z
  pub below : i < z.known
  pub long : length_of (way_back p w z i) ≡ Some cells
  pub room : cells ≤ room_in output
