-- "Verdict 0, or the first failing: 13, 14, 15; 20 empty; 21 wrong start; then per index 22 not a neighbour, 23 blocked; 24 wrong goal; 25 wrong cost bits. A mixed-parity cell has no
-- neighbours. An edge cell's neighbours are here those of the 14 whose coordinates fit i32, without wrapping." The scope document's section "The route checker". Definitions only.
use Rattle.std.specs.Prelude.{Bool, false, cond, ◌&&◌, ◌||◌, List, [], ◌∷◌, ℕ, eqb, ltb, pos, Float, length, Option, Some, None}
use Rattle.std.specs.Bool.{beq}
use Rattle.std.specs.Float.{fin, binary64}
use Rattle.std.specs.Float.Ieee.{add, to_bits}
use Rattle.refusal.specs.declared.Coord.{Coord}
use Rattle.refusal.specs.declared.Cell.{Cell}
use Rattle.lattice.specs.Lattice.{is_odd, is_lattice_point, neighbor_places, fits32}
use Rattle.distance.specs.Steps.{root_three, two_float}
use Rattle.cell.specs.Cell.{frame_of, resolution_of, coord_of, x_of, packed, same_cell}
use Rattle.cell.specs.Bytes.{cell_at, cell_width}
use Rattle.cell.specs.Lists.{is_list, cells_of}
use Rattle.table.specs.Records.{Row, held_of, rows_of, is_sound, flag_width, Layer}
use Rattle.table.specs.Flags.{is_blocked}
use Rattle.general.specs.Refuse.{refuse_if, refuse_unless}

-- ---- one step

-- each coordinate fits 32 bits
abbrev pub fitting : Coord → Bool
fitting c =
    fits32 c.x && (fits32 c.y && fits32 c.z)

-- whether a cell is one of those at these places, as plain cells of a's frame and resolution
unfoldable pub among_places : Cell → Cell → List Coord → Bool
unfolding packed
among_places a b [] = false
among_places a b (c ∷ cs) = (fitting c && same_cell (packed (frame_of a) (resolution_of a) c 0 0) b) || among_places a b cs

-- b is one of the neighbours of a
unfoldable pub is_step : Cell → Cell → Bool
unfolding is_lattice_point coord_of neighbor_places among_places
is_step a b = is_lattice_point (coord_of a) && among_places a b (neighbor_places (coord_of a))

-- what the step costs: the root of 3 where it changes the parity, 2.0 where it keeps it
unfoldable pub cost_between : Cell → Cell → Float
cost_between a b = cond (beq (is_odd (x_of a)) (is_odd (x_of b))) two_float root_three

-- ---- blocked cells

-- whether the flags that are kept of a cell block it
abbrev pub blocked_by : Option ℕ → Bool
blocked_by None = false
blocked_by (Some flags) = is_blocked flags

-- rule 0 is free, 1 avoids blocked cells
unfoldable pub is_shut : ℕ → List Row → Cell → Bool
unfolding held_of
is_shut rule rows c = eqb rule 1 && blocked_by (held_of c rows)

-- ---- a list of cells

-- where a list leads, and what it costs; or the verdict on its first wrong step
pub data Walk : Type 0 where
  stopped : ℕ → Walk
  arrived : Cell → Float → Walk

-- from a cell on, at a cost so far; no cell is tested before it is entered
unfoldable pub walk_from : ℕ → List Row → Cell → Float → List Cell → Walk
unfolding is_step is_shut cost_between
walk_from rule rows a s [] = arrived a s
walk_from rule rows a s (b ∷ cs) =
    refuse_unless (is_step a b) (stopped 22)
    (refuse_if (is_shut rule rows b) (stopped 23)
    (walk_from rule rows b (add binary64 s (cost_between a b)) cs))

-- "24 wrong goal; 25 wrong cost bits": where a list leads, beside the goal and the 64 bits of the claimed cost
abbrev pub judge_walk : Cell → ℕ → Walk → ℕ
judge_walk goal cost (stopped n) = n
judge_walk goal cost (arrived c s) = refuse_unless (same_cell c goal) 24 (refuse_unless (eqb (to_bits binary64 s) cost) 25 0)

-- the verdict on a list of cells: "20 empty; 21 wrong start; then per index 22 not a neighbour, 23 blocked; 24 wrong goal; 25 wrong cost bits"
unfoldable pub judge_cells : ℕ → List Row → Cell → Cell → ℕ → List Cell → ℕ
unfolding walk_from
judge_cells rule rows start goal cost [] = 20
judge_cells rule rows start goal cost (c ∷ cs) = refuse_unless (same_cell c start) 21 (judge_walk goal cost (walk_from rule rows c (fin false 0 (pos 0)) cs))

-- ---- the verdict on a list of bytes, in a flag layer, under a rule

-- the list's length is a multiple of 16, and the two cells have 16 bytes each
abbrev pub are_lists : List ℕ → List ℕ → List ℕ → Bool
are_lists route start goal = is_list route && (eqb (length start) cell_width && eqb (length goal) cell_width)

-- a list that is to be judged, the ends that it should have, all as bytes, and the bits of the cost that is claimed for it
pub record Claim : Type 0 where
  pub cells : List ℕ
  pub start : List ℕ
  pub goal : List ℕ
  pub cost : ℕ

-- the claim of these bytes and this cost
abbrev pub claim : List ℕ → List ℕ → List ℕ → ℕ → Claim
claim cells start goal cost = record { cells = cells; start = start; goal = goal; cost = cost }

-- "Verdict 0, or the first failing: 13, 14, 15", and then the verdict on the cells
unfoldable pub verdict_of : Claim → Layer → ℕ → ℕ
unfolding cell_at cells_of rows_of is_sound judge_cells
verdict_of c flags rule =
    refuse_unless (are_lists c.cells c.start c.goal) 13
    (refuse_unless (is_sound flag_width flags.table flags.count) 14
    (refuse_unless (ltb rule 2) 15
    (judge_cells rule (rows_of flag_width flags.table flags.count) (cell_at c.start 0) (cell_at c.goal 0) c.cost (cells_of c.cells))))

-- ---- the choice between two lists

-- "the sent list itself if accepted, else the homing list itself if that is accepted, else an empty part of the sent one": 1, 2, 0, by the verdicts on the two
unfoldable pub choice_of : ℕ → ℕ → ℕ
choice_of sent homing = cond (eqb sent 0) 1 (cond (eqb homing 0) 2 0)
