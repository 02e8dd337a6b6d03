-- Theorems about functions that stand between crates, which C does not call: what docs/PROMISES.md says of the search's memory, in words of specs/Inner.
-- The law behind each is the one that its proof names.
use Rattle.refusal.specs.declared.Refusal.{Refusal}
use Rattle.std.specs.Prelude.{Some, Result}
use mathlib.Core.List.{List, map}
use mathlib.Core.Path.{◌≡◌}
use Prim.Native.Nat.{ℕ, ◌<◌}
use Rattle.words.specs.Word.{Bytes}
use Rattle.cell.specs.Cell.{distance_cells}
use Rattle.cell.specs.Terms.{Words}
use Rattle.table.specs.Records.{Row, rows_of, flag_width}
use Rattle.search.specs.Plan.{distance_bits}
use Rattle.refusal.specs.Refusals.{cell_of}
use Rattle.search.specs.Search.{begin}
use Rattle.search_rows.specs.Inner.Rows.{Rows}
use Rattle.expansion.proofs.Simulates.{Simulates}
use Rattle.expansion.specs.Inner.Bytes.{Rooms, going_in}
use Rattle.expansion.specs.Inner.State.{problem_of, RunMeets}
use Rattle.expansion.specs.declared.Plan.{Plan}
use Rattle.expansion.specs.declared.Sizes.{Sizes}
use Rattle.expansion.specs.declared.Step.{Step}
use Rattle.astar.specs.Answer.{answered_in}
use Rattle.astar.specs.Inner.Answer.{way_to, shown, Ended}
use Rattle.astar.specs.Inner.Bytes.{begin_in, way_back, end_in, whole_in, SizedEnd}
use Rattle.astar.proofs as laws

-- In buffers with room, the start of a search over the bytes is the definition's start, and it leaves bytes.
pub begin-simulates :
    (p : Plan) (flags : List ℕ) (count : ℕ) (w h : List ℕ) (rooms : Rooms p.known p.waiting w h) (bytes : Bytes w) (heap-bytes : Bytes h)
    (words : Words p.start)
    → let P = problem_of p flags count in Simulates p flags count w h (going_in (begin_in p w h)) (begin P (distance_bits (distance_cells p.start p.goal)))
begin-simulates = laws.BeginLaws.begin-simulates

-- In a workspace with rows, the way back from a known record over the bytes has the cells that the definition traces.
pub way-back :
    (p : Plan) (w : List ℕ) (n : ℕ) (rows : Rows w p.known n) (bytes : Bytes w) (z : Sizes) (i : ℕ) → n ≡ z.known → i < n
    → way_back p w z i ≡ Some (map cell_of (way_to p w z i))
way-back = laws.WayLaws.way-back

-- Where a search has ended, the answer and the output that the bytes give are those of the definition's result.
pub end-shown :
    (p : Plan) (flags w : List ℕ) (count : ℕ) (r : Result Step Refusal) (l : List ℕ) → Ended p w r → Bytes w → Words p.goal
    → end_in p w r l ≡ answered_in (shown (problem_of p flags count) p w r) l
end-shown = laws.EndLaws.end-shown

-- In buffers with room, whatever they hold, a whole search that arrives has its sizes within the room.
pub whole-sized :
    (p : Plan) (flags : List Row) (w h w' h' : List ℕ) (r : Result Step Refusal) → Rooms p.known p.waiting w h → (w', h', r) ≡ whole_in p flags w h
    → SizedEnd p w' r
whole-sized = laws.WholeLaws.whole-sized

-- In buffers with room, a whole search over the bytes ends where the definition ends after some pops from its start.
pub whole-ran :
    (p : Plan) (flags : List ℕ) (count : ℕ) (w h : List ℕ) (rooms : Rooms p.known p.waiting w h) (bytes : Bytes w) (heap-bytes : Bytes h)
    (words : Words p.start) (w' h' : List ℕ) (r : Result Step Refusal) → (w', h', r) ≡ whole_in p (rows_of flag_width flags count) w h
    → let P = problem_of p flags count in RunMeets P p w h w' h' r (begin P (distance_bits (distance_cells p.start p.goal)))
whole-ran = laws.WholeLaws.whole-ran
