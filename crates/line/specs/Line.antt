-- "`trace_line`: equal ends give one cell; then parity of start, of end; then CoordOverflow. Steps = 2 * largest absolute difference; sample i uses t = i/steps, coordinate s + t*d,
-- snapped at 0; an OutOfRange sample is skipped. A cell equal to the one before is dropped; the end is appended if not last." As in path.rs the samples go from 1 to the steps, a
-- difference is end less start, and a sampled cell is plain and has the start's frame and resolution. Each float operation rounds once. Definitions only.
use Rattle.std.specs.Prelude.{Bool, true, false, cond, ◌&&◌, List, [], ◌∷◌, ℕ, zero, suc, ◌*◌, max, ℤ, pos, nat_abs, ◌-ℤ◌, Float, Result, Ok, Err, Option, Some, None}
use Rattle.std.specs.Float.{binary64}
use Rattle.std.specs.Float.Ieee.{of_int, add, mul, div}
use Rattle.refusal.specs.declared.Cell.{Cell}
use Rattle.refusal.specs.declared.Coord.{Coord}
use Rattle.refusal.specs.declared.Refusal.{Refusal}
use Rattle.refusal.specs.declared.Refusal.TheVariants.{CoordOverflow}
use Rattle.lattice.specs.Lattice.{at, parity_of, on_parities, fits32}
use Rattle.snap.specs.declared.Point.{Point}
use Rattle.snap.specs.Snap.{point, snap_of}
use Rattle.cell.specs.Cell.{frame_of, resolution_of, coord_of, same_cell, plain_at}
use Rattle.cell.specs.Bytes.{from_bytes_of, on_cells}
use Rattle.general.specs.Changed.{Changed}
use Rattle.cell_list.specs.Listing.{Listing, cells, refused, listed_in}
use Rattle.line.specs.declared.Line.{Line}
use Rattle.general.specs.Refuse.{refuse_if}

-- ---- the differences

-- the differences on the three axes: end less start
abbrev pub apart : Coord → Coord → Coord
apart s e = at (e.x -ℤ s.x) (e.y -ℤ s.y) (e.z -ℤ s.z)

-- each of the three is a number of 32 bits
unfoldable pub are_short : Coord → Bool
are_short d = fits32 d.x && (fits32 d.y && fits32 d.z)

-- twice the largest absolute difference
unfoldable pub steps_of : Coord → ℕ
steps_of d = 2 * max (nat_abs d.x) (max (nat_abs d.y) (nat_abs d.z))

-- what is worked out of a line's ends, once for all samples
abbrev pub line_between : Cell → Cell → Line
line_between s e = let d = apart (coord_of s) (coord_of e) in record { start = s; end = e; from = coord_of s; by = d; steps = steps_of d }

-- ---- a sample

-- s + t*d
unfoldable pub sample_of : ℤ → ℤ → Float → Float
unfolding of_int add mul
sample_of s d t = add binary64 (of_int binary64 s) (mul binary64 t (of_int binary64 d))

-- the physical point on the line at t, from 0 at the start to 1 at the end
unfoldable pub sample_point : Line → Float → Point
unfolding sample_of
sample_point l t = point (sample_of l.from.x l.by.x t) (sample_of l.from.y l.by.y t) (sample_of l.from.z l.by.z t)

-- i/steps
unfoldable pub fraction_of : ℕ → ℕ → Float
unfolding of_int div
fraction_of i n = div binary64 (of_int binary64 (pos i)) (of_int binary64 (pos n))

-- a sample that is OutOfRange or the cell before again is dropped, any other is a new cell
abbrev pub sampled_as : Line → Cell → Result Coord Refusal → Option Cell
sampled_as l last (Err r) = None
sampled_as l last (Ok c) =
    let next = plain_at (frame_of l.start) (resolution_of l.start) c in
    cond (same_cell next last) None (Some next)

-- sample i, where the last cell of the list is given
unfoldable pub sampled : Line → Cell → ℕ → Option Cell
unfolding sample_point fraction_of snap_of
sampled l last i = sampled_as l last (snap_of (sample_point l (fraction_of i l.steps)) 0)

-- ---- the list

-- the end, if not last
abbrev pub ending : Line → Cell → List Cell
ending l last = cond (same_cell last l.end) [] (l.end ∷ [])

-- what a sample adds, and what follows the cell that is last then
abbrev pub following : Option Cell → Cell → (Cell → List Cell) → List Cell
following None last rest = rest last
following (Some c) last rest = c ∷ rest c

-- the cells after the last one: those of m samples from sample i on, and the end
unfoldable pub cells_after : Line → Cell → ℕ → ℕ → List Cell
unfolding sampled
cells_after l last i zero = ending l last
cells_after l last i (suc m) = following (sampled l last i) last (λ c. cells_after l c (suc i) m)

-- all cells of a line: the start, those of the samples from 1 to the steps, and the end
unfoldable pub cells_along : Line → List Cell
unfolding cells_after
cells_along l = l.start ∷ cells_after l l.start 1 l.steps

-- ---- the answer

-- the cells of a line whose differences are numbers of 32 bits, else CoordOverflow
abbrev pub line_short : Bool → Line → Listing
line_short true l = cells (cells_along l)
line_short false l = refused CoordOverflow

-- "equal ends give one cell; then parity of start, of end; then CoordOverflow"; else the cells of the line
unfoldable pub line_of : Cell → Cell → Listing
unfolding parity_of are_short steps_of cells_along
line_of s e =
    refuse_if (same_cell s e) (cells (s ∷ []))
    (on_parities refused (λ p q. line_short (are_short (line_between s e).by) (line_between s e)) (parity_of (coord_of s)) (parity_of (coord_of e)))

-- the line between the cells of two lists of bytes, listed in a buffer
unfoldable pub trace_in : List ℕ → List ℕ → List ℕ → Changed (Result ℕ Refusal)
unfolding from_bytes_of line_of
trace_in s e l = listed_in (on_cells refused line_of s e) l
