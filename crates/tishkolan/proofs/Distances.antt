-- Demand 2 of the two distances that C calls, over the contracts that Rattle made of the source: where the refusal told is 0, the bits told are those of the f64 nearest to the true
-- square root of the sum of the squares, each square and sum rounded in source order (`lattice-distance-nearest`, `cell-distance-nearest`).
use Rattle.std.specs.Prelude.{Float, Result, Ok, Err}
use Rattle.refusal.specs.declared.Refusal.{Refusal}
use Rattle.refusal.specs.declared.Cell.{Cell}
use mathlib.Core.Path.{◌≡◌, refl, sym, ap, subst}
use mathlib.Core.List.{List}
use Prim.Native.Nat.{ℕ}
use lib.Ieee.{binary64}
use lib.Ieee.Bits.{of_bits-to_bits}
use Rattle.refusal.specs.declared.Coord.{Coord}
use Rattle.refusal.proofs.Numbers.{refused-number}
use Rattle.distance.specs.Distance.{squared_distance, distance_of}
use Rattle.distance.specs.Nearest.{NearestRoot}
use Rattle.distance.proofs.Nearest.{distance-nearest}
use Rattle.cell.specs.Cell.{coord_of, distance_cells}
use Rattle.cell.specs.Bytes.{cell_at, from_bytes_of, by_cell}
use Rattle.cell_list.proofs.ReadBack.{read_cell}
use Rattle.face.specs.declared.BitsTold.{BitsTold}
use Rattle.face.specs.Told.{no_bits, of_distance}
use Rattle.face.specs.Cells.{distance_told}
use Rattle.tishkolan.proofs.Calls.{LatticeDistance, first_place, second_place, CellDistance, first_cell, second_cell}
use Rattle.face.specs.Terms.{Nearest, CellsNearest}

told-nearest : (a b : Coord) → (of_distance (distance_of a b)).refusal.number ≡ 0 → Nearest a b (of_distance (distance_of a b)).bits
told-nearest a b = by_answer (distance_of a b) refl
  where
    by_answer : (d : Result Float Refusal) → distance_of a b ≡ d → (of_distance d).refusal.number ≡ 0 → Nearest a b (of_distance d).bits
    by_answer (Err r) e h = absurd (refused-number r h)
    by_answer (Ok d) e h =
        let n = distance-nearest a b d e in subst (NearestRoot (squared_distance a b)) (sym (of_bits-to_bits binary64 d n.representable)) n

-- `tishkolan_lattice_distance`: the six numbers are the two places
pub lattice-distance-nearest : (call : LatticeDistance) → call.told.refusal.number ≡ 0 → Nearest (first_place call) (second_place call) call.told.bits
lattice-distance-nearest call h =
    subst (λ (x : BitsTold). x.refusal.number ≡ 0 → Nearest (first_place call) (second_place call) x.bits) (sym call.meets) (told-nearest (first_place call) (second_place call)) h

-- what is told of two cells, or of the refusal of either
abbrev said : Result Cell Refusal → Result Cell Refusal → BitsTold
said x y = by_cell no_bits (λ a. by_cell no_bits (λ b. of_distance (distance_cells a b)) y) x

cells-told-nearest : (first second : List ℕ) → (distance_told first second).refusal.number ≡ 0 → CellsNearest first second (distance_told first second).bits
unfolding distance_told
cells-told-nearest first second = by (from_bytes_of first) (from_bytes_of second) refl refl
  where
    by : (x y : Result Cell Refusal) → from_bytes_of first ≡ x → from_bytes_of second ≡ y → (said x y).refusal.number ≡ 0 → CellsNearest first second (said x y).bits
    by (Err r) y e f h = absurd (refused-number r h)
    by (Ok a) (Err r) e f h = absurd (refused-number r h)
    by (Ok a) (Ok b) e f h =
        let one = read_cell first a e in
        let other = read_cell second b f in
        record {
          first_cell = one.0;
          second-cell = other.0;
          nearest = subst (λ (p : Coord). Nearest p (coord_of (cell_at second 0)) (said (Ok a) (Ok b)).bits) (sym (ap coord_of one.1))
              (subst (λ (q : Coord). Nearest (coord_of a) q (said (Ok a) (Ok b)).bits) (sym (ap coord_of other.1)) (told-nearest (coord_of a) (coord_of b) h));
        }

-- `tishkolan_cell_distance`: of the bytes that were lent
pub cell-distance-nearest : (call : CellDistance) → call.told.refusal.number ≡ 0 → CellsNearest (first_cell call) (second_cell call) call.told.bits
cell-distance-nearest call h =
    subst (λ (x : BitsTold). x.refusal.number ≡ 0 → CellsNearest (first_cell call) (second_cell call) x.bits) (sym call.meets) (cells-told-nearest (first_cell call) (second_cell call)) h
