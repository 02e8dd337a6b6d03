-- What follows of a line: differences that are short fit 32 bits; the cells after the last one, sample by sample, as a loop meets them; and how many cells there are at most.
use Rattle.std.specs.Prelude.{Option, Some, None}
use mathlib.Core.Path.{◌≡◌, sym, ap, ◌∙◌}
use mathlib.Core.Bool.{Bool, true, false, cond}
use mathlib.Core.List.{List, [], ◌∷◌}
use Prim.Native.Nat.{ℕ, zero, suc, ◌+◌, ◌-◌, ◌≤◌, ◌<◌}
use native.Mathlib.Numerals.{add-one}
use native.Mathlib.Omega.{arith}
use lib.ListN.{length}
use Rattle.refusal.specs.declared.Cell.{Cell}
use Rattle.refusal.specs.declared.Coord.{Coord}
use Rattle.lattice.specs.Lattice.{Fitting}
use Rattle.distance.specs.Distance.{differences_fit}
use Rattle.distance.proofs.Laws.{differences-fit}
use Rattle.cell.specs.Cell.{same_cell}
use Rattle.line.specs.declared.Line.{Line}
use Rattle.line.specs.Line.{apart, are_short, sampled, ending, following, cells_after, cells_along}

-- ---- the differences

-- the test is that of the distance from the end to the start
pub short-fits : (s e : Coord) → are_short (apart s e) ≡ true → Fitting (apart s e)
unfolding are_short differences_fit
short-fits s e h = differences-fit e s h

-- ---- the cells after the last one

-- those of sample i and the later ones, and the end
unfoldable pub cells_from : Line → Cell → ℕ → List Cell
unfolding cells_after
cells_from l last i = cells_after l last i (l.steps + 1 - i)

pub along-from : (l : Line) → cells_along l ≡ l.start ∷ cells_from l l.start 1
unfolding cells_along cells_from
along-from l = let all : l.steps ≡ l.steps + 1 - 1 = omega arith in ap (λ (m : ℕ). l.start ∷ cells_after l l.start 1 m) all

from-sample : (l : Line) (last : Cell) (i : ℕ) → i ≤ l.steps → cells_from l last i ≡ following (sampled l last i) last (λ c. cells_from l c (i + 1))
unfolding cells_from cells_after
from-sample l last i h =
    let more : l.steps + 1 - i ≡ suc (l.steps + 1 - (i + 1)) = omega arith in
    ap (cells_after l last i) more
    ∙ ap (λ (j : ℕ). following (sampled l last i) last (λ c. cells_after l c j (l.steps + 1 - (i + 1)))) (sym (add-one i))

pub after-dropped : (l : Line) (last : Cell) (i : ℕ) → i ≤ l.steps → sampled l last i ≡ None → cells_from l last i ≡ cells_from l last (i + 1)
after-dropped l last i h e = from-sample l last i h ∙ ap (λ (s : Option Cell). following s last (λ c. cells_from l c (i + 1))) e

pub after-new : (l : Line) (last : Cell) (i : ℕ) {c : Cell} → i ≤ l.steps → sampled l last i ≡ Some c → cells_from l last i ≡ c ∷ cells_from l c (i + 1)
after-new l last i h e = from-sample l last i h ∙ ap (λ (s : Option Cell). following s last (λ c. cells_from l c (i + 1))) e

-- behind the last sample
pub after-samples : (l : Line) (last : Cell) (i : ℕ) → l.steps < i → cells_from l last i ≡ ending l last
unfolding cells_from cells_after
after-samples l last i h = let none : l.steps + 1 - i ≡ 0 = omega arith in ap (cells_after l last i) none

-- ---- how many cells there are

length-ending : (l : Line) (last : Cell) → length (ending l last) ≤ 1
length-ending l last = by-test (same_cell last l.end)
  where
    by-test : (t : Bool) → length (cond t [] (l.end ∷ [])) ≤ 1
    by-test true = omega arith
    by-test false = omega arith

length-after : (l : Line) (m i : ℕ) (last : Cell) → length (cells_after l last i m) ≤ m + 1
unfolding cells_after
length-after l zero i last = length-ending l last
length-after l (suc m) i last = by-sample (sampled l last i) (length-after l m (suc i))
  where
    by-sample : (s : Option Cell) → ((c : Cell) → length (cells_after l c (suc i) m) ≤ m + 1) → length (following s last (λ c. cells_after l c (suc i) m)) ≤ suc m + 1
    by-sample None h = omega (arith, h last)
    by-sample (Some c) h = omega (arith, h c)

-- one for the start, one for the end, and at most one a sample
pub length-along : (l : Line) → length (cells_along l) ≤ l.steps + 2
unfolding cells_along
length-along l = omega (arith, length-after l l.steps 1 l.start)
