-- Whether a cell is among others: by its 128 bits, so for cells of two words each it says whether the cell is a member.
use mathlib.Core.Path.{◌≡◌, refl, ap, ◌∙◌}
use mathlib.Core.Bool.{Bool, true, false, ◌||◌}
use mathlib.Core.List.{List, [], ◌∷◌, Memᴰ}
use borrow.Author.Tests.{eq-eqb}
use Rattle.refusal.specs.declared.Cell.{Cell}
use Rattle.refusal.specs.Refusals.{raw_of}
use Rattle.cell.specs.Cell.{same_cell}
use Rattle.cell.specs.Terms.{Words}
use Rattle.cell.proofs.Laws.{same-cell}
use Rattle.ring.specs.Ring.{is_among}

or-true : (b : Bool) → (b || true) ≡ true
or-true true = refl
or-true false = refl

-- a member is among them
pub among-member : (c : Cell) (cells : List Cell) → Memᴰ c cells → is_among c cells ≡ true
unfolding is_among
among-member c [] x' = elim x' [ ]
among-member c (d ∷ ds) (Memᴰ.head e) = ap (λ (b : Bool). b || is_among c ds) (eq-eqb (raw_of c) (raw_of d) (ap raw_of e))
among-member c (d ∷ ds) (Memᴰ.tail m) = ap (λ (b : Bool). same_cell c d || b) (among-member c ds m) ∙ or-true (same_cell c d)

-- what is no member is not
pub among_none : (c : Cell) (cells : List Cell) → Words c → ((d : Cell) → Memᴰ d cells → Words d) → (Memᴰ c cells → ⊥) → is_among c cells ≡ false
unfolding is_among
among_none c [] words all none = refl
among_none c (d ∷ ds) words all none = by_first (same_cell c d) refl (among_none c ds words (λ f m. all f (Memᴰ.tail m)) (λ m. none (Memᴰ.tail m)))
  where
    by_first : (b : Bool) → same_cell c d ≡ b → is_among c ds ≡ false → (same_cell c d || is_among c ds) ≡ false
    by_first true e rest = absurd (none (Memᴰ.head (same-cell c d words (all d (Memᴰ.head refl)) e)))
    by_first false e rest = ap (λ (b : Bool). b || is_among c ds) e ∙ rest
