-- What a ring and a shell are, without a walk: the cells that some number of steps to a neighbour reach. Definitions only.
-- `List.Memᴰ c cells` says that c is a member of cells: it is a place at which cells has c.
use Rattle.std.specs.Prelude.{◌≡◌, ℕ, zero, suc, ◌≤◌, ◌<◌, Ok}
use mathlib.Core.List.{List, [], ◌∷◌, Memᴰ}
use Rattle.refusal.specs.declared.Cell.{Cell}
use Rattle.cell.specs.Cell.{neighbors_of}

-- b is one of the neighbours of a, which has some
pub record Near (a b : Cell) : Type 0 where
  pub cells : List Cell
  pub answered : neighbors_of a ≡ Ok cells
  pub among : Memᴰ b cells

-- n steps, each to a neighbour, lead from a to b
pub data Steps (a : Cell) : ℕ → Cell → Type 0 where
  stay : {b : Cell} → b ≡ a → Steps a zero b
  onward : {n : ℕ} {b c : Cell} → Steps a n b → Near b c → Steps a (suc n) c

-- k or fewer steps lead there
abbrev pub Within : ℕ → Cell → Cell → Type 0
Within k a b = (n : ℕ) × (n ≤ k) × Steps a n b

-- k steps lead there, and no fewer do
abbrev pub Exactly : ℕ → Cell → Cell → Type 0
Exactly k a b = Steps a k b × ((n : ℕ) → n < k → Steps a n b → ⊥)

-- no cell stands twice in the list
pub data Distinct : List Cell → Type 0 where
  no_cells : Distinct []
  one_more : {c : Cell} {cs : List Cell} → (Memᴰ c cs → ⊥) → Distinct cs → Distinct (c ∷ cs)
