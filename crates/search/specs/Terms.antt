-- What theorems say of a search: what refusal 7 carries, ends between which there is a search, and cells that lead from one to the other. Definitions only.
use Rattle.std.specs.Prelude.{true, false, List, [], ◌∷◌, ◌≡◌, ℕ, ◌+◌, eqb}
use Rattle.refusal.specs.declared.Spent.{Spent}
use Rattle.refusal.specs.declared.Cell.{Cell}
use Rattle.refusal.specs.Refusals.{raw_of, cell_of}
use Rattle.lattice.specs.Lattice.{is_lattice_point}
use Rattle.cell.specs.Cell.{coord_of}
use Rattle.cell.specs.Terms.{Words}
use Rattle.route.specs.Accepted.{Step}
use Rattle.search.specs.Search.{Problem, plus}

-- what refusal 7 carries under a limit: the limit, and one expansion more
pub record OneBeyond (limit : ℕ) (s : Spent) : Type 0 where
  pub limit-told : s.limit ≡ limit
  pub expansions-told : s.expansions ≡ limit + 1

-- two lattice points that are not the same: there is a search between them
pub record Apart (s e : Cell) : Type 0 where
  pub elsewhere : eqb (raw_of s) (raw_of e) ≡ false
  pub start-point : is_lattice_point (coord_of s) ≡ true
  pub goal-point : is_lattice_point (coord_of e) ≡ true

module _ (P : Problem) (Beside : ℕ → ℕ → Type 0) where
  -- from a cell at a cost so far: cells beside each other, none of them shut, each at the cost of the step to it
  pub data Leads : ℕ → ℕ → List ℕ → ℕ → ℕ → Type 0 where
    here : {c g : ℕ} → Leads c g [] c g
    onward : {c g n last total : ℕ} {later : List ℕ} → Beside c n → P.blocked n ≡ false → Leads n (plus g (P.cost c n)) later last total → Leads c g (n ∷ later) last total

  -- a list that begins at the start, at no cost, and leads to a cell
  pub record Route (last total : ℕ) (cells : List ℕ) : Type 0 where
    pub later : List ℕ
    pub begins : cells ≡ P.start ∷ later
    pub leads : Leads P.start 0 later last total

-- a cell of 128 bits that is a step away
pub record Beside (c n : ℕ) : Type 0 where
  pub words : Words (cell_of n)
  pub step : Step (cell_of c) (cell_of n)
