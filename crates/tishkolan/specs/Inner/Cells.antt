-- Two cells that C hands over, or why not, for contracts inside. Definitions only.
use Rattle.std.specs.Prelude.{List, ℕ, Result, Ok, Err}
use Rattle.refusal.specs.declared.Cell.{Cell}
use Rattle.refusal.specs.declared.Refusal.{Refusal}
use Rattle.cell.specs.Bytes.{on_cells}

-- both cells, or the refusal
abbrev pub pair_of : List ℕ → List ℕ → Result (Cell × Cell) Refusal
pair_of l m = on_cells Err (λ a b. Ok (a, b)) l m
