-- What a call of the search says, and what stands in the three lent buffers when it returns. Definitions only.
use Rattle.search.specs.declared.Route.{Route}
use Rattle.refusal.specs.declared.Refusal.{Refusal}
use Rattle.std.specs.Prelude.{List, ℕ, Result}

-- what is said, the known cells' buffer, the waiting entries' and the output
pub record Searched : Type 0 where
  pub said : Result Route Refusal
  pub known : List ℕ
  pub waiting : List ℕ
  pub output : List ℕ

-- this said, with these bytes in the three buffers
abbrev pub searched : Result Route Refusal → List ℕ → List ℕ → List ℕ → Searched
searched a w h l = record { said = a; known = w; waiting = h; output = l }
