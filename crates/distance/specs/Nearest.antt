-- What it is for an f64 to be the correctly rounded square root of another, as demand 2 asks. Definitions only.
use Rattle.std.specs.Prelude.{false, ℕ, T, Float}
use Rattle.std.specs.Float.{binary64}
use Rattle.std.specs.Float.Ieee.{fits}
use Rattle.std.specs.Float.Ieee.Exact.{HasValue}
use Rattle.std.specs.Float.Ieee.Positive.{num, den}
use Rattle.std.specs.Float.Ieee.Scale.{finite}
use Rattle.root.specs.Terms.{Nearer}

-- x is a whole number that is not below zero, and d is the f64 nearest to its square root: finite, with the sign +, and nearer to the root than every finite f64 of another size
pub record NearestRoot (x d : Float) : Type 0 where
  pub square : ℕ
  pub value : HasValue x false square 1
  pub representable : T (fits binary64 d)
  pub not_negative : HasValue d false (num d) (den d)
  pub nearest : (y : Float) → T (fits binary64 y) → T (finite y) → Nearer square d y
