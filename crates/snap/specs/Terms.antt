-- The range of the coordinates that snap answers with. Definitions only.
use Rattle.std.specs.Prelude.{◌≡◌, Bool, true, ℤ, pos, negsuc}
use Rattle.refusal.specs.declared.Coord.{Coord}
use Rattle.lattice.specs.Lattice.{within}

-- from -2147483647 to 2147483647
abbrev pub bounded : ℤ → Bool
bounded = within (negsuc 2147483646) (pos 2147483647)

-- each coordinate is in that range
pub record Bounded (c : Coord) : Type 0 where
  pub in-x : bounded c.x ≡ true
  pub in-y : bounded c.y ≡ true
  pub in-z : bounded c.z ≡ true
