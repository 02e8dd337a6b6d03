-- How much a search has left to do, by its sizes: what bounds the number of its pops. Definitions only.
use Prim.Native.Nat.{ℕ, ◌+◌, ◌-◌, ◌*◌}
use Rattle.expansion.specs.declared.Plan.{Plan}
use Rattle.expansion.specs.declared.Sizes.{Sizes}

module _ (p : Plan) where
  -- what is left to do: each count takes one entry and adds fourteen at most, each skip takes one
  abbrev pub left_in : Sizes → ℕ
  left_in z = 15 * (p.known - z.count) + z.waiting
