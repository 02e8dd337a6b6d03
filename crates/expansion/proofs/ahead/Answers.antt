-- The distance is a cost, or it is refused.
use Rattle.std.specs.Prelude.{Ok}
use mathlib.Core.Path.{◌≡◌, sym, subst}
use Prim.Native.Nat.{ℕ}
use lib.Ieee.{Float, binary64, to_bits}
use Rattle.refusal.specs.declared.Coord.{Coord}
use Rattle.distance.specs.Distance.{distance_of}
use Rattle.search.specs.Costs.{Cost}
use Rattle.search.proofs.Costs.{distance-cost}
use Rattle.expansion.proofs.ahead.Goals as goal

ahead-is : (a b : Coord) (r : ℕ) (d : Float) → Ok d ≡ distance_of a b → r ≡ to_bits binary64 d → Cost r
ahead-is a b r d e h = subst Cost (sym h) (distance-cost a b d (sym e))

pub returns-clause-sound_ahead : goal.returns-clause-sound_ahead
returns-clause-sound_ahead c = ahead-is _ _ _ _ c.in_ok-distance_to.ensures c.bits.ensures
