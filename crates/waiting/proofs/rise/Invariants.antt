-- The hole goes up as long as e is less than its parent: step by step what is left to do leads to the same bytes.
use mathlib.Core.Path.{◌≡◌}
use Prim.Native.Nat.{ℕ, ◌≤◌, ◌<◌}
use lib.ListN.{length}
use Rattle.waiting.specs.Inner.Sift.{risen_in}
use Rattle.waiting.proofs.rise.Given as goal

abbrev pub invariant-loop-hole : goal.invariant-loop-hole
invariant-loop-hole l = (length l.heap ≡ length l.initial.heap) × (l.hole < l.size) × ((m : ℕ) × (l.hole ≤ m) × (risen_in l.start l.initial.heap l.start l.e ≡ risen_in m l.heap l.hole l.e))

abbrev pub decreases-loop-hole : goal.decreases-loop-hole
decreases-loop-hole l = l.hole
