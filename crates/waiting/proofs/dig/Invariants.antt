-- The hole goes down as long as it has a child: step by step what is left to do leads to the same bytes.
use mathlib.Core.Path.{◌≡◌}
use Prim.Native.Nat.{ℕ, ◌-◌, ◌≤◌, ◌<◌}
use lib.ListN.{length}
use Rattle.waiting.specs.Inner.Sift.{dug_in}
use Rattle.waiting.proofs.dig.Given as goal

abbrev pub invariant-loop-hole : goal.invariant-loop-hole
invariant-loop-hole l = (length l.heap ≡ length l.initial.heap) × (l.hole < l.size) × ((m : ℕ) × (l.size - l.hole ≤ m) × (dug_in l.size l.initial.heap l.size 0 ≡ dug_in m l.heap l.size l.hole))

abbrev pub decreases-loop-hole : goal.decreases-loop-hole
decreases-loop-hole l = l.size - l.hole
