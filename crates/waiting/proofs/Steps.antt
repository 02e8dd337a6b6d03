-- What holds after each step of a push and a pop: the least child, a hole that was dug, a hole that was filled.
use mathlib.Core.Path.{◌≡◌}
use Prim.Native.Nat.{ℕ, ◌+◌, ◌-◌, ◌*◌, ◌/◌, ◌≤◌, ◌<◌}
use Rattle.waiting.specs.Inner.Heap.{Heap}
use Rattle.waiting.proofs.Heap.{Hole, Moved, single, count}

-- c is a child of i, and has the least key of its children
pub record LeastChild (key : ℕ → ℕ) (size i c : ℕ) : Type 0 where
  pub from : 4 * i + 1 ≤ c
  pub to : c ≤ 4 * i + 4
  pub within : c < size
  pub least : (j : ℕ) → 0 < j → j < size → (j - 1) / 4 ≡ i → key c ≤ key j

-- the hole has gone from place 0 to r, which has no child
pub record Dug (key after : ℕ → ℕ) (size r : ℕ) : Type 0 where
  pub within : r < size
  pub childless : size ≤ 4 * r + 1
  pub hole : Hole after size r
  pub moved : Moved key after size 0 r

-- the hole at `start` is filled, and x is among the keys
pub record Risen (key after : ℕ → ℕ) (size start x : ℕ) : Type 0 where
  pub heap : Heap after size
  pub has : (y : ℕ) → count after size y + single (key start) y ≡ count key size y + single x y
