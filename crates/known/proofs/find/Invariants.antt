-- What is left to seek leads to the same answer, and the bound falls with each link.
use Rattle.std.proofs.Common.{◌≡◌, ℕ, ◌<◌, ◌≤◌}
use Rattle.known.specs.Inner.Seek.{seek_in, find_in}
use Rattle.known.proofs.find.Given as goal

abbrev pub invariant-loop-bound : goal.invariant-loop-bound
invariant-loop-bound l = (l.bound ≤ l.count) × ((m : ℕ) × (l.bound < m) × (find_in l.workspace l.room l.count l.c ≡ seek_in m l.workspace l.room l.c l.bound l.link))

abbrev pub decreases-loop-bound : goal.decreases-loop-bound
decreases-loop-bound l = l.bound
