-- A heap with a hole: what its keys are around the hole, after one is put there, and how often each of them is there.
use mathlib.Core.Path.{◌≡◌}
use mathlib.Core.Logic.{◌≢◌}
use mathlib.Core.Bool.{cond}
use Prim.Native.Nat.{ℕ, zero, suc, ◌+◌, ◌-◌, ◌/◌, ◌≤◌, ◌<◌}
use lib.Dec.{eqb}

-- a heap but for the place i, which is to be filled: its parent is at most its children
pub record Hole (key : ℕ → ℕ) (size i : ℕ) : Type 0 where
  pub order : (j : ℕ) → 0 < j → j < size → j ≢ i → (j - 1) / 4 ≢ i → key ((j - 1) / 4) ≤ key j
  pub across : (j : ℕ) → 0 < j → j < size → (j - 1) / 4 ≡ i → 0 < i → key ((i - 1) / 4) ≤ key j

-- x is at most each child of i
abbrev pub Below : (ℕ → ℕ) → ℕ → ℕ → ℕ → Type 0
Below key size i x = (j : ℕ) → 0 < j → j < size → (j - 1) / 4 ≡ i → x ≤ key j

-- x is at least the parent of i
abbrev pub Above : (ℕ → ℕ) → ℕ → ℕ → Type 0
Above key i x = 0 < i → key ((i - 1) / 4) ≤ x

-- the keys after x is put at place i
pub record Replaced (key after : ℕ → ℕ) (i x : ℕ) : Type 0 where
  pub new : after i ≡ x
  pub others : (j : ℕ) → j ≢ i → after j ≡ key j

-- 1 where the two are equal, else 0
unfoldable pub single : ℕ → ℕ → ℕ
single x y = cond (eqb x y) 1 0

-- how many of the first n keys are y
abbrev pub count : (ℕ → ℕ) → ℕ → ℕ → ℕ
count key zero y = 0
count key (suc n) y = count key n y + single (key n) y

-- the hole went from `start` to i: but for what stands in the hole, each key is there as often as before
abbrev pub Moved : (ℕ → ℕ) → (ℕ → ℕ) → ℕ → ℕ → ℕ → Type 0
Moved key after size start i = (y : ℕ) → count after size y + single (key start) y ≡ count key size y + single (after i) y
