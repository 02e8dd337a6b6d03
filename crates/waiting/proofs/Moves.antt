-- What holds while the hole goes up, and while it goes down.
use Prim.Native.Nat.{ℕ, ◌-◌, ◌/◌, ◌<◌}
use native.Mathlib.Omega.{arith}
use Rattle.waiting.proofs.Heap.{Hole, Below, Above, Replaced, Moved}
use Rattle.waiting.proofs.Steps.{LeastChild, Risen}
use Rattle.waiting.proofs.Holes.{moved_on, moved-end, filled, hole-up, below_up, hole-down}

-- the hole came from a, and x is to fill it
pub record Rising (start key : ℕ → ℕ) (size a hole x : ℕ) : Type 0 where
  pub within : hole < size
  pub open_at : Hole key size hole
  pub below : Below key size hole x
  pub moved : Moved start key size a hole

module _ (start key after : ℕ → ℕ) (size a i x : ℕ) (r : Rising start key size a i x) where
  pub rises : 0 < i → x < key ((i - 1) / 4) → Replaced key after i (key ((i - 1) / 4)) → Rising start after size a ((i - 1) / 4) x
  rises inner less u =
      record {
        within = omega (arith, r.within);
        open_at = hole-up key after size i r.open_at inner r.within u;
        below = below_up key after size i r.open_at inner r.within u x less;
        moved = moved_on start key after size a i ((i - 1) / 4) r.moved u (omega arith) r.within;
      }

  pub risen : Above key i x → Replaced key after i x → Risen start after size a x
  risen above u =
      record {
        heap = filled key after size i x r.open_at r.below above u;
        has = λ y. moved-end start key after size a i x r.moved u r.within y;
      }

-- the hole came from place 0
pub record Digging (start key : ℕ → ℕ) (size hole : ℕ) : Type 0 where
  pub within : hole < size
  pub open_at : Hole key size hole
  pub moved : Moved start key size 0 hole

pub digs : (start key after : ℕ → ℕ) (size i c : ℕ) → Digging start key size i → LeastChild key size i c → Replaced key after i (key c) → Digging start after size c
digs start key after size i c r child u =
    record {
      within = child.within;
      open_at = hole-down key after size i r.open_at c child u;
      moved = moved_on start key after size 0 i c r.moved u (omega (arith, child.from)) r.within;
    }
