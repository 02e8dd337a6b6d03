-- A test that a room passed, and zeros by their number.
use Rattle.std.proofs.Common.{◌≡◌, ℕ, true, leb, List, length, replicate, ap, arith, leb-true}
use mathlib.Core.Bool.{and-eq-true_iff}
use Rattle.known.specs.Workspace.{is_room, zeros}
use Rattle.known.specs.Inner.Workspace.{Room}

pub room-tested : (n : ℕ) → is_room n ≡ true → Room n
room-tested n e =
    let tests = (and-eq-true_iff (leb 1 n) (leb n 65536)).0 e in
    record { least = omega (arith, leb-true 1 n tests.0); small = leb-true n 65536 tests.1 }

-- bytes of one number have the same zeros
pub zeros-same : (l m : List ℕ) → length m ≡ length l → zeros m ≡ zeros l
zeros-same l m long = ap (λ (n : ℕ). replicate n 0) long
