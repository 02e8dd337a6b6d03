-- Known points of tables: the largest has room for 1,024 records; and flags other than bit 0 block no cell.
use mathlib.Core.Bool.{false}
use mathlib.Core.Path.{◌≡◌, refl}
use Prim.Native.Nat.{ℕ}
use lib.ListN.{replicate}
use Rattle.table.specs.Flags.{is_blocked}
use Rattle.table.specs.Records.{room_for}

-- the largest has room for 1,024, of either kind, and for no more
pub most-flags : room_for 20 (replicate 20480 0) ≡ 1024
most-flags = refl

pub most_values : room_for 24 (replicate 24600 0) ≡ 1024
most_values = refl

abbrev pub no_fly : ℕ
no_fly = 2

abbrev pub water : ℕ
water = 4

abbrev pub boundary : ℕ
boundary = 8

-- so the other flags, alone, block none
pub no-fly-enters : is_blocked no_fly ≡ false
no-fly-enters = refl

pub water-enters : is_blocked water ≡ false
water-enters = refl

pub boundary-enters : is_blocked boundary ≡ false
boundary-enters = refl
