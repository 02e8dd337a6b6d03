-- The ends of the range and what is no number, by computation. The known points of the scope document stand in one table, in the top crate.
use Rattle.std.specs.Prelude.{Ok, Err}
use mathlib.Core.Path.{◌≡◌, refl}
use mathlib.Core.Bool.{true, false}
use lib.IntN.{pos, negsuc}
use lib.Ieee.{Float, nan, inf, fin, to_bits}
use Rattle.refusal.specs.declared.Refusal.TheVariants.{OutOfRange, InvalidParity}
use Rattle.lattice.specs.Lattice.{at}
use Rattle.snap.specs.Snap.{point, snap_of, physical_of, physical_bits_of}

abbrev nought : Float
nought = fin false 0 (pos 0)

pub last-below : snap_of (point nought nought (fin true 1073741823 (pos 1))) 0 ≡ Ok (at (pos 0) (pos 0) (negsuc 2147483645))
unfolding snap_of
last-below = refl

pub past-below : snap_of (point nought nought (fin true 4294967293 (negsuc 0))) 0 ≡ Err OutOfRange
unfolding snap_of
past-below = refl

pub no_number : snap_of (point nought nan nought) 0 ≡ Err OutOfRange
unfolding snap_of
no_number = refl

pub infinite : snap_of (point nought nought (inf false)) 0 ≡ Err OutOfRange
unfolding snap_of
infinite = refl

pub finest : snap_of (point nought nought nought) 255 ≡ Ok (at (pos 0) (pos 0) (pos 0))
unfolding snap_of
finest = refl

-- (0.125, 0.125, 0.125) at resolution 3
pub eighths : snap_of (point (fin false 1 (negsuc 2)) (fin false 1 (negsuc 2)) (fin false 1 (negsuc 2))) 3 ≡ Ok (at (pos 1) (pos 1) (pos 1))
unfolding snap_of
eighths = refl

pub back : physical_of (at (negsuc 2) (pos 1) (pos 2147483647)) ≡ Ok (point (fin true 3 (pos 0)) (fin false 1 (pos 0)) (fin false 2147483647 (pos 0)))
unfolding physical_of
back = refl

pub mixed : physical_of (at (pos 1) (pos 0) (pos 0)) ≡ Err (InvalidParity (at (pos 1) (pos 0) (pos 0)))
unfolding physical_of
mixed = refl

pub back-bits : physical_bits_of (at (negsuc 1) (pos 0) (pos 2)) ≡ Ok (record { x = 0xC000_0000_0000_0000; y = 0; z = 0x4000_0000_0000_0000 })
unfolding physical_bits_of to_bits
back-bits = refl
