-- The ends of the range and what has no root, by computation. The known point of the scope document stands in one table with the others, in the top crate.
use Rattle.std.specs.Prelude.{Ok, Err}
use Rattle.std.proofs.Common.{◌≡◌, refl}
use lib.Ieee.{of_bits, to_bits}
use Rattle.refusal.specs.declared.Refusal.TheVariants.{OutOfRange}
use Rattle.root.specs.Root.{root_bits_of}

-- +0.0
root-of-zero : root_bits_of 0 ≡ Ok 0
unfolding root_bits_of of_bits to_bits
root-of-zero = refl

-- -0.0
root-of-minus-zero : root_bits_of 0x8000_0000_0000_0000 ≡ Err OutOfRange
unfolding root_bits_of of_bits
root-of-minus-zero = refl

-- 2 ^ 64, whose root is 2 ^ 32
root-of-the-last : root_bits_of 0x43F0_0000_0000_0000 ≡ Ok 0x41F0_0000_0000_0000
unfolding root_bits_of of_bits to_bits
root-of-the-last = refl

-- 2 ^ 64 + 4096, the next f64
root-past-the-last : root_bits_of 0x43F0_0000_0000_0001 ≡ Err OutOfRange
unfolding root_bits_of of_bits
root-past-the-last = refl

-- 0.5
root-of-a-half : root_bits_of 0x3FE0_0000_0000_0000 ≡ Err OutOfRange
unfolding root_bits_of of_bits
root-of-a-half = refl

-- infinity, and a NaN
root-of-infinity : root_bits_of 0x7FF0_0000_0000_0000 ≡ Err OutOfRange
unfolding root_bits_of of_bits
root-of-infinity = refl

root-of-a-nan : root_bits_of 0xFFF8_0000_0000_0001 ≡ Err OutOfRange
unfolding root_bits_of of_bits
root-of-a-nan = refl
