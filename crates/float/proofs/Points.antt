-- Known points, by computation.
use Rattle.std.proofs.Common.{◌≡◌, ℕ, true, false, ltb, pos, negsuc, refl}
use lib.Ieee.{binary64, of_bits, lt, nan_bits}
use Rattle.float.specs.Round.{whole_away}
use Rattle.float.specs.TotalOrder.{equals, numbers, classes, nans, total_order, total_key}

-- ---- rounding, on patterns
pub half : whole_away (of_bits binary64 0x3FE0_0000_0000_0000) ≡ pos 1
unfolding whole_away of_bits
half = refl

pub minus-half : whole_away (of_bits binary64 0xBFE0_0000_0000_0000) ≡ negsuc 0
unfolding whole_away of_bits
minus-half = refl

pub two-and-a-half : whole_away (of_bits binary64 0x4004_0000_0000_0000) ≡ pos 3
unfolding whole_away of_bits
two-and-a-half = refl

-- the number next below a half, which the sum with a half would round up to one
pub below_half : whole_away (of_bits binary64 0x3FDF_FFFF_FFFF_FFFF) ≡ pos 0
unfolding whole_away of_bits
below_half = refl

pub minus-quarter : whole_away (of_bits binary64 0xBFD0_0000_0000_0000) ≡ pos 0
unfolding whole_away of_bits
minus-quarter = refl

pub minus-two-and-a-half : whole_away (of_bits binary64 0xC004_0000_0000_0000) ≡ negsuc 2
unfolding whole_away of_bits
minus-two-and-a-half = refl

-- ---- the order of all patterns
pub zeros-in-order : ltb (total_key 0x8000_0000_0000_0000) (total_key 0) ≡ true
unfolding total_key
zeros-in-order = refl

-- a pattern that is at or below another, and not the other way round
abbrev pub InOrder : ℕ → ℕ → Type 0
InOrder a b = (total_order a b ≡ true) × (total_order b a ≡ false)

pub zeros : InOrder 0x8000_0000_0000_0000 0
unfolding total_order numbers equals nans classes nan_bits of_bits lt
zeros = (refl, refl)

-- the least pattern of all, a quiet NaN with a negative sign and the whole payload, and the next class, a signalling one
pub quiet-before-signalling : InOrder 0xFFFF_FFFF_FFFF_FFFF 0xFFF7_FFFF_FFFF_FFFF
unfolding total_order numbers equals nans classes nan_bits of_bits lt
quiet-before-signalling = (refl, refl)

pub nan-before-infinity : InOrder 0xFFF0_0000_0000_0001 0xFFF0_0000_0000_0000
unfolding total_order numbers equals nans classes nan_bits of_bits lt
nan-before-infinity = (refl, refl)

pub infinity-before-nan : InOrder 0x7FF0_0000_0000_0000 0x7FF0_0000_0000_0001
unfolding total_order numbers equals nans classes nan_bits of_bits lt
infinity-before-nan = (refl, refl)

pub signalling-before-quiet : InOrder 0x7FF7_FFFF_FFFF_FFFF 0x7FF8_0000_0000_0000
unfolding total_order numbers equals nans classes nan_bits of_bits lt
signalling-before-quiet = (refl, refl)

-- -2 and -1
pub negatives : InOrder 0xC000_0000_0000_0000 0xBFF0_0000_0000_0000
unfolding total_order numbers equals nans classes nan_bits of_bits lt
negatives = (refl, refl)
