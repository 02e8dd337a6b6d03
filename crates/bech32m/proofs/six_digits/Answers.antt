-- The definition's powers of 32 are the code's numbers.
use native.Mathlib.Nat.{div-one}
use Rattle.bech32m.specs.Checksum.{digits}
use Rattle.bech32m.proofs.six_digits.Goals as goal

pub returns : goal.returns
unfolding digits
returns c = rw div-one
