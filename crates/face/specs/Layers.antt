-- The calls of the C face on layers: each is the definition of `layer`, told to C. A count is told as it stands after the call: where the call refuses, it is the one that was given.
-- Definitions only.
use Rattle.std.specs.Prelude.{ℕ, Result, Ok, Err, Option, Some, None}
use Rattle.refusal.specs.declared.Refusal.{Refusal}
use Rattle.face.specs.declared.CountTold.{CountTold}
use Rattle.face.specs.declared.KeptTold.{KeptTold}
use Rattle.face.specs.Told.{answered, told_of}

-- the count after a call: n is the one that was given
abbrev pub of_count : ℕ → Result ℕ Refusal → CountTold
of_count n (Ok m) = record { refusal = answered; count = m }
of_count n (Err r) = record { refusal = told_of r; count = n }

-- ---- what is kept of a cell

-- a cell of which this is kept
abbrev pub kept_told : ℕ → ℕ → KeptTold
kept_told k m = record { refusal = answered; found = 1; kept = k; count = m }

-- a cell of which nothing is kept
abbrev pub missing_told : ℕ → KeptTold
missing_told n = record { refusal = answered; found = 0; kept = 0; count = n }

-- refused: nothing is told of the cell
abbrev pub no_kept : Refusal → ℕ → KeptTold
no_kept r n = record { refusal = told_of r; found = 0; kept = 0; count = n }

-- what is kept of a cell, flags or the bits of a value, if anything; m is the count where the cell was found: the given one after a get, one less after a remove
abbrev pub of_kept : ℕ → ℕ → Result (Option ℕ) Refusal → KeptTold
of_kept n m (Ok (Some k)) = kept_told k m
of_kept n m (Ok None) = missing_told n
of_kept n m (Err r) = no_kept r n
