-- How many samples a line may have. For contracts inside. Definitions only.
use Rattle.std.specs.Prelude.{ℕ}

-- the most steps of a line: twice the largest difference of two 32-bit numbers that is one itself
abbrev pub most_steps : ℕ
most_steps = 4294967296
