-- Survey files for C: load and write are the definitions of `survey`, told. The counts are told as they stand after a load: where it refuses, they are those that were given. A file
-- that was not written takes 0 bytes. Definitions only.
use Rattle.survey.specs.declared.Counts.{Counts}
use Rattle.refusal.specs.declared.Refusal.{Refusal}
use Rattle.std.specs.Prelude.{List, ℕ, Result, Ok, Err}
use Rattle.refusal.specs.Refusals.{place_of}
use Rattle.survey.specs.Survey.{Loading}
use Rattle.face.specs.declared.LoadTold.{LoadTold}
use Rattle.face.specs.declared.LengthTold.{LengthTold}
use Rattle.face.specs.Told.{answered, told_of}

-- the counts after a load: n and m are those that were given
abbrev pub of_load : ℕ → ℕ → Result Counts Refusal → LoadTold
of_load n m (Ok c) = record { refusal = answered; place = 0; flags = c.flags; values = c.values }
of_load n m (Err r) = record { refusal = told_of r; place = place_of r; flags = n; values = m }

-- what C is told of a load, and what stands in the two tables when it returns
pub record LoadingTold : Type 0 where
  pub told : LoadTold
  pub flags : List ℕ
  pub values : List ℕ

-- this told, with these bytes in the two tables
abbrev pub loading_told : LoadTold → List ℕ → List ℕ → LoadingTold
loading_told t f v = record { told = t; flags = f; values = v }

-- what a load says, told
abbrev pub of_loading : ℕ → ℕ → Loading → LoadingTold
of_loading n m g = loading_told (of_load n m g.said) g.flags g.values

-- the bytes that the written file takes
abbrev pub of_write : Result ℕ Refusal → LengthTold
of_write (Ok n) = record { refusal = answered; length = n }
of_write (Err r) = record { refusal = told_of r; length = 0 }
