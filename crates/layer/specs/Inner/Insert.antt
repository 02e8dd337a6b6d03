-- What a new cell asks of its layer. For contracts inside. Definitions only.
use Rattle.std.specs.Prelude.{◌≡◌, true, List, ℕ}
use Rattle.refusal.specs.declared.Cell.{Cell}
use Rattle.table.specs.Records.{is_sound}
use Rattle.table.specs.Inner.Places.{Wide, GoesBefore}

-- a sound layer of n records, in which the cell is not yet: it goes before record i
pub record Insertable (width : ℕ) (table : List ℕ) (n : ℕ) (c : Cell) (i : ℕ) : Type 0 where
  pub wide : Wide width
  pub sound : is_sound width table n ≡ true
  pub place : GoesBefore width table n c i
