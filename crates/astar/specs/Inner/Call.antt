-- Two buffers with room, and a layer that is sound: what a search needs, for contracts inside. Definitions only.
use Rattle.std.specs.Prelude.{◌≡◌, true, List, ℕ}
use Rattle.table.specs.Records.{is_sound, flag_width}
use Rattle.expansion.specs.declared.Plan.{Plan}
use Rattle.expansion.specs.Inner.Bytes.{Rooms}

-- rooms that the buffers hold, and a flag layer that is sound: a plan can be searched
pub record Ready (p : Plan) (w h flags : List ℕ) (n : ℕ) : Type 0 where
  pub rooms : Rooms p.known p.waiting w h
  pub sound : is_sound flag_width flags n ≡ true
