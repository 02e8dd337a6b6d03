-- A room that was tested, for contracts inside. Definitions only.
use Rattle.std.specs.Prelude.{ℕ, ◌<◌, ◌≤◌}
use Rattle.known.specs.Workspace.{most_room}

-- a room that `is_room` let pass
pub record Room (n : ℕ) : Type 0 where
  pub least : 0 < n
  pub small : n ≤ most_room
