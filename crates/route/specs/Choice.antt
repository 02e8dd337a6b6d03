-- "One call hands back the sent list itself if accepted, else the homing list itself if that is accepted, else an empty part of the sent one. Each is judged with its own ends and claimed
-- cost, both under one rule and layer." Definitions only.
use Rattle.std.specs.Prelude.{◌≡◌, List, [], ℕ}
use Rattle.std.specs.Borrow.{Bor}
use Rattle.route.specs.Route.{verdict_of, choice_of, Claim}
use Rattle.table.specs.Records.{Layer}

-- the choice between the sent list and the homing one, each with its own ends and cost, in one flag layer under one rule
abbrev pub choice_between : Claim → Claim → Layer → ℕ → ℕ
choice_between sent homing flags rule = choice_of (verdict_of sent flags rule) (verdict_of homing flags rule)

-- the very list that was lent, as a reference; the empty part begins where the sent list does
pub record Chosen (choice : ℕ) (sent homing r : Bor (List ℕ)) : Type 0 where
  pub is-sent : choice ≡ 1 → r ≡ sent
  pub is-homing : choice ≡ 2 → r ≡ homing
  pub is-empty : choice ≡ 0 → (r.ref_ptr ≡ sent.ref_ptr) × (r.now ≡ [])
