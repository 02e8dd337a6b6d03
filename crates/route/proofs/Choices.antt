-- What the number of a choice says, in words of demand 3: 1 exactly where the sent list is accepted, 2 exactly where the homing list is and the sent one is not, 0 exactly where
-- neither is. Of any bytes.
use mathlib.Core.Path.{◌≡◌, refl}
use mathlib.Core.Logic.{◌↔◌}
use mathlib.Core.Bool.{Bool, true, false, cond}
use mathlib.Core.List.{List}
use Prim.Native.Nat.{ℕ}
use native.Mathlib.Omega.{arith}
use borrow.Author.Tests.{eqb-true, eqb-false}
use lib.Dec.{eqb}
use Rattle.words.specs.Word.{Bytes}
use Rattle.route.specs.Route.{verdict_of, choice_of, claim}
use Rattle.route.specs.Choice.{choice_between}
use Rattle.route.proofs.ChoiceLaws.{sent-chosen, homing-chosen, neither-chosen}
use Rattle.route.specs.Accepted.{Demand3}
use Rattle.route.proofs.DemandLaws.{accepted-exactly}
use Rattle.table.specs.Records.{layer}

-- ---- by the two verdicts

module _ (sent homing : ℕ) where
  -- which verdicts a choice comes from
  data From : ℕ → Type 0 where
    sent-right : sent ≡ 0 → From 1
    homing-right : (sent ≡ 0 → ⊥) → homing ≡ 0 → From 2
    none_right : (sent ≡ 0 → ⊥) → (homing ≡ 0 → ⊥) → From 0

  from-verdicts : From (choice_of sent homing)
  unfolding choice_of
  from-verdicts = by (eqb sent 0) (eqb homing 0) refl refl
    where
      by : (s h : Bool) → eqb sent 0 ≡ s → eqb homing 0 ≡ h → From (cond s 1 (cond h 2 0))
      by true h e f = sent-right (eqb-true sent 0 e)
      by false true e f = homing-right (eqb-false sent 0 e) (eqb-true homing 0 f)
      by false false e f = none_right (eqb-false sent 0 e) (eqb-false homing 0 f)

  from_one : {choice : ℕ} → From choice → choice ≡ 1 → sent ≡ 0
  from_one (sent-right s) e = s
  from_one (homing-right s h) e = absurd (omega arith)
  from_one (none_right s h) e = absurd (omega arith)

  from-two : {choice : ℕ} → From choice → choice ≡ 2 → (sent ≡ 0 → ⊥) × (homing ≡ 0)
  from-two (sent-right s) e = absurd (omega arith)
  from-two (homing-right s h) e = (s, h)
  from-two (none_right s h) e = absurd (omega arith)

  from-nought : {choice : ℕ} → From choice → choice ≡ 0 → (sent ≡ 0 → ⊥) × (homing ≡ 0 → ⊥)
  from-nought (sent-right s) e = absurd (omega arith)
  from-nought (homing-right s h) e = absurd (omega arith)
  from-nought (none_right s h) e = (s, h)

-- ---- by the two lists

module _ (sent homing start goal : List ℕ) (cost : ℕ) (departure home : List ℕ) (price : ℕ) (flags : List ℕ) (n rule : ℕ) (in-sent : Bytes sent) (in_start : Bytes start) (in-goal : Bytes goal) where
  -- each list is judged with its own ends and cost
  abbrev sent-verdict : ℕ
  sent-verdict = verdict_of (claim sent start goal cost) (layer flags n) rule

  abbrev homing-verdict : ℕ
  homing-verdict = verdict_of (claim homing departure home price) (layer flags n) rule

  sent_is : sent-verdict ≡ 0 ↔ Demand3 (claim sent start goal cost) (layer flags n) rule
  sent_is = accepted-exactly sent start goal cost flags n rule in-sent in_start in-goal

  -- 1: the sent list is accepted
  pub sent-exactly : choice_between (claim sent start goal cost) (claim homing departure home price) (layer flags n) rule ≡ 1 ↔ Demand3 (claim sent start goal cost) (layer flags n) rule
  sent-exactly = (λ e. sent_is.0 (from_one sent-verdict homing-verdict (from-verdicts sent-verdict homing-verdict) e), λ d. sent-chosen sent-verdict homing-verdict (sent_is.1 d))

  module _ (in-homing : Bytes homing) (in-departure : Bytes departure) (in-home : Bytes home) where
    homing-is : homing-verdict ≡ 0 ↔ Demand3 (claim homing departure home price) (layer flags n) rule
    homing-is = accepted-exactly homing departure home price flags n rule in-homing in-departure in-home

    -- 2: the sent list is not accepted, and the homing list is
    pub homing-exactly : choice_between (claim sent start goal cost) (claim homing departure home price) (layer flags n) rule ≡ 2 ↔ (Demand3 (claim sent start goal cost) (layer flags n) rule → ⊥) × Demand3 (claim homing departure home price) (layer flags n) rule
    homing-exactly = (
      λ e. let r = from-two sent-verdict homing-verdict (from-verdicts sent-verdict homing-verdict) e in (λ d. r.0 (sent_is.1 d), homing-is.0 r.1),
      λ d. homing-chosen sent-verdict homing-verdict (λ e. d.0 (sent_is.0 e)) (homing-is.1 d.1),
    )

    -- 0: neither is
    pub neither-exactly : choice_between (claim sent start goal cost) (claim homing departure home price) (layer flags n) rule ≡ 0
        ↔ (Demand3 (claim sent start goal cost) (layer flags n) rule → ⊥) × (Demand3 (claim homing departure home price) (layer flags n) rule → ⊥)
    neither-exactly = (
      λ e. let r = from-nought sent-verdict homing-verdict (from-verdicts sent-verdict homing-verdict) e in (λ d. r.0 (sent_is.1 d), λ d. r.1 (homing-is.1 d)),
      λ d. neither-chosen sent-verdict homing-verdict (λ e. d.0 (sent_is.0 e)) (λ e. d.1 (homing-is.0 e)),
    )
