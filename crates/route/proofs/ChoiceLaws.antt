-- Which list is chosen, by the number of the choice.
use mathlib.Core.Path.{◌≡◌, refl}
use mathlib.Core.Logic.{◌⊎◌, inl, inr}
use mathlib.Core.Bool.{Bool, true, false, cond}
use Prim.Native.Nat.{ℕ}
use lib.Dec.{eqb}
use borrow.Author.Tests.{eq-eqb, ne_eqb}
use Rattle.route.specs.Route.{choice_of}

-- an accepted sent list is chosen
pub sent-chosen : (sent homing : ℕ) → sent ≡ 0 → choice_of sent homing ≡ 1
unfolding choice_of
sent-chosen sent homing e = rw (eq-eqb sent 0 e)

-- an accepted homing list where the sent one is not
pub homing-chosen : (sent homing : ℕ) → (sent ≡ 0 → ⊥) → homing ≡ 0 → choice_of sent homing ≡ 2
unfolding choice_of
homing-chosen sent homing e f = rw (ne_eqb sent 0 e, eq-eqb homing 0 f)

-- and neither where neither is
pub neither-chosen : (sent homing : ℕ) → (sent ≡ 0 → ⊥) → (homing ≡ 0 → ⊥) → choice_of sent homing ≡ 0
unfolding choice_of
neither-chosen sent homing e f = rw (ne_eqb sent 0 e, ne_eqb homing 0 f)

-- there is no fourth choice
abbrev pub OneOfThree : ℕ → Type 0
OneOfThree choice = (choice ≡ 1) ⊎ ((choice ≡ 2) ⊎ (choice ≡ 0))

pub three-choices : (sent homing : ℕ) → OneOfThree (choice_of sent homing)
unfolding choice_of
three-choices sent homing = by (eqb sent 0) (eqb homing 0)
  where
    by : (s h : Bool) → OneOfThree (cond s 1 (cond h 2 0))
    by true h = inl refl
    by false true = inr (inl refl)
    by false false = inr (inr refl)
