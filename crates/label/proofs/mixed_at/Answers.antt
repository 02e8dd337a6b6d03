-- The first character says the case, and a string without one has no letters.
use Rattle.std.proofs.Common.{◌≡◌, Bool, false, cond, List, ℕ, ◌≤◌, length, get_or, sym, ap, ◌∙◌, rules}
use lib.ListN.{get_or-eq_default}
use Rattle.bech32m.specs.Text.{is_lower, is_upper, first_from}
use Rattle.bech32m.specs.Valid.{is_of}
use Rattle.label.specs.Label.{mixed_at}
use Rattle.label.proofs.mixed_at.Goals as goal
use Rattle.label.proofs.mixed_at.Goals.{else-not-is_empty-via-then-not-is_empty+else-is_lower, else-not-is_empty-via-else-not-is_empty}

no-first : (s : List ℕ) → length s ≤ 0 → is_lower (get_or s 0 0) ≡ false
no-first s h = ap is_lower (get_or-eq_default s 0 {n = 0} h)

mixed-by : (s : List ℕ) {b : Bool} → is_lower (get_or s 0 0) ≡ b → mixed_at s ≡ first_from (cond b is_upper is_lower) 0 s
unfolding mixed_at
mixed-by s e = ap (λ (b : Bool). first_from (cond b is_upper is_lower) 0 s) e

pub returns-then-is_lower : goal.returns-then-is_lower
unfolding is_of
returns-then-is_lower c =
    c.first_of_kind.ensures ∙ sym (mixed-by c.args.text.now (sym c.is_lower.ensures ∙ c.if-is_lower.true))

pub returns : goal.returns
unfolding is_of
returns c =
    let text = c.args.text.now in
    let lower : is_lower (get_or text 0 0) ≡ false =
    elim c.else-not-is_empty.branch [
      | else-not-is_empty-via-then-not-is_empty+else-is_lower w ↦ sym w.is_lower.ensures ∙ w.if-is_lower.false
      | else-not-is_empty-via-else-not-is_empty w ↦ no-first text (search rules)
    ] in
    c.first_of_kind-2.ensures ∙ sym (mixed-by text lower)
