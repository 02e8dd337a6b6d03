-- Test by test, as the definition has them.
use Rattle.std.proofs.Common.{◌≡◌, List, ℕ, Bool, Option, None, false, MatchOption, Some, rules, arith, ap, ◌∙◌}
use Rattle.std.proofs.lemmas.Grind.{common_steps}
use Rattle.bech32m.specs.Valid.{is_unprintable, is_valid_at, is_valid}
use Rattle.bech32m.proofs.Places.{Anywhere, some-told}
use Rattle.bech32m.proofs.is_valid.Goals as goal

-- where there may be no separator
parted : (s : List ℕ) (p : Option ℕ) (r : Bool) → MatchOption p (r ≡ false) (λ at. r ≡ is_valid_at s (Some at)) → r ≡ is_valid_at s p
unfolding is_valid_at
parted s None r e = e
parted s (Some at) r e = e

pub returns-then-text-le90 : goal.returns-then-text-le90
unfolding is_valid
returns-then-text-le90 c =
    let s = c.args.text.now in
    let any : Anywhere is_unprintable s c.any.result = search rules in
    let e = some-told is_unprintable s c.any.result any in
    let at : MatchOption c.separator_of.result (c.is_some_and.result ≡ false) (λ at. c.is_some_and.result ≡ is_valid_at s (Some at)) = search rules in
    let f = parted s c.separator_of.result c.is_some_and.result at ∙ ap (is_valid_at s) c.separator_of.ensures in
    grind (arith, common_steps)

pub returns-else-text-le90 : goal.returns-else-text-le90
unfolding is_valid
returns-else-text-le90 c =
    let s = c.args.text.now in
    let any : Anywhere is_unprintable s c.any.result = search rules in
    let e = some-told is_unprintable s c.any.result any in
    grind (arith, common_steps)
