-- Each answer is that of the definition's two tests.
use Rattle.std.proofs.Common.{rules}
use Rattle.bech32m.specs.Text.{is_lower, is_upper}
use Rattle.bech32m.specs.Valid.{is_mixed}
use Rattle.bech32m.proofs.Places.{Anywhere, some-told}
use Rattle.bech32m.proofs.is_mixed.Goals as goal

pub returns-then-any : goal.returns-then-any
unfolding is_mixed
returns-then-any c =
    let s = c.args.text.now in
    let lower : Anywhere is_lower s c.any.result = search rules in
    let upper : Anywhere is_upper s c.any-then-any.result = search rules in
    rw (← some-told is_lower s c.any.result lower, c.if-any.true) (some-told is_upper s c.any-then-any.result upper)

pub returns-else-any : goal.returns-else-any
unfolding is_mixed
returns-else-any c =
    let s = c.args.text.now in
    let lower : Anywhere is_lower s c.any.result = search rules in
    rw (← some-told is_lower s c.any.result lower, c.if-any.false)
