-- Nothing waits; the first entry is of no known cell, of a closed one, or of one that is closed now and entered.
use mathlib.Core.Path.{◌≡◌, sym, ◌∙◌}
use mathlib.Core.Bool.{Bool, true, false}
use mathlib.Core.Path.{refl}
use Prim.Native.Nat.{◌<◌, ◌≤◌}
use mir.Val.{bool_byte}
use Rattle.table.specs.Records.{rows_of}
use Rattle.known.proofs.Seek.{found_below}
use Rattle.search_rows.specs.Inner.Rows.{row_in}
use Rattle.search.proofs.Costs.{cost-small}
use Rattle.expansion.proofs.BytesLaws.{advance-by, popped-entered}
use Rattle.expansion.proofs.BytesKept.{fits-closed}
use native.Mathlib.Omega.{arith}
use Rattle.expansion.proofs.advance.Goals as goal

-- a test of a closed row, however it is written
positive : (x : Bool) → 0 < bool_byte x → x ≡ true
positive true h = refl
positive false h = absurd (omega (arith, h))

nought : (x : Bool) → bool_byte x ≤ 0 → x ≡ false
nought true h = absurd (omega (arith, h))
nought false h = refl

pub is_closed-requires-clause-i_lt_room : goal.is_closed-requires-clause-i_lt_room
is_closed-requires-clause-i_lt_room c =
    let args = c.args in
    let below = found_below args.workspace.now args.plan.known args.sizes.known _ _ _ c.look.ensures c.in-Some.is in
    omega arith

pub g_at-g-requires-clause-i_lt_room : goal.g_at-g-requires-clause-i_lt_room
g_at-g-requires-clause-i_lt_room c =
    let args = c.args in
    let below = found_below args.workspace.now args.plan.known args.sizes.known _ _ _ c.look.ensures c.in-Some.is in
    omega arith

pub close_at-requires-clause-i_lt_room : goal.close_at-requires-clause-i_lt_room
close_at-requires-clause-i_lt_room c =
    let args = c.args in
    let below = found_below args.workspace.now args.plan.known args.sizes.known _ _ _ c.look.ensures c.in-Some.is in
    omega arith

pub enter-requires : goal.enter-requires
enter-requires c =
    let args = c.args in
    let below = found_below args.workspace.now args.plan.known args.sizes.known _ _ _ c.look.ensures c.in-Some.is in
    let fits = fits-closed args.plan (rows_of 20 args.flags.now args.count) args.workspace.now args.heap.now _ _ args.sizes c.requires.fits (omega arith) c.close_at.auto.workspace c.pop-first.auto.heap in
    record { fits = fits; sound = c.requires.count_value; cost = cost-small _ (omega arith); row = below }

pub returns-else-g-gt-INFINITY : goal.returns-else-g-gt-INFINITY
returns-else-g-gt-INFINITY c =
    let args = c.args in
    let opened : c.is_closed.result ≡ false = first_of (cc, grind (arith, nought)) in
    let unclosed : (row_in args.workspace.now args.plan.known c.in-Some.row).closed ≡ false = cc in
    let rows = rows_of 20 args.flags.now args.count in
    c.enter.ensures
    ∙ sym (advance-by args.plan rows args.workspace.now args.heap.now args.sizes _ _ _ (omega (arith, c.if-sizes-eq0.false)) c.pop-first.ensures.0 c.pop-first.ensures.1 (rw c.in-Some.is at c.look.ensures)
    ∙ popped-entered args.plan rows args.workspace.now _ args.sizes _ unclosed (omega arith) _ c.g_at-g.ensures _ (omega arith) c.close_at.ensures)
