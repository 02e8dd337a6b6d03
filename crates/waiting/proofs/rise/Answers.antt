-- The hole goes up as long as e is less than its parent: step by step what is left to do leads to the same bytes.
use mathlib.Core.Path.{◌≡◌, refl, sym, ap, ◌∙◌}
use Prim.Native.Nat.{◌-◌, ◌/◌}
use native.Mathlib.Omega.{arith}
use Rattle.waiting.specs.Inner.Sift.{risen_in}
use Rattle.waiting.proofs.Sift.{risen-top, risen-fits, risen-next}
use Rattle.waiting.proofs.rise.Goals as goal

pub loop-hole-preserved : goal.loop-hole-preserved
loop-hole-preserved c =
    let args = c.args in
    let here = c.loop-hole in
    let inner = c.loop-hole-test.true in
    let left = here.invariant.2 in
    let falls = sym c.less_than_at.ensures ∙ c.if-less_than_at.true in (
      cc,
      omega (arith, here.invariant.1),
      (left.0 - 1, omega (arith, left.1), left.2 ∙ risen-next left.0 here.heap here.hole args.e inner left.1 falls ∙ ap (λ l. risen_in (left.0 - 1) l ((here.hole - 1) / 4) args.e) (sym c.copy.ensures)),
    )

pub returns-else-less_than_at : goal.returns-else-less_than_at
returns-else-less_than_at c =
    let args = c.args in
    let here = c.loop-hole in
    let left = here.invariant.2 in
    let fits = sym c.less_than_at.ensures ∙ c.if-less_than_at.false in
    c.store.ensures ∙ sym (left.2 ∙ risen-fits left.0 here.heap here.hole args.e fits)

pub returns : goal.returns
returns c =
    let args = c.args in
    let here = c.loop-hole in
    let root : here.hole ≡ 0 = omega arith in
    let left = here.invariant.2 in
    c.store-2.ensures ∙ sym (left.2 ∙ risen-top left.0 here.heap here.hole args.e root ∙ rw root refl)
