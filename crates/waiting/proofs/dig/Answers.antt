-- The hole goes down as long as it has a child: step by step what is left to do leads to the same bytes.
use mathlib.Core.Path.{sym, ap, ◌∙◌}
use mathlib.Core.List.{List}
use Prim.Native.Nat.{ℕ, ◌-◌}
use native.Mathlib.Omega.{arith}
use Rattle.waiting.specs.Inner.Entries.{entry_at, entry_stored}
use Rattle.waiting.specs.Inner.Sift.{dug_in}
use Rattle.waiting.proofs.Sift.{dug-end, dug-next}
use Rattle.waiting.proofs.Least.{least-child}
use Rattle.waiting.proofs.dig.Goals as goal

pub copy-requires : goal.copy-requires
copy-requires c =
    let args = c.args in
    let here = c.loop-hole in
    let child = least-child here.heap args.size here.hole (omega arith) in
    (omega (arith, c.least_child-child.ensures, child.within), omega (arith, here.invariant.1))

pub loop-hole-smaller : goal.loop-hole-smaller
loop-hole-smaller c =
    let args = c.args in
    let here = c.loop-hole in
    let child = least-child here.heap args.size here.hole (omega arith) in
    omega (arith, c.least_child-child.ensures, child.from, child.within)

pub loop-hole-preserved : goal.loop-hole-preserved
loop-hole-preserved c =
    let args = c.args in
    let here = c.loop-hole in
    let l = here.heap in
    let child = c.least_child-child in
    let low = least-child l args.size here.hole (omega arith) in
    let left = here.invariant.2 in
    let same = child.ensures in (
      cc,
      omega (arith, same, low.within),
      (
        left.0 - 1,
        omega (arith, left.1, same, low.from),
        left.2 ∙ dug-next left.0 l args.size here.hole (omega arith) left.1
            ∙ ap (λ (k : ℕ). dug_in (left.0 - 1) (entry_stored l here.hole (entry_at l k)) args.size k) (sym same)
            ∙ ap (λ (x : List ℕ). dug_in (left.0 - 1) x args.size child.result) (sym c.copy.ensures),
      ),
    )

pub returns : goal.returns
returns c =
    let args = c.args in
    let here = c.loop-hole in
    let left = here.invariant.2 in
    sym (left.2 ∙ dug-end left.0 here.heap args.size here.hole c.loop-hole-test.false)
