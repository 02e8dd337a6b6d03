-- The hole that the root leaves goes down, and the last entry rises from there.
use mathlib.Core.Path.{◌≡◌, refl, sym, ap, ◌∙◌}
use mathlib.Core.Bool.{true, false}
use mathlib.Core.List.{List}
use Prim.Native.Nat.{ℕ, ◌-◌}
use borrow.Author.Tests.{lt-ltb, le-ltb}
use native.Mathlib.Omega.{arith}
use lib.Dec.{ltb}
use Rattle.waiting.specs.declared.Entry.{Entry}
use Rattle.waiting.specs.Inner.Sift.{risen_in, dug_in, pop_in}
use Rattle.waiting.proofs.Sifted.{dug-within}
use Rattle.waiting.proofs.pop.Goals as goal

pub rise-requires : goal.rise-requires
rise-requires c =
    let dug = c.dig-hole in
    let within = dug-within (c.args.size - 1) c.args.heap.now (c.args.size - 1) 0 (omega arith) in
    let place = ap (λ (x : List ℕ × ℕ). x.1) dug.ensures in
    (omega arith, omega (arith, dug.auto.heap))

pub returns-then-rest-gt0 : goal.returns-then-rest-gt0
unfolding pop_in
returns-then-rest-gt0 c =
    let dug = c.dig-hole in
    let risen = c.rise.ensures in
    let l = c.args.heap.now in
    let size = c.args.size in
    let more : ltb 0 (size - 1) ≡ true = lt-ltb 0 (size - 1) (omega arith) in (
      c.entry_at-least.ensures,
      risen
          ∙ ap (λ (d : List ℕ × ℕ). risen_in d.1 d.0 d.1 c.entry_at-last.result) dug.ensures
          ∙ ap (λ (e : Entry). let d = dug_in (size - 1) l (size - 1) 0 in risen_in d.1 d.0 d.1 e) c.entry_at-last.ensures
          ∙ sym (rw more refl),
    )

pub returns-else-rest-gt0 : goal.returns-else-rest-gt0
unfolding pop_in
returns-else-rest-gt0 c =
    let none : ltb 0 (c.args.size - 1) ≡ false = le-ltb 0 (c.args.size - 1) (omega arith) in
    (c.entry_at-least.ensures, rw none refl)
