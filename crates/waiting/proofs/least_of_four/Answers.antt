-- The lesser of the two that are each the lesser of two.
use Prim.Native.Nat.{◌+◌}
use native.Mathlib.Omega.{arith}
use Rattle.waiting.specs.Inner.Entries.{key_in}
use Rattle.waiting.proofs.Least.{first-least, least-of-four, least-to}
use Rattle.waiting.proofs.least_of_four.Goals as goal

pub overflow_sub-result : goal.overflow_sub-result
overflow_sub-result c =
    let args = c.args in
    let here = (first-least (key_in args.heap.now) args.a 1).to in
    let there = (first-least (key_in args.heap.now) (args.a + 2) 1).from in
    let b = c.lesser-b.ensures in
    let d = c.lesser-c.ensures in
    omega arith

pub less_at-requires : goal.less_at-requires
less_at-requires c =
    let args = c.args in
    let here = least-to (key_in args.heap.now) args.a 1 in
    let there = least-to (key_in args.heap.now) (args.a + 2) 1 in
    let b = c.lesser-b.ensures in
    let d = c.lesser-c.ensures in
    (omega arith, omega arith)

pub returns : goal.returns
returns c = least-of-four (key_in c.args.heap.now) c.args.a c.lesser-b.result c.lesser-c.result c.lesser-b.ensures c.lesser-c.ensures c.less_at.result c.less_at.ensures
