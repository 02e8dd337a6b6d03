-- Four children are compared at once; of fewer, those before j are compared.
use Rattle.std.proofs.Common.{sym, ◌+◌, ◌*◌, arith}
use Rattle.std.proofs.lemmas.Bool.Decides.{nat_tests}
use Rattle.waiting.specs.Inner.Entries.{key_in}
use Rattle.waiting.proofs.Least.{one-alone, next-least, four-children, few-children}
use Rattle.waiting.proofs.least_child.Goals as goal

pub returns-then-first-size : goal.returns-then-first-size
returns-then-first-size c = grind (arith, four-children)

pub loop-j-init : goal.loop-j-init
loop-j-init c = record {
  is = sym (one-alone _ _ _ (omega arith));
  within = omega arith;
}

pub loop-j-preserved : goal.loop-j-preserved
loop-j-preserved c =
    let here = c.loop-j in
    let next = next-least (key_in c.args.heap.now) (4 * c.args.i + 1) here.j (omega arith) in
    record { is = grind (arith, nat_tests); within = grind arith }

pub returns : goal.returns
returns c = grind (arith, few-children)
