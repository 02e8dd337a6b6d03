-- The three highest bits of the lower word are the lowest of the higher, which has room for them.
use native.Mathlib.Omega.{arith}
use Rattle.refusal.specs.Refusals.{raw_of}
use Rattle.label.proofs.Shifts.{room-three, three-behind}
use Rattle.label.proofs.with_three.Goals as goal

pub overflow_mul-result : goal.overflow_mul-result
unfolding raw_of
overflow_mul-result c = omega (arith, room-three c.args.c.high c.args.c.low c.requires.0)

pub overflow_add-result : goal.overflow_add-result
unfolding raw_of
overflow_add-result c = omega (arith, room-three c.args.c.high c.args.c.low c.requires.0)

pub returns : goal.returns
unfolding raw_of
returns c =
    let both = three-behind c.args.c.high c.args.c.low c.args.value (omega arith) c.requires.1 in
    λ k. record { high = both.0 k; low = both.1 k }
