-- `float::whole_size` meets its contract: the double is exact, and its whole part is below 2 ^ 53.
use Rattle.std.proofs.Common.{ℕ, ◌+◌, ◌/◌, ap, ◌∙◌, arith}
use lib.Ieee.{of_bits}
use Rattle.float.proofs.Laws.{so}
use Rattle.float.proofs.Rounding.{doubled}
use Rattle.float.proofs.whole_size.Goals as goal

pub truncating_f64_to_u64-requires : goal.truncating_f64_to_u64-requires
unfolding of_bits
truncating_f64_to_u64-requires c =
    let d = doubled c.args.x (so c.well_formed.0.1) c.requires.0 c.requires.1 in record { lower_bound = d.above; upper_bound = d.below }

pub overflow_add-result : goal.overflow_add-result
unfolding of_bits
overflow_add-result c =
    let d = doubled c.args.x (so c.well_formed.0.1) c.requires.0 c.requires.1 in
    omega (arith, c.truncating_f64_to_u64.ensures, d.small)

pub returns : goal.returns
unfolding of_bits
returns c =
    let d = doubled c.args.x (so c.well_formed.0.1) c.requires.0 c.requires.1 in
    ap (λ (n : ℕ). (n + 1) / 2) c.truncating_f64_to_u64.ensures ∙ d.half
