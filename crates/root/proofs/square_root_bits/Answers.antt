-- `bits_of` of what `square_root` answers. A NaN's pattern is tested first, and an answer is never a NaN (`of_number`), so both turns between f64 and bits are defined.
use Rattle.std.proofs.Common.{sym, ap, ◌∙◌}
use Rattle.std.proofs.lemmas.Result.{err_from_is_err_and}
use lib.Ieee.{Float, binary64, of_bits}
use Rattle.float.proofs.Laws.{nan-value}
use Rattle.root.specs.Root.{root_of, root_bits_of, bits_of}
use Rattle.root.proofs.Number.{of_number}
use Rattle.root.proofs.square_root_bits.Goals as goal

pub returns-then-is_nan : goal.returns-then-is_nan
unfolding root_bits_of root_of
returns-then-is_nan c =
    let b = c.args.bits in
    sym (ap (λ (x : Float). bits_of (root_of x)) (nan-value b (sym c.is_nan.ensures ∙ c.if-is_nan.true)))

pub returns-in_err-root : goal.returns-in_err-root
unfolding root_bits_of
returns-in_err-root c =
    let p = err_from_is_err_and c.from_residual.result c.from_residual.ensures.1 in
    rw (p.1, p.2) (ap bits_of c.in_err-root.ensures)

pub float_to_bits-result : goal.float_to_bits-result
float_to_bits-result c = of_number (of_bits binary64 c.args.bits) c.in_ok-root.root (sym c.in_ok-root.ensures)

pub returns : goal.returns
unfolding root_bits_of
returns c = ap bits_of c.in_ok-root.ensures
