-- The products and sums fit; the words of the coordinates are what `bits_of` gave.
use mathlib.Core.Path.{◌∙◌, ap}
use mir.Syntax.{w32}
use mir.Val.{of_z}
use mir.Facts.{to_z-of_z}
use Rattle.lattice.proofs.Fields.{fit}
use Rattle.cell.specs.Cell.{packed}
use Rattle.cell.proofs.packed.Goals as goal

pub returns : goal.returns
unfolding packed
returns c =
    let s = c.args.c in
    let fits = fit s c.struct_told-3-1.given in
    let ex = c.bits_of-x.ensures ∙ ap (of_z w32) (to_z-of_z fits.in-x) in
    let ey = c.bits_of-y.ensures ∙ ap (of_z w32) (to_z-of_z fits.in-y) in
    let ez = c.bits_of-z.ensures ∙ ap (of_z w32) (to_z-of_z fits.in-z) in
    cc
