-- Each field is its half; a half leaves room for a step.
use mathlib.Core.Path.{◌≡◌, ◌∙◌, ap}
use Rattle.lattice.specs.Lattice.{at, halves, has_neighbor_room}
use Rattle.lattice.proofs.Fields.{fit, read, put}
use Rattle.lattice.proofs.Room.{halves-near}
use Rattle.lattice.proofs.halves.Goals as goal

pub returns : goal.returns
returns c =
    let told = c.struct_told-3-1.given in
    let h = c.half in
    let in-x = put (record { sfits = c.half.type_inv }) c.half.ensures in
    let in-y = put (record { sfits = c.half-2.type_inv }) c.half-2.ensures in
    let in-z = put (record { sfits = c.half-3.type_inv }) c.half-3.ensures in
    let same : _ ≡ halves c.args.c = (λ i. at (in-x i) (in-y i) (in-z i)) ∙ ap halves (read c.args.c told) in
    (same, ap has_neighbor_room same ∙ halves-near c.args.c (fit c.args.c told))
