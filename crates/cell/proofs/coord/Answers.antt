-- Field by field: each is the number that its function gave.
use Rattle.lattice.proofs.Fields.{put}
use Rattle.cell.specs.Cell.{coord_of}
use Rattle.cell.proofs.coord.Goals as goal

pub returns : goal.returns
unfolding coord_of
returns c =
    let ex = put (record { sfits = c.x.type_inv }) c.x.ensures in
    let ey = put (record { sfits = c.y.type_inv }) c.y.ensures in
    let ez = put (record { sfits = c.z.type_inv }) c.z.ensures in
    λ i. record { x = ex i; y = ey i; z = ez i }
