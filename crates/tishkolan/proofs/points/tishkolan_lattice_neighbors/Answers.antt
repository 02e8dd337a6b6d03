-- A refusal of the lattice's call is what is told.
use mathlib.Core.Path.{sym, ap, ◌∙◌}
use mathlib.Core.List.{List}
use Rattle.std.specs.Prelude.{Result}
use Rattle.refusal.specs.declared.Coord.{Coord}
use Rattle.refusal.specs.declared.Refusal.{Refusal}
use Rattle.lattice.specs.Lattice.{neighbors_of}
use Rattle.face.specs.Told.{filled, fill_by}
use Rattle.face.specs.Points.{triples, neighbors_told}
use Rattle.tishkolan.proofs.Places.{kept-place}
use Rattle.tishkolan.proofs.points.tishkolan_lattice_neighbors.Goals as goal

pub returns-in-Err : goal.returns-in-Err
unfolding neighbors_told
returns-in-Err c =
    (λ i. filled (c.into.ensures i) c.args.out.now)
    ∙ ap (λ (a : Result (List Coord) Refusal). fill_by triples a c.args.out.now) (sym c.in-Err.is ∙ c.get_neighbors.ensures ∙ ap neighbors_of (kept-place c.ranges.x c.ranges.y c.ranges.z))
