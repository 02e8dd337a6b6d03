-- Two answers that meet a call's contract agree, and so does what they leave in the memory that was lent to them: the calls on cells.
use mathlib.Core.Path.{sym, ◌∙◌}
use denote.Ref.{at_last}
use Rattle.tishkolan.proofs as here
use Rattle.general.specs.OneAnswer.{OneAnswer, OneExit}
use Rattle.tishkolan.proofs.OneAnswer.{same-told, same_out}

pub put-cell-one : OneAnswer 1 here.cells.put_cell.Kinds.ps here.cells.put_cell.Kinds.r here.cells.put_cell.Reads.Post
put-cell-one κs a z z' e e' p q = same-told p q

pub put-cell-exit : OneExit 1 here.cells.put_cell.Kinds.ps here.cells.put_cell.Kinds.r here.cells.put_cell.Reads.Post
put-cell-exit κs a z z' last last' p q = λ i. (at_last a.0 (same_out p q i), a.1)

pub new-one : OneAnswer 1 here.cells.tishkolan_cell_new.Kinds.ps here.cells.tishkolan_cell_new.Kinds.r here.cells.tishkolan_cell_new.Reads.Post
new-one κs a z z' e e' p q = same-told p q

pub new-exit : OneExit 1 here.cells.tishkolan_cell_new.Kinds.ps here.cells.tishkolan_cell_new.Kinds.r here.cells.tishkolan_cell_new.Reads.Post
new-exit κs a z z' last last' p q = λ i. (a.0, (a.1.0, (a.1.1.0, (a.1.1.1.0, (a.1.1.1.1.0, (a.1.1.1.1.1.0, (a.1.1.1.1.1.1.0, (at_last a.1.1.1.1.1.1.1.0 (same_out p q i), tt))))))))

pub from-coords-one : OneAnswer 1 here.cells.tishkolan_cell_from_coords.Kinds.ps here.cells.tishkolan_cell_from_coords.Kinds.r here.cells.tishkolan_cell_from_coords.Reads.Post
from-coords-one κs a z z' e e' p q = same-told p q

pub from-coords-exit : OneExit 1 here.cells.tishkolan_cell_from_coords.Kinds.ps here.cells.tishkolan_cell_from_coords.Kinds.r here.cells.tishkolan_cell_from_coords.Reads.Post
from-coords-exit κs a z z' last last' p q = λ i. (a.0, (a.1.0, (a.1.1.0, (a.1.1.1.0, (a.1.1.1.1.0, (at_last a.1.1.1.1.1.0 (same_out p q i), tt))))))

pub fields-one : OneAnswer 1 here.cells.tishkolan_cell_fields.Kinds.ps here.cells.tishkolan_cell_fields.Kinds.r here.cells.tishkolan_cell_fields.Reads.Post
fields-one κs a z z' e e' p q = p ∙ sym q

pub lattice-coord-one : OneAnswer 1 here.cells.tishkolan_cell_lattice_coord.Kinds.ps here.cells.tishkolan_cell_lattice_coord.Kinds.r here.cells.tishkolan_cell_lattice_coord.Reads.Post
lattice-coord-one κs a z z' e e' p q = p ∙ sym q

pub is-plain-one : OneAnswer 1 here.cells.tishkolan_cell_is_plain.Kinds.ps here.cells.tishkolan_cell_is_plain.Kinds.r here.cells.tishkolan_cell_is_plain.Reads.Post
is-plain-one κs a z z' e e' p q = p ∙ sym q

pub compare-one : OneAnswer 2 here.cells.tishkolan_cell_compare.Kinds.ps here.cells.tishkolan_cell_compare.Kinds.r here.cells.tishkolan_cell_compare.Reads.Post
compare-one κs a z z' e e' p q = p ∙ sym q

pub neighbors-one : OneAnswer 2 here.cells.tishkolan_cell_neighbors.Kinds.ps here.cells.tishkolan_cell_neighbors.Kinds.r here.cells.tishkolan_cell_neighbors.Reads.Post
neighbors-one κs a z z' e e' p q = same-told p q

pub neighbors-exit : OneExit 2 here.cells.tishkolan_cell_neighbors.Kinds.ps here.cells.tishkolan_cell_neighbors.Kinds.r here.cells.tishkolan_cell_neighbors.Reads.Post
neighbors-exit κs a z z' last last' p q = λ i. (a.0, (at_last a.1.0 (same_out p q i), tt))

pub children-one : OneAnswer 2 here.cells.tishkolan_cell_children.Kinds.ps here.cells.tishkolan_cell_children.Kinds.r here.cells.tishkolan_cell_children.Reads.Post
children-one κs a z z' e e' p q = same-told p q

pub children-exit : OneExit 2 here.cells.tishkolan_cell_children.Kinds.ps here.cells.tishkolan_cell_children.Kinds.r here.cells.tishkolan_cell_children.Reads.Post
children-exit κs a z z' last last' p q = λ i. (a.0, (at_last a.1.0 (same_out p q i), tt))

pub parent-one : OneAnswer 2 here.cells.tishkolan_cell_parent.Kinds.ps here.cells.tishkolan_cell_parent.Kinds.r here.cells.tishkolan_cell_parent.Reads.Post
parent-one κs a z z' e e' p q = same-told p q

pub parent-exit : OneExit 2 here.cells.tishkolan_cell_parent.Kinds.ps here.cells.tishkolan_cell_parent.Kinds.r here.cells.tishkolan_cell_parent.Reads.Post
parent-exit κs a z z' last last' p q = λ i. (a.0, (at_last a.1.0 (same_out p q i), tt))

pub ancestor-one : OneAnswer 2 here.cells.tishkolan_cell_ancestor.Kinds.ps here.cells.tishkolan_cell_ancestor.Kinds.r here.cells.tishkolan_cell_ancestor.Reads.Post
ancestor-one κs a z z' e e' p q = same-told p q

pub ancestor-exit : OneExit 2 here.cells.tishkolan_cell_ancestor.Kinds.ps here.cells.tishkolan_cell_ancestor.Kinds.r here.cells.tishkolan_cell_ancestor.Reads.Post
ancestor-exit κs a z z' last last' p q = λ i. (a.0, (a.1.0, (at_last a.1.1.0 (same_out p q i), tt)))

pub between-one : OneAnswer 2 here.cells.tishkolan_cell_between.Kinds.ps here.cells.tishkolan_cell_between.Kinds.r here.cells.tishkolan_cell_between.Reads.Post
between-one κs a z z' e e' p q = p ∙ sym q

pub distance-one : OneAnswer 2 here.cells.tishkolan_cell_distance.Kinds.ps here.cells.tishkolan_cell_distance.Kinds.r here.cells.tishkolan_cell_distance.Reads.Post
distance-one κs a z z' e e' p q = p ∙ sym q

pub manhattan-distance-one : OneAnswer 2 here.cells.tishkolan_cell_manhattan_distance.Kinds.ps here.cells.tishkolan_cell_manhattan_distance.Kinds.r here.cells.tishkolan_cell_manhattan_distance.Reads.Post
manhattan-distance-one κs a z z' e e' p q = p ∙ sym q
