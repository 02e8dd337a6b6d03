-- Two answers that meet a public function's contract agree, and so does what they leave in lent memory.
use mathlib.Core.Path.{sym, ◌∙◌}
use denote.Ref.{at_last}
use Rattle.general.specs.OneAnswer.{OneAnswer, OneExit}
use Rattle.cell.proofs as here

pub bits-of-one : OneAnswer 0 here.twos.bits_of.Kinds.ps here.twos.bits_of.Kinds.r here.twos.bits_of.Reads.Post
bits-of-one κs a z z' e e' p q = p ∙ sym q

pub of-bits-one : OneAnswer 0 here.twos.of_bits.Kinds.ps here.twos.of_bits.Kinds.r here.twos.of_bits.Reads.Post
of-bits-one κs a z z' e e' p q = p ∙ sym q

pub frame-one : OneAnswer 0 here.frame.Kinds.ps here.frame.Kinds.r here.frame.Reads.Post
frame-one κs a z z' e e' p q = p ∙ sym q

pub resolution-one : OneAnswer 0 here.resolution.Kinds.ps here.resolution.Kinds.r here.resolution.Reads.Post
resolution-one κs a z z' e e' p q = p ∙ sym q

pub exponent-one : OneAnswer 0 here.exponent.Kinds.ps here.exponent.Kinds.r here.exponent.Reads.Post
exponent-one κs a z z' e e' p q = p ∙ sym q

pub flags-one : OneAnswer 0 here.flags.Kinds.ps here.flags.Kinds.r here.flags.Reads.Post
flags-one κs a z z' e e' p q = p ∙ sym q

pub reserved-one : OneAnswer 0 here.reserved.Kinds.ps here.reserved.Kinds.r here.reserved.Reads.Post
reserved-one κs a z z' e e' p q = p ∙ sym q

pub x-one : OneAnswer 0 here.x.Kinds.ps here.x.Kinds.r here.x.Reads.Post
x-one κs a z z' e e' p q = p ∙ sym q

pub y-one : OneAnswer 0 here.y.Kinds.ps here.y.Kinds.r here.y.Reads.Post
y-one κs a z z' e e' p q = p ∙ sym q

pub z-one : OneAnswer 0 here.z.Kinds.ps here.z.Kinds.r here.z.Reads.Post
z-one κs a z z' e e' p q = p ∙ sym q

pub coord-one : OneAnswer 0 here.coord.Kinds.ps here.coord.Kinds.r here.coord.Reads.Post
coord-one κs a z z' e e' p q = p ∙ sym q

pub packed-one : OneAnswer 0 here.packed.Kinds.ps here.packed.Kinds.r here.packed.Reads.Post
packed-one κs a z z' e e' p q = p ∙ sym q

pub new-one : OneAnswer 0 here.new.Kinds.ps here.new.Kinds.r here.new.Reads.Post
new-one κs a z z' e e' p q = p ∙ sym q

pub from-coords-one : OneAnswer 0 here.from_coords.Kinds.ps here.from_coords.Kinds.r here.from_coords.Reads.Post
from-coords-one κs a z z' e e' p q = p ∙ sym q

pub from-lattice-coord-one : OneAnswer 0 here.from_lattice_coord.Kinds.ps here.from_lattice_coord.Kinds.r here.from_lattice_coord.Reads.Post
from-lattice-coord-one κs a z z' e e' p q = p ∙ sym q

pub lattice-coord-one : OneAnswer 0 here.lattice_coord.Kinds.ps here.lattice_coord.Kinds.r here.lattice_coord.Reads.Post
lattice-coord-one κs a z z' e e' p q = p ∙ sym q

pub is-plain-one : OneAnswer 0 here.is_plain.Kinds.ps here.is_plain.Kinds.r here.is_plain.Reads.Post
is-plain-one κs a z z' e e' p q = p ∙ sym q

pub same-one : OneAnswer 0 here.same.Kinds.ps here.same.Kinds.r here.same.Reads.Post
same-one κs a z z' e e' p q = p ∙ sym q

pub less_one : OneAnswer 0 here.less.Kinds.ps here.less.Kinds.r here.less.Reads.Post
less_one κs a z z' e e' p q = p ∙ sym q

pub compare-one : OneAnswer 0 here.compare.Kinds.ps here.compare.Kinds.r here.compare.Reads.Post
compare-one κs a z z' e e' p q = p ∙ sym q

pub get-neighbors-one : OneAnswer 0 here.get_neighbors.Kinds.ps here.get_neighbors.Kinds.r here.get_neighbors.Reads.Post
get-neighbors-one κs a z z' e e' p q = p ∙ sym q

pub get-children-one : OneAnswer 0 here.get_children.Kinds.ps here.get_children.Kinds.r here.get_children.Reads.Post
get-children-one κs a z z' e e' p q = p ∙ sym q

pub parent-one : OneAnswer 0 here.parent.Kinds.ps here.parent.Kinds.r here.parent.Reads.Post
parent-one κs a z z' e e' p q = p ∙ sym q

pub ancestor-one : OneAnswer 0 here.ancestor.Kinds.ps here.ancestor.Kinds.r here.ancestor.Reads.Post
ancestor-one κs a z z' e e' p q = p ∙ sym q

pub cell-between-one : OneAnswer 0 here.cell_between.Kinds.ps here.cell_between.Kinds.r here.cell_between.Reads.Post
cell-between-one κs a z z' e e' p q = p ∙ sym q

pub manhattan-distance-to-one : OneAnswer 0 here.manhattan_distance_to.Kinds.ps here.manhattan_distance_to.Kinds.r here.manhattan_distance_to.Reads.Post
manhattan-distance-to-one κs a z z' e e' p q = p ∙ sym q

pub distance-to-one : OneAnswer 0 here.distance_to.Kinds.ps here.distance_to.Kinds.r here.distance_to.Reads.Post
distance-to-one κs a z z' e e' p q = p ∙ sym q

pub to-bytes-one : OneAnswer 0 here.to_bytes.Kinds.ps here.to_bytes.Kinds.r here.to_bytes.Reads.Post
to-bytes-one κs a z z' e e' p q = p ∙ sym q

pub read-at-one : OneAnswer 1 here.read_at.Kinds.ps here.read_at.Kinds.r here.read_at.Reads.Post
read-at-one κs a z z' e e' p q = p ∙ sym q

pub from-bytes-one : OneAnswer 1 here.from_bytes.Kinds.ps here.from_bytes.Kinds.r here.from_bytes.Reads.Post
from-bytes-one κs a z z' e e' p q = p ∙ sym q

pub write-at-exit : OneExit 1 here.write_at.Kinds.ps here.write_at.Kinds.r here.write_at.Reads.Post
write-at-exit κs a z z' last last' p q = λ i. (at_last a.0 ((p ∙ sym q) i), a.1)
