-- Two answers that meet a public function's contract agree.
use mathlib.Core.Path.{sym, ◌∙◌}
use Rattle.general.specs.OneAnswer.{OneAnswer}
use Rattle.lattice.proofs as here

pub opposite-one : OneAnswer 0 here.opposite.Kinds.ps here.opposite.Kinds.r here.opposite.Reads.Post
opposite-one κs a z z' e e' p q = p ∙ sym q

pub absolute-one : OneAnswer 0 here.absolute.Kinds.ps here.absolute.Kinds.r here.absolute.Reads.Post
absolute-one κs a z z' e e' p q = p ∙ sym q

pub is-valid-lattice-point-one : OneAnswer 0 here.is_valid_lattice_point.Kinds.ps here.is_valid_lattice_point.Kinds.r here.is_valid_lattice_point.Reads.Post
is-valid-lattice-point-one κs a z z' e e' p q = p ∙ sym q

pub parity-of-one : OneAnswer 0 here.parity_of.Kinds.ps here.parity_of.Kinds.r here.parity_of.Reads.Post
parity-of-one κs a z z' e e' p q = p ∙ sym q

pub has-neighbor-room-one : OneAnswer 0 here.has_neighbor_room.Kinds.ps here.has_neighbor_room.Kinds.r here.has_neighbor_room.Reads.Post
has-neighbor-room-one κs a z z' e e' p q = p ∙ sym q

pub neighbor-places-one : OneAnswer 0 here.neighbor_places.Kinds.ps here.neighbor_places.Kinds.r here.neighbor_places.Reads.Post
neighbor-places-one κs a z z' e e' p q = p ∙ sym q

pub get-neighbors-one : OneAnswer 0 here.get_neighbors.Kinds.ps here.get_neighbors.Kinds.r here.get_neighbors.Reads.Post
get-neighbors-one κs a z z' e e' p q = p ∙ sym q

pub has-child-room-one : OneAnswer 0 here.has_child_room.Kinds.ps here.has_child_room.Kinds.r here.has_child_room.Reads.Post
has-child-room-one κs a z z' e e' p q = p ∙ sym q

pub child-places-one : OneAnswer 0 here.child_places.Kinds.ps here.child_places.Kinds.r here.child_places.Reads.Post
child-places-one κs a z z' e e' p q = p ∙ sym q

pub get-children-one : OneAnswer 0 here.get_children.Kinds.ps here.get_children.Kinds.r here.get_children.Reads.Post
get-children-one κs a z z' e e' p q = p ∙ sym q

pub get-parent-one : OneAnswer 0 here.get_parent.Kinds.ps here.get_parent.Kinds.r here.get_parent.Reads.Post
get-parent-one κs a z z' e e' p q = p ∙ sym q

pub manhattan-distance-to-one : OneAnswer 0 here.manhattan_distance_to.Kinds.ps here.manhattan_distance_to.Kinds.r here.manhattan_distance_to.Reads.Post
manhattan-distance-to-one κs a z z' e e' p q = p ∙ sym q
