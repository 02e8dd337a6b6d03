-- Two answers that meet a public function's contract agree.
use mathlib.Core.Path.{sym, ◌∙◌}
use Rattle.general.specs.OneAnswer.{OneAnswer}
use Rattle.snap.proofs as here

pub physical-to-lattice-one : OneAnswer 0 here.physical_to_lattice.Kinds.ps here.physical_to_lattice.Kinds.r here.physical_to_lattice.Reads.Post
physical-to-lattice-one κs a z z' e e' p q = p ∙ sym q

pub to-physical-one : OneAnswer 0 here.to_physical.Kinds.ps here.to_physical.Kinds.r here.to_physical.Reads.Post
to-physical-one κs a z z' e e' p q = p ∙ sym q

pub snap-bits-one : OneAnswer 0 here.snap_bits.Kinds.ps here.snap_bits.Kinds.r here.snap_bits.Reads.Post
snap-bits-one κs a z z' e e' p q = p ∙ sym q

pub physical-bits-one : OneAnswer 0 here.physical_bits.Kinds.ps here.physical_bits.Kinds.r here.physical_bits.Reads.Post
physical-bits-one κs a z z' e e' p q = p ∙ sym q
