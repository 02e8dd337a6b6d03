-- Two answers that meet a call's contract agree, and so does what they leave in the memory that was lent to them. `Post` is what Rattle made of the source's `ensures`, so
-- these theorems speak of the contract itself.
use mathlib.Core.Path.{◌≡◌, sym, ap, ◌∙◌}
use mathlib.Core.List.{List}
use denote.Ref.{at_last}
use Rattle.general.specs.OneAnswer.{OneAnswer, OneExit}
use Rattle.face.specs.declared.RefusalTold.{RefusalTold}
use Rattle.face.specs.Told.{Filled, filled}
use Rattle.tishkolan.proofs as here

-- ---- a call that fills a lent buffer

module _ {A : Type 0} {t t' : RefusalTold} {l l' : List A} {f : Filled A} (p : filled t l ≡ f) (q : filled t' l' ≡ f) where
  pub same-told : t ≡ t'
  same-told = ap (λ (g : Filled A). g.told) (p ∙ sym q)

  pub same_out : l ≡ l'
  same_out = ap (λ (g : Filled A). g.out) (p ∙ sym q)

-- ---- the version

pub version-one : OneAnswer 0 here.version.tishkolan_version.Kinds.ps here.version.tishkolan_version.Kinds.r here.version.tishkolan_version.Reads.Post
version-one κs a z z' e e' p q = p ∙ sym q

-- ---- points

pub square-root-one : OneAnswer 0 here.points.tishkolan_square_root.Kinds.ps here.points.tishkolan_square_root.Kinds.r here.points.tishkolan_square_root.Reads.Post
square-root-one κs a z z' e e' p q = p ∙ sym q

pub parity-one : OneAnswer 0 here.points.tishkolan_parity.Kinds.ps here.points.tishkolan_parity.Kinds.r here.points.tishkolan_parity.Reads.Post
parity-one κs a z z' e e' p q = p ∙ sym q

pub opposite-one : OneAnswer 0 here.points.tishkolan_opposite.Kinds.ps here.points.tishkolan_opposite.Kinds.r here.points.tishkolan_opposite.Reads.Post
opposite-one κs a z z' e e' p q = p ∙ sym q

pub is-valid-lattice-point-one : OneAnswer 0 here.points.tishkolan_is_valid_lattice_point.Kinds.ps here.points.tishkolan_is_valid_lattice_point.Kinds.r here.points.tishkolan_is_valid_lattice_point.Reads.Post
is-valid-lattice-point-one κs a z z' e e' p q = p ∙ sym q

pub lattice-neighbors-one : OneAnswer 1 here.points.tishkolan_lattice_neighbors.Kinds.ps here.points.tishkolan_lattice_neighbors.Kinds.r here.points.tishkolan_lattice_neighbors.Reads.Post
lattice-neighbors-one κs a z z' e e' p q = same-told p q

pub lattice-neighbors-exit : OneExit 1 here.points.tishkolan_lattice_neighbors.Kinds.ps here.points.tishkolan_lattice_neighbors.Kinds.r here.points.tishkolan_lattice_neighbors.Reads.Post
lattice-neighbors-exit κs a z z' last last' p q = λ i. (a.0, (a.1.0, (a.1.1.0, (at_last a.1.1.1.0 (same_out p q i), tt))))

pub lattice-children-one : OneAnswer 1 here.points.tishkolan_lattice_children.Kinds.ps here.points.tishkolan_lattice_children.Kinds.r here.points.tishkolan_lattice_children.Reads.Post
lattice-children-one κs a z z' e e' p q = same-told p q

pub lattice-children-exit : OneExit 1 here.points.tishkolan_lattice_children.Kinds.ps here.points.tishkolan_lattice_children.Kinds.r here.points.tishkolan_lattice_children.Reads.Post
lattice-children-exit κs a z z' last last' p q = λ i. (a.0, (a.1.0, (a.1.1.0, (at_last a.1.1.1.0 (same_out p q i), tt))))

pub lattice-parent-one : OneAnswer 0 here.points.tishkolan_lattice_parent.Kinds.ps here.points.tishkolan_lattice_parent.Kinds.r here.points.tishkolan_lattice_parent.Reads.Post
lattice-parent-one κs a z z' e e' p q = p ∙ sym q

pub physical-to-lattice-one : OneAnswer 0 here.points.tishkolan_physical_to_lattice.Kinds.ps here.points.tishkolan_physical_to_lattice.Kinds.r here.points.tishkolan_physical_to_lattice.Reads.Post
physical-to-lattice-one κs a z z' e e' p q = p ∙ sym q

pub to-physical-one : OneAnswer 0 here.points.tishkolan_to_physical.Kinds.ps here.points.tishkolan_to_physical.Kinds.r here.points.tishkolan_to_physical.Reads.Post
to-physical-one κs a z z' e e' p q = p ∙ sym q

pub lattice-distance-one : OneAnswer 0 here.points.tishkolan_lattice_distance.Kinds.ps here.points.tishkolan_lattice_distance.Kinds.r here.points.tishkolan_lattice_distance.Reads.Post
lattice-distance-one κs a z z' e e' p q = p ∙ sym q

pub lattice-manhattan-distance-one : OneAnswer 0 here.points.tishkolan_lattice_manhattan_distance.Kinds.ps here.points.tishkolan_lattice_manhattan_distance.Kinds.r here.points.tishkolan_lattice_manhattan_distance.Reads.Post
lattice-manhattan-distance-one κs a z z' e e' p q = p ∙ sym q
