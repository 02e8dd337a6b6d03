-- What a number that is told says of the refusal: 0 is none, so that it can say that a call answered; 7 is SearchLimitExceeded.
use mathlib.Core.Path.{◌≡◌, refl}
use native.Mathlib.Omega.{arith}
use Rattle.refusal.specs.declared.Spent.{Spent}
use Rattle.refusal.specs.declared.Refusal.{Refusal}
use Rattle.refusal.specs.declared.Refusal.TheVariants.{InvalidParity, NoParent, NoChildren, OutOfRange, NoValues, HasNan, SearchLimitExceeded, NoPathFound, CoordOverflow, NoRoom, BadWorkspace, BadFile, BadList, BadLayer, BadRule, BadLabel}
use Rattle.refusal.specs.declared.LabelFault.{LabelFault}
use Rattle.refusal.specs.declared.LabelFault.TheVariants.{Prefix, MixedCase, Character, Length, Checksum, Padding}
use Rattle.refusal.specs.Refusals.{number_of, fault_of}

faulted : (f : LabelFault) → fault_of f ≡ 0 → ⊥
faulted Prefix h = omega arith
faulted MixedCase h = omega arith
faulted Character h = omega arith
faulted Length h = omega arith
faulted Checksum h = omega arith
faulted Padding h = omega arith

not-seven : (f : LabelFault) → fault_of f ≡ 7 → ⊥
not-seven Prefix h = omega arith
not-seven MixedCase h = omega arith
not-seven Character h = omega arith
not-seven Length h = omega arith
not-seven Checksum h = omega arith
not-seven Padding h = omega arith

-- no refusal is told as an answer
pub refused-number : (r : Refusal) → number_of r ≡ 0 → ⊥
refused-number (InvalidParity c) h = omega arith
refused-number NoParent h = omega arith
refused-number NoChildren h = omega arith
refused-number OutOfRange h = omega arith
refused-number NoValues h = omega arith
refused-number HasNan h = omega arith
refused-number (SearchLimitExceeded s) h = omega arith
refused-number (NoPathFound e) h = omega arith
refused-number CoordOverflow h = omega arith
refused-number (NoRoom r) h = omega arith
refused-number BadWorkspace h = omega arith
refused-number (BadFile p) h = omega arith
refused-number BadList h = omega arith
refused-number BadLayer h = omega arith
refused-number BadRule h = omega arith
refused-number (BadLabel m) h = faulted m.fault h

-- what was spent is carried where 7 is told
pub numbered-seven : (r : Refusal) → number_of r ≡ 7 → (spent : Spent) × (r ≡ SearchLimitExceeded spent)
numbered-seven (InvalidParity c) h = absurd (omega arith)
numbered-seven NoParent h = absurd (omega arith)
numbered-seven NoChildren h = absurd (omega arith)
numbered-seven OutOfRange h = absurd (omega arith)
numbered-seven NoValues h = absurd (omega arith)
numbered-seven HasNan h = absurd (omega arith)
numbered-seven (SearchLimitExceeded s) h = (s, refl)
numbered-seven (NoPathFound e) h = absurd (omega arith)
numbered-seven CoordOverflow h = absurd (omega arith)
numbered-seven (NoRoom r) h = absurd (omega arith)
numbered-seven BadWorkspace h = absurd (omega arith)
numbered-seven (BadFile p) h = absurd (omega arith)
numbered-seven BadList h = absurd (omega arith)
numbered-seven BadLayer h = absurd (omega arith)
numbered-seven BadRule h = absurd (omega arith)
numbered-seven (BadLabel m) h = absurd (not-seven m.fault h)
