-- The invariant: the values from place i on are written, and the others are those of the rest.
use mathlib.Core.List.{◌++◌}
use lib.ListN.{drop}
use Rattle.refusal.specs.Refusals.{raw_of}
use Rattle.bech32m.specs.Checksum.{digits}
use Rattle.label.proofs.Data.{Written}
use Rattle.label.proofs.data_of.Given as goal

abbrev pub invariant-loop-i : goal.invariant-loop-i
invariant-loop-i l = Written (digits 25 (raw_of l.initial.rest) ++ drop 25 l.initial.values) l.values l.rest l.i
