-- The first i of the values' characters stand in the other list.
use Rattle.std.specs.Prelude.{◌≡◌, map}
use lib.Seq.{paste}
use Rattle.bech32m.specs.Checksum.{character_of}
use Rattle.label.proofs.put_characters.Given as goal

abbrev pub invariant-loop-i : goal.invariant-loop-i
invariant-loop-i l = l.out ≡ paste l.initial.out l.at (map character_of l.values) l.i
