-- The beginning, the characters of the values and those of the checksum are put behind one another.
use Rattle.label.proofs.Putting.{label-together}
use Rattle.label.proofs.to_bech32m.Goals as goal

pub returns : goal.returns
returns c =
    label-together c.args.c c.data_of-data.result c.create_checksum-checksum.result c.data_of-data.ensures c.create_checksum-checksum.ensures c.copy_front.ensures c.put_characters.ensures c.put_characters-2.ensures
