-- The values of the characters are summed behind the prefix.
use Rattle.std.proofs.Common.{◌≡◌, map, rules}
use Rattle.std.specs.List.{fold}
use Rattle.bech32m.specs.Text.{lowered}
use Rattle.bech32m.specs.Checksum.{value_of, step}
use Rattle.bech32m.proofs.Sums.{verified-behind}
use Rattle.bech32m.proofs.verify_characters.Goals as goal

pub returns : goal.returns
returns c =
    let args = c.args in
    let sum : c.fold.result ≡ fold step c.sum_prefix.result (map value_of args.characters.now) = search rules in
    verified-behind (map lowered args.prefix.now) (map value_of args.characters.now) c.sum_prefix.ensures sum
