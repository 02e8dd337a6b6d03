-- The low bits are summed behind the high bits and the 0.
use Rattle.std.proofs.Common.{◌≡◌, ℕ, ◌/◌, ◌%◌, map, rules}
use Rattle.std.specs.List.{fold}
use Rattle.bech32m.specs.Text.{lowered}
use Rattle.bech32m.specs.Checksum.{step}
use Rattle.bech32m.proofs.Sums.{prefix-behind}
use Rattle.bech32m.proofs.sum_prefix.Goals as goal

pub returns : goal.returns
returns c =
    let s = c.args.prefix.now in
    let high : c.fold-highs.result ≡ fold step 1 (map (λ (x : ℕ). lowered x / 32) s) = search rules in
    let low : c.fold.result ≡ fold step c.step.result (map (λ (x : ℕ). lowered x % 32) s) = search rules in
    prefix-behind s high c.step.ensures low
