-- The values are summed behind the prefix, and six zeros behind both.
use Rattle.std.proofs.Common.{◌≡◌, ◌++◌, ℕ, map, ap, ◌∙◌, sym, append_assoc, replicate, bit_xor, rules}
use Rattle.std.specs.List.{fold}
use Rattle.bech32m.specs.Text.{lowered}
use Rattle.bech32m.specs.Checksum.{step, expanded, polymod, constant, digits, created}
use Rattle.bech32m.proofs.Sums.{sum-behind}
use Rattle.bech32m.proofs.create_checksum.Goals as goal

pub returns : goal.returns
unfolding created
returns c =
    let args = c.args in
    let prefix = expanded (map lowered args.prefix.now) in
    let values = args.values.now in
    let sum : c.fold-sum.result ≡ fold step c.sum_prefix.result (values ++ replicate 6 0) = search rules in
    c.six_digits.ensures
    ∙ ap (λ (n : ℕ). digits 6 (bit_xor n constant)) (sum-behind 1 prefix (values ++ replicate 6 0) c.sum_prefix.ensures sum ∙ ap polymod (sym (append_assoc prefix values (replicate 6 0))))
