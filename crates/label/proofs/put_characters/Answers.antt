-- The first i of the values' characters stand in the other list.
use Rattle.std.proofs.Common.{ℕ, ◌+◌, List, map, set, sym, ap, ap₂, ◌∙◌, add-one, arith}
use lib.ListN.{length-map}
use lib.Seq.{paste, paste-suc}
use Rattle.bech32m.specs.Checksum.{character_of}
use Rattle.label.proofs.Putting.{character-at}
use Rattle.label.proofs.put_characters.Goals as goal

pub loop-i-preserved : goal.loop-i-preserved
loop-i-preserved c =
    let args = c.args in
    let i = c.loop-i.i in
    let characters = map character_of args.values.now in
    let long = length-map args.values.now character_of in
    ap₂ (λ (m : List ℕ) (b : ℕ). set m (args.at + i) b) c.loop-i.invariant (c.character_of.ensures ∙ sym (character-at args.values.now i (omega arith)))
    ∙ paste-suc args.out.now args.at characters i 0 (omega arith) (omega arith)
    ∙ ap (paste args.out.now args.at characters) (sym (add-one i))
