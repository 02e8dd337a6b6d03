-- Test by test, as the definition has them; the padding is that of the last value.
use borrow.Author.Tests.{eq-eqb, ne_eqb}
use mathlib.Core.Bool.{Bool, true}
use mathlib.Core.List.{List, map}
use mathlib.Core.Path.{◌≡◌, sym, ap, ◌∙◌}
use Prim.Native.Nat.{ℕ, ◌-◌, ◌/◌, ◌%◌}
use lib.Dec.{eqb}
use lib.ListN.{length, take, drop, get_or}
use Rattle.std.specs.Prelude.{Ok}
use Rattle.general.specs.Refuse.{refuse_unless}
use Rattle.refusal.specs.declared.LabelFault.TheVariants.{Padding}
use Rattle.refusal.specs.Refusals.{cell_of}
use Rattle.bech32m.specs.Checksum.{value_of, verified}
use Rattle.bech32m.proofs.Listed.{part-rest}
use Rattle.label.specs.Label.{label_width, prefix, values_in, bits_in, mistyped, read_values}
use Rattle.label.proofs.Values.{padding}
use Rattle.label.proofs.read_values.Goals as goal

-- what is verified are the values behind the beginning
sum_told : (text : List ℕ) {b v : Bool} → v ≡ verified prefix (map value_of (take (length text - 5) (drop 5 text))) → v ≡ b → verified prefix (values_in text) ≡ b
sum_told text told e =
    sym (told ∙ ap (λ (l : List ℕ). verified prefix (map value_of l)) (part-rest text 5)) ∙ e

-- past a right checksum the last value says whether there is padding
padding-told : (text : List ℕ) {b : Bool} {v : ℕ} → length text ≡ label_width → verified prefix (values_in text) ≡ true → v ≡ value_of (get_or text 30 0) → eqb (v % 4) 0 ≡ b
    → read_values text ≡ refuse_unless b (mistyped Padding 30) (Ok (cell_of (bits_in text / 4)))
unfolding read_values
padding-told text long sum value e =
    let last = padding text long ∙ ap (λ (v : ℕ). v % 4) (sym value) in
    simp (eq-eqb _ _ long, sum, ap (λ (n : ℕ). eqb n 0) last ∙ e)

pub returns-then-text-ne-LABEL_WIDTH : goal.returns-then-text-ne-LABEL_WIDTH
unfolding read_values
returns-then-text-ne-LABEL_WIDTH c = c.mistyped.ensures ∙ simp (ne_eqb _ _ c.if-text-ne-LABEL_WIDTH.true)

pub returns-then-not-verify_characters : goal.returns-then-not-verify_characters
unfolding read_values
returns-then-not-verify_characters c =
    c.mistyped-then-not-verify_characters.ensures ∙ simp (eq-eqb _ _ c.if-text-ne-LABEL_WIDTH.false, sum_told c.args.text.now c.verify_characters.ensures c.if-not-verify_characters.true)

pub returns-then-value_of-ne0 : goal.returns-then-value_of-ne0
returns-then-value_of-ne0 c = c.mistyped-then-value_of-ne0.ensures ∙ sym (padding-told c.args.text.now c.if-text-ne-LABEL_WIDTH.false (sum_told c.args.text.now c.verify_characters.ensures c.if-not-verify_characters.false) c.value_of.ensures (ne_eqb _ _ c.if-value_of-ne0.true))

pub returns : goal.returns
returns c = ap Ok c.cell_in.ensures ∙ sym (padding-told c.args.text.now c.if-text-ne-LABEL_WIDTH.false (sum_told c.args.text.now c.verify_characters.ensures c.if-not-verify_characters.false) c.value_of.ensures (eq-eqb _ _ c.if-value_of-ne0.false))
