-- By the room; the label is copied to the front.
use mathlib.Core.Path.{◌≡◌, sym, ap, ◌∙◌}
use mathlib.Core.List.{List, ◌++◌}
use Prim.Native.Nat.{ℕ}
use native.Mathlib.Omega.{arith}
use lib.ListN.{take, drop}
use lib.Seq.{take_all}
use Rattle.refusal.specs.declared.Cell.{Cell}
use Rattle.label.specs.Label.{label_of}
use Rattle.label.proofs.Labels.{length_label}
use Rattle.face.specs.Told.{fronted}
use Rattle.tishkolan.proofs.Writing.{fill-no-room, fill-front}
use Rattle.tishkolan.proofs.labels.put_label.Goals as goal

copied : (c : Cell) (text out : List ℕ) → text ≡ label_of c → take 37 text ++ drop 37 out ≡ fronted (label_of c) out
copied c text out e =
    (λ i. take 37 (e i) ++ drop 37 out)
    ∙ ap (λ (l : List ℕ). l ++ drop 37 out) (take_all 37 (label_of c) (omega (arith, length_label c)))
    ∙ ap (λ (n : ℕ). label_of c ++ drop n out) (sym (length_label c))

pub returns-then-out-lt-LABEL_WIDTH : goal.returns-then-out-lt-LABEL_WIDTH
returns-then-out-lt-LABEL_WIDTH c =
    let size = length_label c.args.c in
    fill-no-room (label_of c.args.c) c.args.out.now (omega arith) c.into.ensures

pub returns : goal.returns
returns c =
    let size = length_label c.args.c in
    fill-front (label_of c.args.c) c.args.out.now (omega arith) c.answered.ensures
    (c.copy_front.ensures ∙ copied c.args.c c.to_bech32m-text.result c.args.out.now c.to_bech32m-text.ensures)
