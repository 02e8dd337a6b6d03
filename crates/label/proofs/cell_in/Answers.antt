-- The invariant: the cell has the bits of the first values.
use mathlib.Core.List.{List}
use mathlib.Core.Path.{◌≡◌, sym, ap, ◌∙◌}
use Prim.Native.Nat.{ℕ, ◌+◌, ◌*◌, ◌/◌, ◌<◌}
use native.Mathlib.Omega.{arith}
use lib.ListN.{length, get_or, take, drop}
use lib.Seq.{get_or-take, get_or-drop}
use Rattle.std.specs.Prelude.{None}
use Rattle.bech32m.specs.Checksum.{value_of}
use Rattle.label.specs.Label.{label_width, unknown_at}
use Rattle.refusal.specs.Refusals.{raw_of, cell_of}
use Rattle.label.proofs.Values.{gathered_none, gathered-more, gathered-fits, gathered-all-fits, gathered-all, known-below}
use Rattle.label.proofs.cell_in.Goals as goal

-- the value that a turn takes
taken : (text : List ℕ) {v : ℕ} (i : ℕ) → i < 25 → v ≡ value_of (get_or (take 25 (drop 5 text)) i 0) → v ≡ value_of (get_or text (5 + i) 0)
taken text i h e = e ∙ ap value_of (get_or-take 25 (drop 5 text) i 0 h ∙ get_or-drop 5 text i 0)

-- it is below 32
taken-below : (text : List ℕ) {v : ℕ} (i : ℕ) → length text ≡ label_width → unknown_at text ≡ None → i < 25 → v ≡ value_of (get_or text (5 + i) 0) → v < 32
taken-below text i long known h e = rw e (known-below text known i (omega (arith, long, h)))

pub loop-character-init : goal.loop-character-init
loop-character-init c = gathered_none _

pub with_five-c-requires : goal.with_five-c-requires
with_five-c-requires c =
    let text = c.args.text.now in
    let here = c.loop-character in
    let i = here.character-index in
    let less : i < 25 = omega arith in
    (gathered-fits here.invariant c.requires.0 less, taken-below text i c.requires.0 c.requires.1 less (taken text i less c.value_of.ensures))

pub loop-character-preserved : goal.loop-character-preserved
loop-character-preserved c =
    let text = c.args.text.now in
    let here = c.loop-character in
    let i = here.character-index in
    let less : i < 25 = omega arith in
    let e = taken text i less c.value_of.ensures in
    gathered-more here.invariant c.requires.0 c.with_five-c.result c.value_of.result less (taken-below text i c.requires.0 c.requires.1 less e) e c.with_five-c.ensures

pub with_three-requires : goal.with_three-requires
with_three-requires c =
    let small = known-below c.args.text.now c.requires.1 25 (omega arith) in
    (gathered-all-fits c.loop-character.invariant c.requires.0 (omega arith), omega (arith, c.value_of-2.ensures))

pub returns : goal.returns
returns c =
    let here = c.loop-character in
    c.with_three.ensures
    ∙ ap cell_of (ap (λ (v : ℕ). raw_of here.c * 8 + v / 4) c.value_of-2.ensures ∙ sym (gathered-all here.invariant c.requires.0 (omega arith)))
