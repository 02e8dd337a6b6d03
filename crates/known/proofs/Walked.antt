-- The walk along the chain of a cell, over the bytes: from the chain's head, link by link, past records that have another cell.
use Rattle.std.proofs.Common.{◌≡◌, ℕ, ◌-◌, ◌<◌, Bool, true, false, List, sym, ap, ◌∙◌, subst, arith}
use borrow.Author.Tests.{eqb-false}
use Rattle.refusal.specs.declared.Cell.{Cell}
use Rattle.refusal.specs.Refusals.{raw_of}
use Rattle.words.specs.Word.{Bytes}
use Rattle.cell.specs.Cell.{same_cell}
use Rattle.cell.specs.Terms.{Words}
use Rattle.cell.proofs.Laws.{same-cell}
use Rattle.known.proofs.Chain.{Walk}
use Rattle.known.specs.Inner.Chain.{Last}
use Rattle.known.proofs.ChainLaws.{walk_start, walk-next}
use Rattle.known.specs.Inner.Known.{Known, bucket_of, cell_in, head_in, link_in}
use Rattle.known.proofs.Laws.{bucket-lt, cell-words}

-- the walk has come to v, and has passed no record with the cell
abbrev pub Walked : List ℕ → ℕ → ℕ → Cell → ℕ → Type 0
Walked l room n c v = Walk (λ i. bucket_of (cell_in l room i) room) (λ i. cell_in l room i ≡ c) (bucket_of c room) n v

-- records with the cell are on its chain
on_chain : (l : List ℕ) (room : ℕ) (c : Cell) (i : ℕ) → cell_in l room i ≡ c → bucket_of (cell_in l room i) room ≡ bucket_of c room
on_chain l room c i e = ap (λ (d : Cell). bucket_of d room) e

-- what a test of a record's cell says
pub tested-same : (l : List ℕ) (room i : ℕ) (c : Cell) {d : Cell} {r : Bool} → Bytes l → Words c → d ≡ cell_in l room i → r ≡ same_cell d c → r ≡ true → cell_in l room i ≡ c
tested-same l room i c bytes words read is e = same-cell (cell_in l room i) c (cell-words l room i bytes) words (ap (λ (d : Cell). same_cell d c) (sym read) ∙ sym is ∙ e)

pub tested-other : (l : List ℕ) (room i : ℕ) (c : Cell) {d : Cell} {r : Bool} → d ≡ cell_in l room i → r ≡ same_cell d c → r ≡ false → cell_in l room i ≡ c → ⊥
tested-other l room i c {d} read is e same = eqb-false (raw_of d) (raw_of c) (sym is ∙ e) (ap raw_of (read ∙ same))

module _ (l : List ℕ) (room n : ℕ) (c : Cell) (known : Known l room n) where
  pub walked_none : (b v : ℕ) → b ≡ bucket_of c room → v ≡ head_in l b → Walked l room n c v
  walked_none b v e f =
      subst (Walked l room n c) (sym (f ∙ ap (head_in l) e))
      (walk_start (λ i. bucket_of (cell_in l room i) room) (λ i. cell_in l room i ≡ c) (on_chain l room c) (known.chain.heads (bucket_of c room) (bucket-lt c room known.roomy.least)))

  module _ (v w : ℕ) (walked : Walked l room n c v) (some : 0 < v) (e : w ≡ link_in l room (v - 1)) where
    linked : Last (λ i. bucket_of (cell_in l room i) room) (bucket_of (cell_in l room (v - 1)) room) (v - 1) w
    linked = subst (Last (λ i. bucket_of (cell_in l room i) room) (bucket_of (cell_in l room (v - 1)) room) (v - 1)) (sym e) (known.chain.nexts (v - 1) (omega arith))

    pub link-less : w < v
    link-less = omega (arith, linked.bound)

    pub walked_more : (cell_in l room (v - 1) ≡ c → ⊥) → Walked l room n c w
    walked_more other = walk-next (λ i. bucket_of (cell_in l room i) room) (λ i. cell_in l room i ≡ c) (on_chain l room c) walked some other linked
