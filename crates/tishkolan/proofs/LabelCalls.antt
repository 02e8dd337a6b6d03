-- What the two calls on labels say of each other, over their own contracts: what `tishkolan_cell_to_bech32m` leaves is read as the cell (`label-read-back`), and what is read as a cell is
-- what it leaves of that cell, or that in upper case (`label-read-alone`). And what BIP 350 says of the strings that are read (`label-told-exactly`).
use Rattle.std.specs.Prelude.{Result, Ok, Err}
use mathlib.Core.Path.{◌≡◌, refl, sym, ap, ◌∙◌}
use mathlib.Core.List.{List, map}
use mathlib.Core.Logic.{◌↔◌, ◌⊎◌, ⊎_elim, inl, inr}
use Prim.Native.Nat.{ℕ, ◌≤◌}
use lib.ListN.{length, take, drop}
use lib.Seq.{take_at}
use Rattle.refusal.specs.declared.Cell.{Cell}
use Rattle.refusal.specs.declared.Refusal.{Refusal}
use Rattle.refusal.specs.Refusals.{number_of}
use Rattle.refusal.proofs.Numbers.{refused-number}
use Rattle.words.specs.Word.{Bytes}
use Rattle.cell.specs.Bytes.{cell_bytes, cell_width, from_bytes_of, by_cell}
use Rattle.cell.proofs.BytesLaws.{bytes-read-back, read-bytes-back, read-words}
use Rattle.cell_list.proofs.ReadBack.{read_cell}
use Rattle.label.specs.Label.{label_of, read_of}
use Rattle.label.specs.Terms.{uppered, IsLabel}
use Rattle.label.proofs.Labels.{length_label, words-read, read-written, one_label}
use Rattle.label.proofs.Bech32m.{label-is-bech32m, padding-of-label}
use Rattle.face.specs.declared.RefusalTold.{RefusalTold}
use Rattle.face.specs.Told.{Filled, filled, fill}
use Rattle.face.specs.Cells.{unfilled, fill_cell}
use Rattle.face.specs.Labels.{label_told, PlaceFilled, place_filled, place_in, at_place, cell_told}
use Rattle.face.specs.Terms.{no_mistake}
use Rattle.tishkolan.proofs.Filling.{front-filled}
use Rattle.tishkolan.proofs.Packing.{made, filled-front}
use Rattle.tishkolan.proofs.Calls.{CellToBech32m, named, label_left, CellFromBech32m, spelled, cell_lent, cell_left}

-- where writing tells 0, it was handed a cell, and the cell's label stands at the front
written : (l out last : List ℕ) (t : RefusalTold) → filled t last ≡ label_told l out → t.number ≡ 0 → (c : Cell) × (from_bytes_of l ≡ Ok c) × (take 37 last ≡ label_of c)
unfolding label_told
written l out last t p nought = by-cell (from_bytes_of l) refl p
  where
    by-cell : (a : Result Cell Refusal) → from_bytes_of l ≡ a → filled t last ≡ by_cell (unfilled out) (λ c. fill (label_of c) out) a → (c : Cell) × (from_bytes_of l ≡ Ok c) × (take 37 last ≡ label_of c)
    by-cell (Err r) e q = absurd (refused-number r (sym (ap (λ (z : Filled ℕ). z.told.number) q) ∙ nought))
    by-cell (Ok c) e q =
        let front = front-filled t (label_of c) out last nought q in
        (c, e, ap (take 37) front ∙ take_at (label_of c) (drop (length (label_of c)) out) 37 (length_label c))

pub label-read-back :
    (write : CellToBech32m) (read : CellFromBech32m) → Bytes (named write) → write.told.number ≡ 0 → spelled read ≡ label_left write → cell_width ≤ length (cell_lent read)
    → (read.told ≡ no_mistake) × (cell_left read ≡ named write)
unfolding cell_told
label-read-back write read bytes nought same room =
    let w = written (named write) write.arguments.1.0.now write.exit.1.0.now write.told write.meets nought in
    let c = w.0 in
    let is_read : read_of (spelled read) ≡ Ok c = ap read_of (same ∙ w.2) ∙ read-written c (read-words (named write) c bytes w.1) in
    let told : place_filled read.told read.exit.1.0.now ≡ at_place 0 (fill_cell (cell_lent read) (Ok c)) = read.meets ∙ ap (λ (a : Result Cell Refusal). at_place (place_in a) (fill_cell (cell_lent read) a)) is_read in
    let plain : filled read.told.refusal read.exit.1.0.now ≡ fill_cell (cell_lent read) (Ok c) = λ i. filled (told i).told.refusal (told i).out in
    let z = filled-front read.told.refusal (cell_lent read) read.exit.1.0.now c plain room in
    let one = read_cell (named write) c w.1 in
    ((λ i. record { refusal = z.0 i; place = (told i).told.place }), z.1 ∙ ap cell_bytes (sym one.1) ∙ read-bytes-back (named write) one.0 bytes)

pub label-read-alone :
    (read : CellFromBech32m) (write : CellToBech32m) → read.told.refusal.number ≡ 0 → write.told.number ≡ 0 → named write ≡ cell_left read
    → (spelled read ≡ label_left write) ⊎ (spelled read ≡ map uppered (label_left write))
unfolding cell_told
label-read-alone read write nought nought' same =
    let s = spelled read in
    let told = read.meets in
    let m = made (read_of s) read.told.refusal (cell_lent read) read.exit.1.0.now (λ i. filled (told i).told.refusal (told i).out) nought in
    let c = m.cell in
    let words = words-read s c m.is-cell in
    let w = written (named write) write.arguments.1.0.now write.exit.1.0.now write.told write.meets nought' in
    let is_c : ◌≡◌ {A = Result Cell Refusal} (Ok w.0) (Ok c) = sym w.1 ∙ ap from_bytes_of (same ∙ m.front) ∙ bytes-read-back c words in
    let label : label_of c ≡ label_left write = ap (by_cell (λ r. label_of c) label_of) (sym is_c) ∙ sym w.2 in
    ⊎_elim (λ e. inl (e ∙ label)) (λ e. inr (e ∙ ap (map uppered) label)) ((one_label s c words).0 m.is-cell)

pub label-told-exactly :
    (read : CellFromBech32m) → cell_width ≤ length (cell_lent read) → ((read.told.refusal.number ≡ 0) ⊎ (read.told.refusal.number ≡ 35)) ↔ IsLabel (spelled read)
unfolding cell_told
label-told-exactly read room = (past (read_of s) refl, λ l. ⊎_elim (λ h. inl (read_told h.0 h.1)) (λ e. inr (told e)) ((label-is-bech32m s).1 l))
  where
    s : List ℕ
    s = spelled read

    -- what is told by the answer
    by_answer : {a : Result Cell Refusal} → read_of s ≡ a → place_filled read.told read.exit.1.0.now ≡ at_place (place_in a) (fill_cell (cell_lent read) a)
    by_answer e = read.meets ∙ ap (λ (a : Result Cell Refusal). at_place (place_in a) (fill_cell (cell_lent read) a)) e

    told : {r : Refusal} → read_of s ≡ Err r → read.told.refusal.number ≡ number_of r
    told e = ap (λ (f : PlaceFilled). f.told.refusal.number) (by_answer e)

    read_told : (c : Cell) → read_of s ≡ Ok c → read.told.refusal.number ≡ 0
    read_told c e =
        let whole = by_answer e in
        ap (λ (t : RefusalTold). t.number) (filled-front read.told.refusal (cell_lent read) read.exit.1.0.now c (λ i. filled (whole i).told.refusal (whole i).out) room).0

    past : (a : Result Cell Refusal) → read_of s ≡ a → (read.told.refusal.number ≡ 0) ⊎ (read.told.refusal.number ≡ 35) → IsLabel s
    past (Ok c) e p = (label-is-bech32m s).0 (inl (c, e))
    past (Err r) e p = ⊎_elim (λ n. absurd (refused-number r (sym (told e) ∙ n))) (λ n. padding-of-label s r e (sym (told e) ∙ n)) p
