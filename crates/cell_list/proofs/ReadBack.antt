-- Cells that are laid in a buffer are read back from it: a list of bytes that holds them, one after the other, has these cells.
use Rattle.std.specs.Prelude.{Ok, Err}
use mathlib.Core.Path.{◌≡◌, refl, sym, ap, ◌∙◌}
use mathlib.Core.Bool.{Bool, true, false, cond}
use mathlib.Core.List.{List, [], ◌∷◌, ◌++◌, flat_map}
use Prim.Native.Nat.{ℕ, zero, suc, ◌+◌, ◌*◌, ◌/◌}
use native.Mathlib.Omega.{arith}
use borrow.Author.Tests.{eqb-true}
use lib.Dec.{eqb}
use lib.ListN.{length, take, drop}
use lib.Seq.{take_at, drop_at}
use Rattle.refusal.specs.declared.Cell.{Cell}
use Rattle.refusal.specs.declared.Refusal.TheVariants.{BadList}
use Rattle.words.specs.Word.{Bytes, big, bytes_of, word}
use Rattle.words.proofs.Laws.{bytes-append, bytes-zeros, bytes-bytes_of, word-append-left, word-drop}
use Rattle.general.specs.Each.{Each}
use Rattle.cell.specs.Bytes.{cell_at, cell_bytes, from_bytes_of}
use Rattle.cell.specs.Lists.{cells_from, cells_of}
use Rattle.cell.specs.Terms.{Words}
use Rattle.cell.proofs.BytesLaws.{sixteen-bytes, bytes-read-back}
use Rattle.cell.proofs.Stored.{length-cell_bytes}
use Rattle.cell_list.specs.Listing.{cells_laid}
use Rattle.cell_list.proofs.Laws.{length-cells-bytes}

-- bytes that are taken for a cell are sixteen, and the cell is theirs
pub read_cell : (l : List ℕ) (c : Cell) → from_bytes_of l ≡ Ok c → (length l ≡ 16) × (cell_at l 0 ≡ c)
unfolding from_bytes_of
read_cell l c = by_length (eqb (length l) 16) (eqb-true (length l) 16)
  where
    by_length : (t : Bool) → (t ≡ true → length l ≡ 16) → cond t (Ok (cell_at l 0)) (Err BadList) ≡ Ok c → (length l ≡ 16) × (cell_at l 0 ≡ c)
    by_length true f e = (f refl, cc)
    by_length false f e = absurd (let z : ◌≡◌ {A = ℕ} 0 1 = cc in omega arith)

-- a cell's bytes, whatever follows them, make it again
cell-back : (c : Cell) (m : List ℕ) → Words c → cell_at (cell_bytes c ++ m) 0 ≡ c
unfolding cell_at
cell-back c m words =
    let long = length-cell_bytes c in
    let own : Ok (cell_at (cell_bytes c) 0) ≡ Ok c = sym (sixteen-bytes (cell_bytes c) long) ∙ bytes-read-back c words in
    let high = word-append-left big 8 (cell_bytes c) m 0 (omega arith) in
    let low = word-append-left big 8 (cell_bytes c) m 8 (omega arith) in
    (λ i. record { high = high i; low = low i }) ∙ (cc)

-- the cells from the next index on are those of the bytes without their first sixteen
cells-next : (l : List ℕ) (i n : ℕ) → cells_from l (suc i) n ≡ cells_from (drop 16 l) i n
unfolding cells_from cell_at
cells-next l i zero = refl
cells-next l i (suc n) = λ j. record { high = later (16 * suc i) (16 * i) (omega arith) j; low = later (16 * suc i + 8) (16 * i + 8) (omega arith) j } ∷ cells-next l (suc i) n j
  where
    later : (p q : ℕ) → p ≡ 16 + q → word big 8 l p ≡ word big 8 (drop 16 l) q
    later p q e = ap (word big 8 l) e ∙ sym (word-drop big 8 l 16 q)

front-back : (cs : List Cell) → Each Words cs → cells_from (flat_map cell_bytes cs) 0 (length cs) ≡ cs
unfolding cells_from flat_map
front-back [] words = refl
front-back (c ∷ cs) words =
    let bytes = flat_map cell_bytes cs in
    let first = cell-back c bytes words.0 in
    let later = cells-next (cell_bytes c ++ bytes) 0 (length cs) ∙ ap (λ (m : List ℕ). cells_from m 0 (length cs)) (drop_at (cell_bytes c) bytes 16 (length-cell_bytes c)) ∙ front-back cs words.1 in
    λ i. first i ∷ later i

-- the bytes of cells of 128 bits are the list of these cells
pub cells-back : (cs : List Cell) → Each Words cs → cells_of (flat_map cell_bytes cs) ≡ cs
unfolding cells_of
cells-back cs words =
    let size : length (flat_map cell_bytes cs) / 16 ≡ length cs = omega (arith, length-cells-bytes cs) in
    ap (cells_from (flat_map cell_bytes cs) 0) size ∙ front-back cs words

-- they stand at the front of the buffer that they were laid in
pub laid-front : (cs : List Cell) (l : List ℕ) → take (16 * length cs) (cells_laid cs l) ≡ flat_map cell_bytes cs
unfolding cells_laid
laid-front cs l = take_at (flat_map cell_bytes cs) (drop (16 * length cs) l) (16 * length cs) (length-cells-bytes cs)

-- each is a byte, whatever the cells
pub cells-are-bytes : (cs : List Cell) → Bytes (flat_map cell_bytes cs)
unfolding flat_map cell_bytes
cells-are-bytes [] = bytes-zeros 0
cells-are-bytes (c ∷ cs) =
    let own = bytes-append (bytes_of big 8 c.high) (bytes_of big 8 c.low) (bytes-bytes_of big 8 c.high) (bytes-bytes_of big 8 c.low) in
    bytes-append (cell_bytes c) (flat_map cell_bytes cs) own (cells-are-bytes cs)
