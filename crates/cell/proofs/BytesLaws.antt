-- What follows from the definitions of a cell's bytes: a cell and its 16 bytes make each other again, alone and within a longer list, cells are ordered as their bytes
-- are, and a list of cells has them at every sixteenth byte.
use Rattle.std.specs.Prelude.{Ok, Err}
use mathlib.Core.Bool.{Bool, cond, true, false}
use mathlib.Core.List.{List, [], ◌∷◌, ◌++◌, reverse, append_assoc, append-nil}
use mathlib.Core.Path.{◌≡◌, refl, sym, ap, ap₂, ◌∙◌, subst}
use Prim.Native.Nat.{ℕ, zero, suc, ◌+◌, ◌*◌, ◌/◌, ◌^◌, ◌≤◌, ◌<◌}
use native.Mathlib.Nat.{mul_comm}
use native.Mathlib.Omega.{arith}
use borrow.Author.Tests.{eq-eqb, le-ltb}
use lib.Dec.{eqb, ltb}
use lib.ListN.{length, take, drop, get_or, replicate, drop_of_length-le}
use lib.Seq.{take_all, take-add, drop-drop, sets-eq}
use Rattle.general.specs.Each.{Each}
use Rattle.refusal.specs.declared.Cell.{Cell}
use Rattle.refusal.specs.Refusals.{raw_of}
use Rattle.refusal.specs.declared.Refusal.TheVariants.{BadList}
use Rattle.words.specs.Word.{big, number, ordered, word, stored, Bytes}
use Rattle.words.proofs.Word.{Apart}
use Rattle.words.proofs.Laws.{length-stored, word-stored, word-stored-apart, bytes_of-part, word-drop, word_lt, word-split-big}
use Rattle.cell.specs.Bytes.{cell_at, cell_bytes, from_bytes_of, bytes_less}
use Rattle.cell.specs.Inner.Bytes.{cell_stored}
use Rattle.cell.specs.Lists.{cells_from, cells_of}
use Rattle.cell.proofs.Stored.{length-cell_bytes}
use Rattle.cell.specs.Cell.{less_cell}
use Rattle.cell.proofs.Stored as bytes
use Rattle.cell.specs.Terms.{Words}
use Rattle.cell.proofs.Bits.{less-digits}

-- ---- a stored cell

-- the list in three parts
pub cell-stored-parts : (l : List ℕ) (p : ℕ) (c : Cell) → p + 16 ≤ length l → cell_stored l p c ≡ take p l ++ (cell_bytes c ++ drop (p + 16) l)
cell-stored-parts l p c h =
    let size = length-cell_bytes c in
    bytes.cell-stored-sets l p c ∙ rw size at (sets-eq (cell_bytes c) l p (omega arith)) ∙ append_assoc (take p l) (cell_bytes c) (drop (p + 16) l)

-- in 16 bytes nothing else is left
pub cell-stored-whole : (l : List ℕ) (c : Cell) → length l ≡ 16 → cell_stored l 0 c ≡ cell_bytes c
cell-stored-whole l c e = cell-stored-parts l 0 c (omega arith) ∙ rw (drop_of_length-le l {i = 16} (omega arith), append-nil)

-- what is stored is read
pub cell-stored : (l : List ℕ) (p : ℕ) (c : Cell) → p + 16 ≤ length l → Words c → cell_at (cell_stored l p c) p ≡ c
unfolding cell_stored cell_at
cell-stored l p c h w =
    let first = stored big 8 l p c.high in
    let long : length first ≡ length l = length-stored big 8 l p c.high in
    let high : word big 8 (stored big 8 first (p + 8) c.low) p ≡ c.high = word-stored-apart big big 8 8 first (p + 8) c.low p (omega arith) ∙ word-stored big 8 l p c.high (omega arith) (omega arith) in
    let low : word big 8 (stored big 8 first (p + 8) c.low) (p + 8) ≡ c.low = word-stored big 8 first (p + 8) c.low (omega arith) (omega arith) in
    λ i. record { high = high i; low = low i }

-- a cell elsewhere is not changed
pub cell-stored-apart : (l : List ℕ) (p : ℕ) (c : Cell) (q : ℕ) → Apart p 16 q 16 → cell_at (cell_stored l p c) q ≡ cell_at l q
unfolding cell_stored cell_at
cell-stored-apart l p c q h = λ i. record { high = kept q (omega arith) (omega arith) i; low = kept (q + 8) (omega arith) (omega arith) i }
  where
    kept : (r : ℕ) → Apart p 8 r 8 → Apart (p + 8) 8 r 8 → word big 8 (stored big 8 (stored big 8 l p c.high) (p + 8) c.low) r ≡ word big 8 l r
    kept r f g = word-stored-apart big big 8 8 (stored big 8 l p c.high) (p + 8) c.low r g ∙ word-stored-apart big big 8 8 l p c.high r f

-- ---- a cell and its 16 bytes

-- "`from_bytes` takes all 16-byte values"
pub sixteen-bytes : (l : List ℕ) → length l ≡ 16 → from_bytes_of l ≡ Ok (cell_at l 0)
unfolding from_bytes_of
sixteen-bytes l e = rw (eq-eqb (length l) 16 e)

-- a cell that was read is two words of 64 bits
pub cell-words : (l : List ℕ) (p : ℕ) → Bytes l → Words (cell_at l p)
unfolding cell_at
cell-words l p b = record { high_word = word_lt big 8 l p b; low-word = word_lt big 8 l (p + 8) b }

-- read after write
cell-read-back : (c : Cell) → Words c → cell_at (cell_bytes c) 0 ≡ c
cell-read-back c w =
    let zeros : List ℕ = replicate 16 0 in
    ap (λ (l : List ℕ). cell_at l 0) (sym (cell-stored-whole zeros c refl)) ∙ cell-stored zeros 0 c (omega arith) w

pub bytes-read-back : (c : Cell) → Words c → from_bytes_of (cell_bytes c) ≡ Ok c
bytes-read-back c w = sixteen-bytes (cell_bytes c) (length-cell_bytes c) ∙ ap Ok (cell-read-back c w)

-- the bytes of the cell at p are those that stand there
pub cell-bytes-part : (l : List ℕ) (p : ℕ) → p + 16 ≤ length l → Bytes l → cell_bytes (cell_at l p) ≡ take 16 (drop p l)
unfolding cell_at cell_bytes
cell-bytes-part l p h b =
    (λ i. bytes_of-part big 8 l p (omega arith) b i ++ bytes_of-part big 8 l (p + 8) (omega arith) b i)
    ∙ ap (λ (m : List ℕ). take 8 (drop p l) ++ take 8 m) (sym (drop-drop 8 p l))
    ∙ sym (take-add 8 8 (drop p l))

-- write after read
pub read-bytes-back : (l : List ℕ) → length l ≡ 16 → Bytes l → cell_bytes (cell_at l 0) ≡ l
read-bytes-back l e b = cell-bytes-part l 0 (omega arith) b ∙ take_all 16 l (omega arith)

-- ---- the order

first_byte : (a : ℕ) (l : List ℕ) → word big 1 (a ∷ l) 0 ≡ a
unfolding word ordered number
first_byte a l = omega arith

word-cons : (n a : ℕ) (l : List ℕ) → length l ≡ n → word big (suc n) (a ∷ l) 0 ≡ a * 256 ^ n + word big n l 0
word-cons n a l e =
    let size : suc n ≡ 1 + n = omega arith in
    ap (λ (k : ℕ). word big k (a ∷ l) 0) size
    ∙ word-split-big 1 n (a ∷ l) 0 (omega arith)
    ∙ ap₂ (λ (low high : ℕ). low + 256 ^ n * high) (sym (word-drop big n (a ∷ l) 1 0)) (first_byte a l)
    ∙ omega (arith, mul_comm a (256 ^ n))

words-ordered : (l m : List ℕ) → length m ≡ length l → Bytes l → Bytes m → ltb (word big (length l) l 0) (word big (length l) m 0) ≡ bytes_less l m
unfolding bytes_less
words-ordered [] [] e f g = le-ltb (word big 0 [] 0) (word big 0 [] 0) (omega arith)
words-ordered [] (b ∷ m) e f g = absurd (omega arith)
words-ordered (a ∷ l) [] e f g = absurd (omega arith)
words-ordered (a ∷ l) (b ∷ m) e f g =
    let n = length l in
    let rest-l : Bytes l = λ i. f (suc i) in
    let rest-m : Bytes m = λ i. g (suc i) in
    ap₂ ltb (word-cons n a l refl) (word-cons n b m (omega arith))
    ∙ less-digits (256 ^ n) a (word big n l 0) b (word big n m 0) (word_lt big n l 0 rest-l) (word_lt big n m 0 rest-m)
    ∙ ap (λ (t : Bool). cond (eqb a b) t (ltb a b)) (words-ordered l m (omega arith) rest-l rest-m)

raw_word : (l : List ℕ) → length l ≡ 16 → raw_of (cell_at l 0) ≡ word big 16 l 0
unfolding raw_of cell_at
raw_word l e = omega (arith, word-split-big 8 8 l 0 (omega arith))

-- a cell's number is that of its bytes
pub raw-bytes : (c : Cell) → Words c → number (reverse (cell_bytes c)) ≡ raw_of c
unfolding word ordered
raw-bytes c w =
    let l = cell_bytes c in
    let size = length-cell_bytes c in
    sym (ap raw_of (sym (cell-read-back c w)) ∙ raw_word l size ∙ ap (λ (m : List ℕ). number (reverse m)) (take_all 16 l (omega arith)))

-- cells are ordered as their bytes are
pub order-bytes : (l m : List ℕ) → length l ≡ 16 → length m ≡ 16 → Bytes l → Bytes m → less_cell (cell_at l 0) (cell_at m 0) ≡ bytes_less l m
order-bytes l m e f g h =
    ap₂ ltb (raw_word l e) (raw_word m f)
    ∙ ap (λ (n : ℕ). ltb (word big n l 0) (word big n m 0)) (sym e)
    ∙ words-ordered l m (f ∙ sym e) g h

-- ---- a list of cells

cells-from-words : (l : List ℕ) (i n : ℕ) → Bytes l → Each Words (cells_from l i n)
unfolding cells_from
cells-from-words l i zero b = tt
cells-from-words l i (suc n) b = (cell-words l (16 * i) b, cells-from-words l (suc i) n b)

-- so is each cell of a list
pub cells-words : (l : List ℕ) → Bytes l → Each Words (cells_of l)
unfolding cells_of
cells-words l b = cells-from-words l 0 (length l / 16) b

length-cells-from : (l : List ℕ) (i n : ℕ) → length (cells_from l i n) ≡ n
unfolding cells_from
length-cells-from l i zero = refl
length-cells-from l i (suc n) = ap suc (length-cells-from l (suc i) n)

-- a list has a sixteenth as many cells as bytes
pub length-cells : (l : List ℕ) → length (cells_of l) ≡ length l / 16
unfolding cells_of
length-cells l = length-cells-from l 0 (length l / 16)

cell-from-index : (l : List ℕ) (i n k : ℕ) (d : Cell) → k < n → get_or (cells_from l i n) k d ≡ cell_at l (16 * (i + k))
unfolding cells_from
cell-from-index l i zero k d h = absurd (omega arith)
cell-from-index l i (suc n) zero d h = ap (λ (j : ℕ). cell_at l (16 * j)) (omega arith)
cell-from-index l i (suc n) (suc k) d h = cell-from-index l (suc i) n k d (omega arith) ∙ ap (λ (j : ℕ). cell_at l (16 * j)) (omega arith)

-- the cell at an index of it
pub cell-at-index : (l : List ℕ) (i : ℕ) (d : Cell) → i < length l / 16 → get_or (cells_of l) i d ≡ cell_at l (16 * i)
unfolding cells_of
cell-at-index l i d h = cell-from-index l 0 (length l / 16) i d h ∙ ap (λ (j : ℕ). cell_at l (16 * j)) (omega arith)

-- the cell of 16 bytes is one of two words
pub read-words : (m : List ℕ) (c : Cell) → Bytes m → from_bytes_of m ≡ Ok c → Words c
unfolding from_bytes_of cell_at
read-words m c b e = by_length (eqb (length m) 16) e
  where
    by_length : (t : Bool) → cond t (Ok (cell_at m 0)) (Err BadList) ≡ Ok c → Words c
    by_length true q = let same : cell_at m 0 ≡ c = cc in subst Words same (cell-words m 0 b)
    by_length false q = absurd (let z : ◌≡◌ {A = ℕ} 0 1 = cc in omega arith)
