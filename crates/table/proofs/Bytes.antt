-- Rows and their bytes make each other again: rows that are laid into a table are read from it, and to lay what was read changes nothing. Over the width of a record,
-- which is 16 bytes of cell at least.
use Rattle.std.specs.Prelude.{Option, Some, None}
use mathlib.Core.Path.{◌≡◌, refl, sym, ap, ap₂, ◌∙◌}
use mathlib.Core.Bool.{Bool, true, false, cond}
use mathlib.Core.List.{List, [], ◌∷◌, ◌++◌, flat_map, append_assoc}
use Prim.Native.Nat.{ℕ, zero, suc, ◌+◌, ◌-◌, ◌*◌, ◌^◌, ◌≤◌, ◌<◌}
use native.Mathlib.Nat.{mul-suc, mul-zero}
use native.Mathlib.Omega.{arith}
use lib.ListN.{length, take, drop, length-append, length-drop, take-append-drop}
use lib.Seq.{drop_at, drop-drop, take-add}
use Rattle.refusal.specs.declared.Cell.{Cell}
use Rattle.words.specs.Word.{big, word, bytes_of, Bytes}
use Rattle.words.proofs.Laws.{length-bytes_of, word-bytes_of, word-append-left, word-append-right, word-drop, word_lt, bytes_of-part}
use Rattle.cell.specs.Cell.{same_cell, less_cell}
use Rattle.cell.specs.Bytes.{cell_at, cell_bytes}
use Rattle.cell.proofs.Stored.{length-cell_bytes}
use Rattle.cell.proofs.BytesLaws.{cell-bytes-part, cell-words}
use Rattle.table.specs.Records.{Row, held_of, row_at, rows_from, rows_of, row_bytes, laid, with_row, without_cell}
use Rattle.table.specs.Terms.{Storable, AllStorable, no_rows, one_more}

-- ---- one row

pub length-row_bytes : (w : ℕ) (r : Row) → 16 ≤ w → length (row_bytes w r) ≡ w
unfolding row_bytes
length-row_bytes w r h =
    let cells = length-cell_bytes r.cell in
    let rest = length-bytes_of big (w - 16) r.kept in
    length-append (cell_bytes r.cell) (bytes_of big (w - 16) r.kept) ∙ omega (arith, h, cells, rest)

-- the number whose bytes stand after p others
word_after : (n v p : ℕ) (l m : List ℕ) → length l ≡ p → v < 256 ^ n → word big n (l ++ (bytes_of big n v ++ m)) p ≡ v
word_after n v p l m e h =
    let long = length-bytes_of big n v in
    let start : p ≡ length l + 0 = omega (arith, e) in
    ap (word big n (l ++ (bytes_of big n v ++ m))) start
    ∙ word-append-right big n l (bytes_of big n v ++ m) 0
    ∙ word-append-left big n (bytes_of big n v) m 0 (omega (arith, long))
    ∙ word-bytes_of big n v h

-- a row's bytes, whatever follows them, make it again
row_back : (w : ℕ) (r : Row) (m : List ℕ) → Storable w r → row_at w (row_bytes w r ++ m) 0 ≡ r
unfolding row_at row_bytes cell_at cell_bytes
row_back w r m s =
    let high-bytes = bytes_of big 8 r.cell.high in
    let low-bytes = bytes_of big 8 r.cell.low in
    let kept-bytes = bytes_of big (w - 16) r.kept in
    let whole = ((high-bytes ++ low-bytes) ++ kept-bytes) ++ m in
    let parts : whole ≡ (high-bytes ++ low-bytes) ++ (kept-bytes ++ m) = append_assoc (high-bytes ++ low-bytes) kept-bytes m in
    let three : whole ≡ high-bytes ++ (low-bytes ++ (kept-bytes ++ m)) = parts ∙ append_assoc high-bytes low-bytes (kept-bytes ++ m) in
    let at_high : word big 8 whole (w * 0) ≡ r.cell.high = ap₂ (word big 8) three (mul-zero w) ∙ word_after 8 r.cell.high 0 [] (low-bytes ++ (kept-bytes ++ m)) refl s.words.high_word in
    let at_low : word big 8 whole (w * 0 + 8) ≡ r.cell.low = ap₂ (word big 8) three (ap (λ (k : ℕ). k + 8) (mul-zero w)) ∙ word_after 8 r.cell.low 8 high-bytes (kept-bytes ++ m) (length-bytes_of big 8 r.cell.high) s.words.low-word in
    let at-kept : word big (w - 16) whole (w * 0 + 16) ≡ r.kept = ap₂ (word big (w - 16)) parts (ap (λ (k : ℕ). k + 16) (mul-zero w)) ∙ word_after (w - 16) r.kept 16 (high-bytes ++ low-bytes) m (length-cell_bytes r.cell) s.small in
    λ i. record { cell = record { high = at_high i; low = at_low i }; kept = at-kept i }

-- and the bytes of the row that was read are those that stand there
pub row-part : (w : ℕ) (l : List ℕ) (i : ℕ) → 16 ≤ w → w * i + w ≤ length l → Bytes l → row_bytes w (row_at w l i) ≡ take w (drop (w * i) l)
unfolding row_at row_bytes
row-part w l i h f b =
    let size : 16 + (w - 16) ≡ w = omega (arith, h) in
    ap₂ ◌++◌ (cell-bytes-part l (w * i) (omega arith) b) (bytes_of-part big (w - 16) l (w * i + 16) (omega arith) b ∙ ap (take (w - 16)) (sym (drop-drop 16 (w * i) l)))
    ∙ sym (take-add 16 (w - 16) (drop (w * i) l))
    ∙ ap (λ (k : ℕ). take k (drop (w * i) l)) size

-- and so of n rows
pub rows-part : (w : ℕ) (l : List ℕ) (i n : ℕ) → 16 ≤ w → w * i + w * n ≤ length l → Bytes l → flat_map (row_bytes w) (rows_from w l i n) ≡ take (w * n) (drop (w * i) l)
unfolding rows_from flat_map
rows-part w l i zero h f b = sym (ap (λ (k : ℕ). take k (drop (w * i) l)) (mul-zero w))
rows-part w l i (suc n) h f b =
    let more = mul-suc w n in
    let next : w * suc i ≡ w * i + w = omega (arith, mul-suc w i) in
    let size : w + w * n ≡ w * suc n = omega (arith, more) in
    ap₂ ◌++◌ (row-part w l i h (omega (arith, more)) b) (rows-part w l (suc i) n h (omega (arith, more, next)) b ∙ ap (take (w * n)) (ap (λ (k : ℕ). drop k l) next ∙ sym (drop-drop w (w * i) l)))
    ∙ sym (take-add w (w * n) (drop (w * i) l))
    ∙ ap (λ (k : ℕ). take k (drop (w * i) l)) size

pub bytes-of-rows : (w : ℕ) (l : List ℕ) (n : ℕ) → 16 ≤ w → w * n ≤ length l → Bytes l → flat_map (row_bytes w) (rows_of w l n) ≡ take (w * n) l
unfolding rows_of
bytes-of-rows w l n h f b = rows-part w l 0 n h (omega (arith, mul-zero w)) b ∙ ap (λ (k : ℕ). take (w * n) (drop k l)) (mul-zero w)

-- ---- the first row and the later ones

-- the row at the next index is that of the table without its first record
row_next : (w : ℕ) (l : List ℕ) (i : ℕ) → row_at w l (suc i) ≡ row_at w (drop w l) i
unfolding row_at cell_at
row_next w l i =
    let start : w * suc i ≡ w + w * i = omega (arith, mul-suc w i) in
    λ j. record { cell = record { high = later 8 (w * suc i) (w * i) start j; low = later 8 (w * suc i + 8) (w * i + 8) (omega (arith, start)) j }; kept = later (w - 16) (w * suc i + 16) (w * i + 16) (omega (arith, start)) j }
  where
    later : (n p q : ℕ) → p ≡ w + q → word big n l p ≡ word big n (drop w l) q
    later n p q e = ap (word big n l) e ∙ sym (word-drop big n l w q)

rows_next : (w : ℕ) (l : List ℕ) (i n : ℕ) → rows_from w l (suc i) n ≡ rows_from w (drop w l) i n
unfolding rows_from
rows_next w l i zero = refl
rows_next w l i (suc n) = ap₂ ◌∷◌ (row_next w l i) (rows_next w l (suc i) n)

laid_cons : (w : ℕ) (r : Row) (rs : List Row) (l : List ℕ) → laid w (r ∷ rs) l ≡ row_bytes w r ++ laid w rs (drop w l)
unfolding laid flat_map
laid_cons w r rs l =
    let e : w * suc (length rs) ≡ w + w * length rs = omega (arith, mul-suc w (length rs)) in
    append_assoc (row_bytes w r) (flat_map (row_bytes w) rs) (drop (w * suc (length rs)) l)
    ∙ ap (λ (m : List ℕ). row_bytes w r ++ (flat_map (row_bytes w) rs ++ m)) (ap (λ (k : ℕ). drop k l) e ∙ sym (drop-drop (w * length rs) w l))

-- ---- any number of rows

-- a table keeps its length
pub length-laid : (w : ℕ) (rs : List Row) (l : List ℕ) → 16 ≤ w → w * length rs ≤ length l → length (laid w rs l) ≡ length l
unfolding laid flat_map
length-laid w [] l h f = ap (λ (k : ℕ). length (drop k l)) (mul-zero w)
length-laid w (r ∷ rs) l h f =
    let step = mul-suc w (length rs) in
    let dropped = length-drop w l in
    let rest = length-laid w rs (drop w l) h (omega (arith, step, dropped, f)) in
    ap length (laid_cons w r rs l)
    ∙ length-append (row_bytes w r) (laid w rs (drop w l))
    ∙ omega (arith, length-row_bytes w r h, rest, dropped, step, f)

pub length-rows_from : (w : ℕ) (l : List ℕ) (i n : ℕ) → length (rows_from w l i n) ≡ n
unfolding rows_from
length-rows_from w l i zero = refl
length-rows_from w l i (suc n) = ap suc (length-rows_from w l (suc i) n)

-- rows that are laid into a table are read from it
pub rows-laid : (w : ℕ) (rs : List Row) (l : List ℕ) → 16 ≤ w → AllStorable w rs → rows_of w (laid w rs l) (length rs) ≡ rs
unfolding rows_of rows_from
rows-laid w [] l h no_rows = refl
rows-laid w (r ∷ rs) l h (one_more s a) =
    let rest = laid w rs (drop w l) in
    ap (λ (m : List ℕ). rows_from w m 0 (suc (length rs))) (laid_cons w r rs l)
    ∙ ap₂ ◌∷◌ (row_back w r rest s)
    (rows_next w (row_bytes w r ++ rest) 0 (length rs)
    ∙ ap (λ (m : List ℕ). rows_from w m 0 (length rs)) (drop_at (row_bytes w r) rest w (length-row_bytes w r h))
    ∙ rows-laid w rs (drop w l) h a)

-- to lay the rows that were read changes nothing
pub laid-rows : (w : ℕ) (l : List ℕ) (n : ℕ) → 16 ≤ w → w * n ≤ length l → Bytes l → laid w (rows_of w l n) l ≡ l
unfolding rows_of laid
laid-rows w l n h f b =
    ap₂ ◌++◌ (bytes-of-rows w l n h f b) (ap (λ (k : ℕ). drop (w * k) l) (length-rows_from w l 0 n))
    ∙ take-append-drop (w * n) l

-- ---- rows that can be stored

-- one that was read from bytes can
pub row-storable : (w : ℕ) (l : List ℕ) (i : ℕ) → Bytes l → Storable w (row_at w l i)
unfolding row_at cell_at
row-storable w l i b =
    record {
      words = cell-words l (w * i) b;
      small = word_lt big (w - 16) l (w * i + 16) b;
    }

-- and so can those that were
pub rows-storable : (w : ℕ) (l : List ℕ) (i n : ℕ) → Bytes l → AllStorable w (rows_from w l i n)
unfolding rows_from
rows-storable w l i zero b = no_rows
rows-storable w l i (suc n) b = one_more (row-storable w l i b) (rows-storable w l (suc i) n b)

-- those of two lists together
pub storable-append : (w : ℕ) (rs ss : List Row) → AllStorable w rs → AllStorable w ss → AllStorable w (rs ++ ss)
storable-append w [] ss no_rows b = b
storable-append w (r ∷ rs) ss (one_more h a) b = one_more h (storable-append w rs ss a b)

set-storable : (w : ℕ) (s r : Row) (rs : List Row) (below same : Bool) → Storable w s → Storable w r → AllStorable w rs → AllStorable w (with_row s rs) → AllStorable w (cond below (s ∷ (r ∷ rs)) (cond same (s ∷ rs) (r ∷ with_row s rs)))
set-storable w s r rs true same h g a rest = one_more h (one_more g a)
set-storable w s r rs false true h g a rest = one_more h a
set-storable w s r rs false false h g a rest = one_more g rest

-- with such a row set among them, they still can
pub with-storable : (w : ℕ) (s : Row) (rs : List Row) → Storable w s → AllStorable w rs → AllStorable w (with_row s rs)
unfolding with_row
with-storable w s [] h no_rows = one_more h no_rows
with-storable w s (r ∷ rs) h (one_more g a) = set-storable w s r rs (less_cell s.cell r.cell) (same_cell r.cell s.cell) h g a (with-storable w s rs h a)

remove-storable : (w : ℕ) (c : Cell) (r : Row) (rs : List Row) (same : Bool) → Storable w r → AllStorable w rs → AllStorable w (without_cell c rs) → AllStorable w (cond same rs (r ∷ without_cell c rs))
remove-storable w c r rs true g a rest = a
remove-storable w c r rs false g a rest = one_more g rest

-- and with a cell removed
pub without-storable : (w : ℕ) (c : Cell) (rs : List Row) → AllStorable w rs → AllStorable w (without_cell c rs)
unfolding without_cell
without-storable w c [] no_rows = no_rows
without-storable w c (r ∷ rs) (one_more g a) = remove-storable w c r rs (same_cell r.cell c) g a (without-storable w c rs a)

-- ---- what is kept of a cell

-- a record of w bytes has room for it
abbrev pub Small : ℕ → Option ℕ → Type 0
Small w None = Unit {0}
Small w (Some k) = k < 256 ^ (w - 16)

either-small : (w : ℕ) (same : Bool) (k : ℕ) (h : Option ℕ) → k < 256 ^ (w - 16) → Small w h → Small w (cond same (Some k) h)
either-small w true k h p q = p
either-small w false k h p q = q

pub held_small : (w : ℕ) (c : Cell) (rs : List Row) → AllStorable w rs → Small w (held_of c rs)
unfolding held_of
held_small w c [] no_rows = tt
held_small w c (r ∷ rs) (one_more s a) = either-small w (same_cell r.cell c) r.kept (held_of c rs) s.small (held_small w c rs a)
