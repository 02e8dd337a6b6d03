-- A record written, and a record that is gone: each as an equation of byte lists.
use mathlib.Core.Path.{◌≡◌, sym, ap, ap₂, ◌∙◌}
use mathlib.Core.List.{List, ◌++◌, append_assoc}
use Prim.Native.Nat.{ℕ, ◌+◌, ◌-◌, ◌*◌, ◌≤◌, ◌<◌}
use native.Mathlib.Nat.{mul-suc, mul-le-mul_left, mul-one, mul-add, mul-sub}
use native.Mathlib.Numerals.{add-one}
use native.Mathlib.Omega.{arith}
use lib.ListN.{length, take, drop, replicate, length-drop, take-append-drop}
use lib.Seq.{sets, sets-eq, paste, drop-drop, take-paste, drop-paste, take-append-le, drop-append-le, length-take-le}
use Rattle.refusal.specs.declared.Cell.{Cell}
use Rattle.words.specs.Word.{big, bytes_of, stored}
use Rattle.words.proofs.Laws.{sets-append}
use Rattle.cell.specs.Bytes.{cell_bytes}
use Rattle.cell.specs.Inner.Bytes.{cell_stored}
use Rattle.cell.proofs.Stored.{length-cell_bytes, cell-stored-sets}
use Rattle.table.specs.Records.{row_bytes, keeping}
use Rattle.table.proofs.Bytes.{length-row_bytes}

-- the next record starts where this one ends
pub next-record : (w i : ℕ) → w * (i + 1) ≡ w * i + w
next-record w i = ap (λ (j : ℕ). w * j) (add-one i) ∙ omega (arith, mul-suc w i)

-- and one of n records ends where they end, or before
pub ends-within : (w n i : ℕ) {long : ℕ} → i < n → w * n ≤ long → w * (i + 1) ≤ long
ends-within w n i h f = omega (arith, mul-le-mul_left {m = i + 1} {n = n} w (omega arith))

-- ---- a record written

-- a cell and then a word, stored one after the other, are the bytes of their row
row-stored : (w : ℕ) (l : List ℕ) (p : ℕ) (c : Cell) (k : ℕ) → 16 ≤ w → p + w ≤ length l → stored big (w - 16) (cell_stored l p c) (p + 16) k ≡ take p l ++ (row_bytes w (keeping c k) ++ drop (p + w) l)
unfolding stored row_bytes
row-stored w l p c k h f =
    let kept = bytes_of big (w - 16) k in
    let long : length (cell_bytes c ++ kept) ≡ w = length-row_bytes w (keeping c k) h in
    ap₂ (λ (m : List ℕ) (n : ℕ). sets m (p + n) kept) (cell-stored-sets l p c) (sym (length-cell_bytes c))
    ∙ sym (sets-append l p (cell_bytes c) kept)
    ∙ rw long at (sets-eq (cell_bytes c ++ kept) l p (omega arith))
    ∙ append_assoc (take p l) (cell_bytes c ++ kept) (drop (p + w) l)

pub put : (w n : ℕ) (l : List ℕ) (i : ℕ) (c : Cell) (k : ℕ) {m x : List ℕ} → n ≡ w - 16 → 16 ≤ w → w * (i + 1) ≤ length l → m ≡ cell_stored l (w * i) c → x ≡ stored big n m (w * i + 16) k → x ≡ take (w * i) l ++ (row_bytes w (keeping c k) ++ drop (w * (i + 1)) l)
put w n l i c k e h f cells kept =
    kept
    ∙ ap₂ (λ (n : ℕ) (m : List ℕ). stored big n m (w * i + 16) k) e cells
    ∙ row-stored w l (w * i) c k h (omega (arith, next-record w i))
    ∙ ap (λ (p : ℕ). take (w * i) l ++ (row_bytes w (keeping c k) ++ drop p l)) (sym (next-record w i))

-- ---- records moved

-- what stands before the part that was pasted stays
pub part-before : (d : List ℕ) (at : ℕ) (s : List ℕ) (n q k : ℕ) → q + k ≤ at → at ≤ length d → take k (drop q (paste d at s n)) ≡ take k (drop q d)
part-before d at s n q k h f =
    let long = length-take-le at d f in
    let rest = take n s ++ drop (at + n) d in
    let dropped : length (drop q (take at d)) ≡ at - q = length-drop q (take at d) ∙ ap (λ (m : ℕ). m - q) long in
    ap (λ (m : List ℕ). take k (drop q m)) (append_assoc (take at d) (take n s) (drop (at + n) d))
    ∙ ap (take k) (drop-append-le q (take at d) rest (omega arith))
    ∙ take-append-le k (drop q (take at d)) rest (omega arith)
    ∙ sym (take-append-le k (drop q (take at d)) (drop at d) (omega arith))
    ∙ ap (take k) (sym (drop-append-le q (take at d) (drop at d) (omega arith)))
    ∙ ap (λ (m : List ℕ). take k (drop q m)) (take-append-drop at d)

-- where a number of records is a sum, so are their bytes
pub spread : (w a b k : ℕ) → k ≡ a + b → w * k ≡ w * a + w * b
spread w a b k e = ap (λ (m : ℕ). w * m) e ∙ mul-add w a b

-- n bytes from p + w on have moved down by w; now there are zeros in the w after them
zeroed : (l : List ℕ) (p w n : ℕ) → p + w + n ≤ length l → let m = paste l p (drop (p + w) l) n in take (p + n) m ++ (replicate w 0 ++ drop (p + n + w) m) ≡ take p l ++ (take n (drop (p + w) l) ++ (replicate w 0 ++ drop (p + n + w) l))
zeroed l p w n f =
    let m = paste l p (drop (p + w) l) n in
    let room = length-drop (p + w) l in
    let front : take (p + n) m ≡ take p l ++ take n (drop (p + w) l) = take-paste l p (drop (p + w) l) n (omega arith) (omega arith) in
    let after : drop (p + n) m ≡ drop (p + n) l = drop-paste l p (drop (p + w) l) n (omega arith) (omega arith) in
    rw (front, ← drop-drop w (p + n) m, after, drop-drop w (p + n) l, append_assoc)

-- the records after i have moved back by one, and the last of the n is zeroed: record i is gone
pub closed : (w : ℕ) (l : List ℕ) (n i : ℕ) {m x : List ℕ} → i < n → w * n ≤ length l → m ≡ paste l (w * i) (drop (w * (i + 1)) l) (w * n - w * (i + 1)) → x ≡ take (w * (n - 1)) m ++ (replicate (w * n - w * (n - 1)) 0 ++ drop (w * n) m) → x ≡ take (w * i) l ++ (take (w * (n - (i + 1))) (drop (w * (i + 1)) l) ++ (replicate w 0 ++ drop (w * n) l))
closed w l n i h f moved step =
    let one = mul-one w in
    let size = w * (n - (i + 1)) in
    let next = next-record w i in
    let same : w * n - w * (i + 1) ≡ size = sym (mul-sub w n (i + 1)) in
    let last : w * (n - 1) ≡ w * i + size = spread w i (n - (i + 1)) (n - 1) (omega arith) in
    let end : w * n ≡ w * i + size + w = omega (arith, spread w (n - 1) 1 n (omega arith)) in
    let gone : w * i + size + w - (w * i + size) ≡ w = omega arith in
    step ∙ rw (moved, same, next, last, end, gone, zeroed l (w * i) w size (omega arith))
