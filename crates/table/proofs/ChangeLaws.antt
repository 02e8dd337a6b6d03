-- What a cell's place says of the records: where `set` and `remove` change them, by index, and which bytes of the table that is. Over the width of a record.
use mathlib.Core.Path.{◌≡◌, refl, sym, ap, ap₂, ◌∙◌}
use mathlib.Core.Bool.{true, false}
use mathlib.Core.List.{List, [], ◌∷◌, ◌++◌, flat_map, append_assoc}
use Prim.Native.Nat.{ℕ, zero, suc, ◌+◌, ◌-◌, ◌*◌, ◌≤◌, ◌<◌}
use native.Mathlib.Nat.{mul-zero, zero-add, add-zero, add-suc, suc-add, sub_self, mul-le-mul_left}
use native.Mathlib.Omega.{arith}
use borrow.Author.Tests.{ltb-true, eqb-true, lt-ltb, le-ltb, ne_eqb}
use lib.ListN.{length, take, drop, replicate, length-append, take-append-drop}
use Rattle.refusal.specs.declared.Cell.{Cell}
use Rattle.refusal.specs.Refusals.{raw_of}
use Rattle.words.specs.Word.{Bytes}
use Rattle.cell.specs.Cell.{same_cell, less_cell}
use Rattle.table.specs.Records.{Row, row_at, rows_from, rows_of, is_sound, with_row, without_cell, row_bytes, laid, keeping, refilled}
use Rattle.table.specs.Inner.Places.{IsAt, GoesBefore}
use Rattle.table.proofs.Laws.{sound-less}
use Rattle.table.specs.Terms.{Storable, no_rows, one_more}
use Rattle.general.proofs.Lists.{flat_map-append}
use Rattle.table.proofs.Bytes.{length-rows_from, rows-part, bytes-of-rows, rows-laid, rows-storable, storable-append}

-- ---- the first row

differs : (a b : Cell) → less_cell a b ≡ true → same_cell a b ≡ false
differs a b e = ne_eqb (raw_of a) (raw_of b) (λ q. omega (arith, q, ltb-true (raw_of a) (raw_of b) e))

with-above : (s r : Row) (rs : List Row) → less_cell r.cell s.cell ≡ true → with_row s (r ∷ rs) ≡ r ∷ with_row s rs
unfolding with_row
with-above s r rs e =
    let below = ltb-true (raw_of r.cell) (raw_of s.cell) e in
    rw (le-ltb (raw_of s.cell) (raw_of r.cell) (omega arith), differs r.cell s.cell e)

with-below : (s r : Row) (rs : List Row) → less_cell s.cell r.cell ≡ true → with_row s (r ∷ rs) ≡ s ∷ (r ∷ rs)
unfolding with_row
with-below s r rs e = rw e

with-same : (s r : Row) (rs : List Row) → same_cell r.cell s.cell ≡ true → with_row s (r ∷ rs) ≡ s ∷ rs
unfolding with_row
with-same s r rs e =
    let equal = eqb-true (raw_of r.cell) (raw_of s.cell) e in
    rw (le-ltb (raw_of s.cell) (raw_of r.cell) (omega arith), e)

without_other : (c : Cell) (r : Row) (rs : List Row) → less_cell r.cell c ≡ true → without_cell c (r ∷ rs) ≡ r ∷ without_cell c rs
unfolding without_cell
without_other c r rs e = rw (differs r.cell c e)

without-same : (c : Cell) (r : Row) (rs : List Row) → same_cell r.cell c ≡ true → without_cell c (r ∷ rs) ≡ rs
unfolding without_cell
without-same c r rs e = rw e

-- ---- rows by index

module _ (w : ℕ) (l : List ℕ) where
  -- the i records from j on are below a cell
  Passed : Cell → ℕ → ℕ → Type 0
  Passed c j i = (k : ℕ) → j ≤ k → k < j + i → less_cell (row_at w l k).cell c ≡ true

  with-past : (s : Row) (j i m : ℕ) → Passed s.cell j i → with_row s (rows_from w l j (i + m)) ≡ rows_from w l j i ++ with_row s (rows_from w l (j + i) m)
  unfolding rows_from Passed
  with-past s j zero m h = rw (zero-add m, add-zero j)
  with-past s j (suc i) m h =
      rw (suc-add i m, with-above s (row_at w l j) (rows_from w l (suc j) (i + m)) (h j (omega arith) (omega arith)), with-past s (suc j) i m (λ k a b. h k (omega arith) (omega arith)), suc-add j i, add-suc j i)

  without-past : (c : Cell) (j i m : ℕ) → Passed c j i → without_cell c (rows_from w l j (i + m)) ≡ rows_from w l j i ++ without_cell c (rows_from w l (j + i) m)
  unfolding rows_from Passed
  without-past c j zero m h = rw (zero-add m, add-zero j)
  without-past c j (suc i) m h =
      rw (suc-add i m, without_other c (row_at w l j) (rows_from w l (suc j) (i + m)) (h j (omega arith) (omega arith)), without-past c (suc j) i m (λ k a b. h k (omega arith) (omega arith)), suc-add j i, add-suc j i)

  module _ (n : ℕ) (c : Cell) (i : ℕ) where
    -- the records before a cell's own are below it
    passed-at : is_sound w l n ≡ true → IsAt w l n c i → Passed c 0 i
    unfolding Passed
    passed-at sound s k a b =
        let here = (row_at w l i).cell in
        let below = ltb-true (raw_of (row_at w l k).cell) (raw_of here) (sound-less w l n sound i k (omega arith) s.within) in
        lt-ltb (raw_of (row_at w l k).cell) (raw_of c) (omega (arith, below, eqb-true (raw_of here) (raw_of c) s.same))

    passed-before : GoesBefore w l n c i → Passed c 0 i
    unfolding Passed
    passed-before s k a b = s.below k (omega arith)

    -- a cell that has a record: what is set stands in its place
    pub with_at : (k : ℕ) → is_sound w l n ≡ true → IsAt w l n c i → with_row (keeping c k) (rows_of w l n) ≡ rows_from w l 0 i ++ (keeping c k ∷ rows_from w l (suc i) (n - suc i))
    unfolding rows_of rows_from
    with_at k sound s =
        let size : n ≡ i + suc (n - suc i) = omega (arith, s.within) in
        ap (λ (m : ℕ). with_row (keeping c k) (rows_from w l 0 m)) size
        ∙ with-past (keeping c k) 0 i (suc (n - suc i)) (passed-at sound s)
        ∙ ap (λ (j : ℕ). rows_from w l 0 i ++ with_row (keeping c k) (rows_from w l j (suc (n - suc i)))) (zero-add i)
        ∙ ap (λ (rs : List Row). rows_from w l 0 i ++ rs) (with-same (keeping c k) (row_at w l i) (rows_from w l (suc i) (n - suc i)) s.same)

    -- one that has none: before the first that is above it
    pub with-before : (k : ℕ) → GoesBefore w l n c i → with_row (keeping c k) (rows_of w l n) ≡ rows_from w l 0 i ++ (keeping c k ∷ rows_from w l i (n - i))
    unfolding rows_of rows_from with_row
    with-before k s =
        let size : n ≡ i + (n - i) = omega (arith, s.within) in
        ap (λ (m : ℕ). with_row (keeping c k) (rows_from w l 0 m)) size
        ∙ with-past (keeping c k) 0 i (n - i) (passed-before s)
        ∙ ap (λ (j : ℕ). rows_from w l 0 i ++ with_row (keeping c k) (rows_from w l j (n - i))) (zero-add i)
        ∙ ap (λ (rs : List Row). rows_from w l 0 i ++ rs) (first (n - i) refl)
      where
        first : (m : ℕ) → n - i ≡ m → with_row (keeping c k) (rows_from w l i m) ≡ keeping c k ∷ rows_from w l i m
        first zero e = refl
        first (suc m) e = with-below (keeping c k) (row_at w l i) (rows_from w l (suc i) m) (s.above i (omega arith) (omega (arith, e)))

    -- a cell that has a record is removed with it
    pub without_at : is_sound w l n ≡ true → IsAt w l n c i → without_cell c (rows_of w l n) ≡ rows_from w l 0 i ++ rows_from w l (suc i) (n - suc i)
    unfolding rows_of rows_from
    without_at sound s =
        let size : n ≡ i + suc (n - suc i) = omega (arith, s.within) in
        ap (λ (m : ℕ). without_cell c (rows_from w l 0 m)) size
        ∙ without-past c 0 i (suc (n - suc i)) (passed-at sound s)
        ∙ ap (λ (j : ℕ). rows_from w l 0 i ++ without_cell c (rows_from w l j (suc (n - suc i)))) (zero-add i)
        ∙ ap (λ (rs : List Row). rows_from w l 0 i ++ rs) (without-same c (row_at w l i) (rows_from w l (suc i) (n - suc i)) s.same)

  -- ---- their bytes

  module _ (least : 16 ≤ w) (bytes : Bytes l) (i j m : ℕ) (front : w * i ≤ length l) (back : w * j + w * m ≤ length l) where
    front_bytes : (rs : List Row) → flat_map (row_bytes w) (rows_from w l 0 i ++ rs) ≡ take (w * i) l ++ flat_map (row_bytes w) rs
    unfolding rows_of
    front_bytes rs =
        flat_map-append (row_bytes w) (rows_from w l 0 i) rs
        ∙ ap (λ (r : List ℕ). r ++ flat_map (row_bytes w) rs) (bytes-of-rows w l i least front bytes)

    -- the first i records, a row, and m records from j on
    pub laid-parts : (s : Row) → laid w (rows_from w l 0 i ++ (s ∷ rows_from w l j m)) l ≡ take (w * i) l ++ (row_bytes w s ++ (take (w * m) (drop (w * j) l) ++ drop (w * (i + suc m)) l))
    unfolding laid flat_map
    laid-parts s =
        let middle = take (w * m) (drop (w * j) l) in
        let rest = drop (w * (i + suc m)) l in
        let count : length (rows_from w l 0 i ++ (s ∷ rows_from w l j m)) ≡ i + suc m = length-append (rows_from w l 0 i) (s ∷ rows_from w l j m) ∙ ap₂ (λ (a b : ℕ). a + suc b) (length-rows_from w l 0 i) (length-rows_from w l j m) in
        ap₂ (λ (r : List ℕ) (k : ℕ). r ++ drop (w * k) l) (front_bytes (s ∷ rows_from w l j m) ∙ ap (λ (r : List ℕ). take (w * i) l ++ (row_bytes w s ++ r)) (rows-part w l j m least back bytes)) count
        ∙ append_assoc (take (w * i) l) (row_bytes w s ++ middle) rest
        ∙ ap (λ (r : List ℕ). take (w * i) l ++ r) (append_assoc (row_bytes w s) middle rest)

    -- the first i records, m records from j on, and zeros in the rest of the n
    pub refilled-parts : (n : ℕ) → refilled w n (rows_from w l 0 i ++ rows_from w l j m) l ≡ take (w * i) l ++ (take (w * m) (drop (w * j) l) ++ (replicate (w * (n - (i + m))) 0 ++ drop (w * n) l))
    unfolding refilled
    refilled-parts n =
        let count : length (rows_from w l 0 i ++ rows_from w l j m) ≡ i + m = length-append (rows_from w l 0 i) (rows_from w l j m) ∙ ap₂ ◌+◌ (length-rows_from w l 0 i) (length-rows_from w l j m) in
        ap₂ (λ (r : List ℕ) (k : ℕ). r ++ (replicate (w * (n - k)) 0 ++ drop (w * n) l)) (front_bytes (rows_from w l j m) ∙ ap (λ (r : List ℕ). take (w * i) l ++ r) (rows-part w l j m least back bytes)) count
        ∙ append_assoc (take (w * i) l) (take (w * m) (drop (w * j) l)) (replicate (w * (n - (i + m))) 0 ++ drop (w * n) l)

  -- the rows that stand there, and no zeros
  pub refilled-rows : (n : ℕ) → 16 ≤ w → Bytes l → w * n ≤ length l → refilled w n (rows_of w l n) l ≡ l
  unfolding rows_of rows_from
  refilled-rows n least bytes f =
      let none = mul-zero w in
      refilled-parts least bytes 0 0 n (omega arith) (omega arith) n ∙ rw (none, zero-add n, sub_self n, none) (take-append-drop (w * n) l)

  -- a record that is written after the first n is the next of the rows
  pub rows-put : (n : ℕ) (r : Row) → 16 ≤ w → Bytes l → w * (n + 1) ≤ length l → Storable w r → rows_of w (take (w * n) l ++ (row_bytes w r ++ drop (w * (n + 1)) l)) (n + 1) ≡ rows_of w l n ++ (r ∷ [])
  unfolding rows_of rows_from
  rows-put n r least bytes f s =
      let none = mul-zero w in
      let rs = rows_from w l 0 n ++ (r ∷ []) in
      let front : w * n ≤ length l = omega (arith, mul-le-mul_left {m = n} {n = n + 1} w (omega arith)) in
      let put : laid w rs l ≡ take (w * n) l ++ (row_bytes w r ++ drop (w * (n + 1)) l) = laid-parts least bytes n 0 0 front (omega arith) r ∙ rw none in
      let count : length rs ≡ n + 1 = length-append (rows_from w l 0 n) (r ∷ []) ∙ ap (λ (k : ℕ). k + 1) (length-rows_from w l 0 n) in
      ap₂ (rows_of w) (sym put) (sym count) ∙ rows-laid w rs l least (storable-append w (rows_from w l 0 n) (r ∷ []) (rows-storable w l 0 n bytes) (one_more s no_rows))
