-- What follows from the definitions of the rows: their list is that of a function's first values, on which the definition's find, put and close are known at once; and each row is found by
-- its cell.
use mathlib.Core.Path.{◌≡◌, refl, sym, ap, ap₂, ◌∙◌}
use mathlib.Core.Logic.{◌≢◌}
use mathlib.Core.Bool.{Bool, true, false}
use mathlib.Core.List.{List, [], ◌∷◌}
use mathlib.Core.Option.{none, some}
use Prim.Native.Nat.{ℕ, zero, suc, ◌+◌, ◌≤◌, ◌<◌}
use native.Mathlib.Decide.{ℕ_discrete}
use native.Mathlib.Numerals.{add-one}
use native.Mathlib.Omega.{arith}
use lib.Dec.{ltb}
use lib.ListN.{length}
use borrow.Author.Tests.{eq-eqb, ne_eqb}
use Rattle.refusal.specs.declared.Cell.{Cell}
use Rattle.refusal.specs.Refusals.{raw_of}
use Rattle.words.specs.Word.{Bytes}
use Rattle.cell.specs.Terms.{Words}
use Rattle.cell.proofs.Laws.{same-cell}
use Rattle.known.specs.Inner.Known.{cell_in}
use Rattle.known.proofs.Laws.{cell-words}
use Rattle.search.specs.Search.{KnownRow, row, find, put, close}
use Rattle.search_rows.specs.Inner.Rows.{mark_in, g_in, before_in, row_in, rows_from, rows_in, Rows}

-- ---- the list of a function's first values

pub length_from : (r : ℕ → KnownRow) (i n : ℕ) → length (rows_from r i n) ≡ n
unfolding rows_from
length_from r i zero = refl
length_from r i (suc n) = ap suc (length_from r (suc i) n)

-- functions with the same values have the same list
pub from-same : (r r' : ℕ → KnownRow) (i n : ℕ) → ((j : ℕ) → i ≤ j → j < i + n → r' j ≡ r j) → rows_from r' i n ≡ rows_from r i n
unfolding rows_from
from-same r r' i zero same = refl
from-same r r' i (suc n) same = ap₂ (λ (e : KnownRow) (es : List KnownRow). e ∷ es) (same i (omega arith) (omega arith)) (from-same r r' (suc i) n (λ j after below. same j (omega arith) (omega arith)))

-- a cell that no row has is not found
pub find-nowhere : (r : ℕ → KnownRow) (c i n : ℕ) → ((j : ℕ) → i ≤ j → j < i + n → (r j).cell ≡ c → ⊥) → find c (rows_from r i n) ≡ none
unfolding rows_from find
find-nowhere r c i zero nowhere = refl
find-nowhere r c i (suc n) nowhere =
    rw (ne_eqb c (r i).cell (λ e. nowhere i (omega arith) (omega arith) (sym e)))
    (find-nowhere r c (suc i) n (λ j after below. nowhere j (omega arith) (omega arith)))

-- and is put behind the others
pub put-behind : (r r' : ℕ → KnownRow) (c g b i n : ℕ) → ((j : ℕ) → i ≤ j → j < i + n → (r j).cell ≡ c → ⊥) → ((j : ℕ) → i ≤ j → j < i + n → r' j ≡ r j) → r' (i + n) ≡ row c g b false → rows_from r' i (suc n) ≡ put c g b (rows_from r i n)
unfolding rows_from put
put-behind r r' c g b i zero nowhere kept new =
    let place : i + 0 ≡ i = omega arith in
    ap (λ (e : KnownRow). e ∷ []) (ap r' (sym place) ∙ new)
put-behind r r' c g b i (suc n) nowhere kept new =
    let place : i + suc n ≡ suc i + n = omega arith in
    rw (ne_eqb c (r i).cell (λ e. nowhere i (omega arith) (omega arith) (sym e)))
    (ap₂ (λ (e : KnownRow) (es : List KnownRow). e ∷ es) (kept i (omega arith) (omega arith))
    (put-behind r r' c g b (suc i) n (λ j after below. nowhere j (omega arith) (omega arith)) (λ j after below. kept j (omega arith) (omega arith)) (ap r' (sym place) ∙ new)))

-- ---- the first row with a cell

-- what passes by the rows before row i and changes row i alone
module _ (r r' : ℕ → KnownRow) (i : ℕ) (change : List KnownRow → List KnownRow) (here : (es : List KnownRow) → change (r i ∷ es) ≡ r' i ∷ es) (past : (j : ℕ) (es : List KnownRow) → j < i → change (r j ∷ es) ≡ r j ∷ change es) (kept : (j : ℕ) → j ≢ i → r' j ≡ r j) where
  change-at : (k n : ℕ) → k ≤ i → i < k + n → rows_from r' k n ≡ change (rows_from r k n)
  unfolding rows_from
  change-at k zero before within = absurd (omega arith)
  change-at k (suc n) before within = by_place (ℕ_discrete k i) (λ (later : suc k ≤ i). change-at (suc k) n later (omega arith))
    where
      by_place : Dec (k ≡ i) → (suc k ≤ i → rows_from r' (suc k) n ≡ change (rows_from r (suc k) n)) → r' k ∷ rows_from r' (suc k) n ≡ change (r k ∷ rows_from r (suc k) n)
      by_place (yes e) rest =
          ap₂ (λ (e : KnownRow) (es : List KnownRow). e ∷ es) (ap r' e) (from-same r r' (suc k) n (λ j after below. kept j (omega arith)))
          ∙ sym (here (rows_from r (suc k) n))
          ∙ ap (λ (j : ℕ). change (r j ∷ rows_from r (suc k) n)) (sym e)
      by_place (no other) rest =
          ap₂ (λ (e : KnownRow) (es : List KnownRow). e ∷ es) (kept k other) (rest (omega arith))
          ∙ sym (past k (rows_from r (suc k) n) (omega arith))

module _ (r : ℕ → KnownRow) (c i : ℕ) (is : (r i).cell ≡ c) (first : (j : ℕ) → j < i → (r j).cell ≡ c → ⊥) where
  find-from : (k n : ℕ) → k ≤ i → i < k + n → find c (rows_from r k n) ≡ some (r i)
  unfolding rows_from find
  find-from k zero before within = absurd (omega arith)
  find-from k (suc n) before within = by_place (ℕ_discrete k i) (λ (later : suc k ≤ i). find-from (suc k) n later (omega arith))
    where
      by_place : Dec (k ≡ i) → (suc k ≤ i → find c (rows_from r (suc k) n) ≡ some (r i)) → find c (r k ∷ rows_from r (suc k) n) ≡ some (r i)
      by_place (yes e) rest = rw (eq-eqb c (r k).cell (sym (ap (λ (j : ℕ). (r j).cell) e ∙ is))) (ap (λ (j : ℕ). some (r j)) e)
      by_place (no other) rest = rw (ne_eqb c (r k).cell (λ e. first k (omega arith) (sym e))) (rest (omega arith))

  pub find_first : (n : ℕ) → i < n → find c (rows_from r 0 n) ≡ some (r i)
  find_first n below = find-from 0 n (omega arith) (omega arith)

  module _ (r' : ℕ → KnownRow) (kept : (j : ℕ) → j ≢ i → r' j ≡ r j) (n : ℕ) (below : i < n) where
    pub put_first : (g b : ℕ) → r' i ≡ row c g b false → rows_from r' 0 n ≡ put c g b (rows_from r 0 n)
    unfolding put
    put_first g b new =
        change-at r r' i (put c g b)
        (λ es. rw (eq-eqb c (r i).cell (sym is)) (ap (λ (e : KnownRow). e ∷ es) (sym new)))
        (λ j es earlier. rw (ne_eqb c (r j).cell (λ e. first j earlier (sym e))))
        kept 0 n (omega arith) (omega arith)

    pub close-first : r' i ≡ row (r i).cell (r i).g (r i).before true → rows_from r' 0 n ≡ close c (rows_from r 0 n)
    unfolding close
    close-first new =
        change-at r r' i (close c)
        (λ es. rw (eq-eqb c (r i).cell (sym is)) (ap (λ (e : KnownRow). e ∷ es) (sym new)))
        (λ j es earlier. rw (ne_eqb c (r j).cell (λ e. first j earlier (sym e))))
        kept 0 n (omega arith) (omega arith)

-- ---- a row

-- it is its four fields
pub row_is : (l : List ℕ) (room i : ℕ) {c b : Cell} {g : ℕ} {closed : Bool} → cell_in l room i ≡ c → g_in l room i ≡ g → cell_in l room (before_in l room i) ≡ b → ltb 0 (mark_in l room i) ≡ closed → row_in l room i ≡ row (raw_of c) g (raw_of b) closed
unfolding row_in
row_is l room i cell g before closed = λ k. row (raw_of (cell k)) (g k) (raw_of (before k)) (closed k)

-- a row stays where its fields stay, and the cell of the row before it
pub row_same : (l l' : List ℕ) (room i : ℕ) → cell_in l' room i ≡ cell_in l room i → g_in l' room i ≡ g_in l room i → before_in l' room i ≡ before_in l room i → cell_in l' room (before_in l room i) ≡ cell_in l room (before_in l room i) → mark_in l' room i ≡ mark_in l room i → row_in l' room i ≡ row_in l room i
unfolding row_in
row_same l l' room i cell g before back mark = row_is l' room i cell g (ap (cell_in l' room) before ∙ back) (ap (ltb 0) mark)

-- ---- the rows of a workspace

pub length-rows : (l : List ℕ) (room n : ℕ) → length (rows_in l room n) ≡ n
unfolding rows_in
length-rows l room n = length_from (row_in l room) 0 n

-- cells with one number are one cell
pub raw_same : (a b : Cell) → Words a → Words b → raw_of a ≡ raw_of b → a ≡ b
raw_same a b v w e = same-cell a b v w (eq-eqb (raw_of a) (raw_of b) e)

-- a cell that no record has is not found
pub find-no-row : (l : List ℕ) (room n : ℕ) (c : Cell) → Bytes l → Words c → ((j : ℕ) → j < n → cell_in l room j ≡ c → ⊥) → find (raw_of c) (rows_in l room n) ≡ none
unfolding rows_in row_in
find-no-row l room n c bytes words nowhere = find-nowhere (row_in l room) (raw_of c) 0 n (λ j after below e. nowhere j (omega arith) (raw_same (cell_in l room j) c (cell-words l room j bytes) words e))

-- and comes behind the others, once the row behind them is its own
pub put-row-behind : (l l' : List ℕ) (room n : ℕ) (c : Cell) (g b : ℕ) → Bytes l → Words c → ((j : ℕ) → j < n → cell_in l room j ≡ c → ⊥) → ((j : ℕ) → j < n → row_in l' room j ≡ row_in l room j) → row_in l' room n ≡ row (raw_of c) g b false → rows_in l' room (n + 1) ≡ put (raw_of c) g b (rows_in l room n)
unfolding rows_in row_in
put-row-behind l l' room n c g b bytes words nowhere kept new =
    let place : 0 + n ≡ n = omega arith in
    ap (rows_from (row_in l' room) 0) (add-one n)
    ∙ put-behind (row_in l room) (row_in l' room) (raw_of c) g b 0 n
    (λ j after below e. nowhere j (omega arith) (raw_same (cell_in l room j) c (cell-words l room j bytes) words e))
    (λ j after below. kept j (omega arith))
    (ap (row_in l' room) place ∙ new)

module _ (l : List ℕ) (room n : ℕ) (rows : Rows l room n) (bytes : Bytes l) (i : ℕ) (below : i < n) where
  -- no row before row i has its cell
  first-row : (j : ℕ) → j < i → (row_in l room j).cell ≡ raw_of (cell_in l room i) → ⊥
  unfolding row_in
  first-row j earlier e =
      let same : j ≡ i = rows.apart j i (omega arith) below (raw_same (cell_in l room j) (cell_in l room i) (cell-words l room j bytes) (cell-words l room i bytes) e) in
      omega arith

  -- each row is found by its cell
  pub find-row : find (raw_of (cell_in l room i)) (rows_in l room n) ≡ some (row_in l room i)
  unfolding rows_in row_in
  find-row = find_first (row_in l room) (raw_of (cell_in l room i)) i refl first-row n below

  -- and put or closed at its place
  module _ (l' : List ℕ) (kept : (j : ℕ) → j ≢ i → row_in l' room j ≡ row_in l room j) where
    pub put-row : (g b : ℕ) → row_in l' room i ≡ row (raw_of (cell_in l room i)) g b false → rows_in l' room n ≡ put (raw_of (cell_in l room i)) g b (rows_in l room n)
    unfolding rows_in row_in
    put-row g b new = put_first (row_in l room) (raw_of (cell_in l room i)) i refl first-row (row_in l' room) kept n below g b new

    pub close_row : row_in l' room i ≡ row (raw_of (cell_in l room i)) (g_in l room i) (raw_of (cell_in l room (before_in l room i))) true → rows_in l' room n ≡ close (raw_of (cell_in l room i)) (rows_in l room n)
    unfolding rows_in row_in
    close_row new = close-first (row_in l room) (raw_of (cell_in l room i)) i refl first-row (row_in l' room) kept n below new
