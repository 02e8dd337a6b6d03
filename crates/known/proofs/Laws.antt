-- What follows from the definitions of the known cells: how their list grows, what stands at each place of it, and that a search for a cell says whether it is a member.
-- `List.Memᴰ c cells` says that c is a member of cells: it is a place at which cells has c.
use Rattle.std.specs.Prelude.{Some, None}
use Rattle.std.proofs.Common.{◌≡◌, ℕ, zero, suc, ◌+◌, ◌*◌, ◌/◌, ◌<◌, ◌≤◌, ◌⊎◌, List, [], ◌∷◌, ◌++◌, length, get_or, sym, refl, ap, ◌∙◌, subst, ap₂, inl, inr, div-lt_iff_lt-mul, mul-lt-mul_of_pos_right, arith}
use mathlib.Core.List.Memᴰ
use mathlib.Core.List.{Memᴰ}
use lib.Seq.{get_or_at}
use Rattle.refusal.specs.declared.Cell.{Cell}
use Rattle.words.specs.Word.{Order, little, word, stored, Bytes}
use Rattle.words.proofs.Laws.{word_lt, length-stored, word-stored-apart}
use Rattle.cell.specs.Terms.{Words}
use Rattle.known.specs.Inner.Known.{mixed_of, bucket_of, record_offset, cell_in, link_in, head_in, cells_in, known_cells, Known, Added}
use Rattle.known.proofs.ChainLaws.{chain_same}
use Rattle.known.specs.Inner.Found.{Right}

-- ---- chains

-- a number of 32 bits shares out the room
pub shared-lt : (m room : ℕ) → m < 4294967296 → 0 < room → m * room / 4294967296 < room
shared-lt m room small some = (div-lt_iff_lt-mul {k = 4294967296} {x = m * room} {y = room} (omega arith)).1 (omega (arith, mul-lt-mul_of_pos_right {m = m} {n = 4294967296} {k = room} small some))

mixed-lt : (c : Cell) → mixed_of c < 4294967296
unfolding mixed_of
mixed-lt c = omega arith

-- each cell has a chain
pub bucket-lt : (c : Cell) (room : ℕ) → 0 < room → bucket_of c room < room
unfolding bucket_of
bucket-lt c room some = shared-lt (mixed_of c) room (mixed-lt c) some

-- ---- the cell of a record

-- it is its two words
pub cell_same : (l l' : List ℕ) (room i : ℕ) → word little 8 l' (record_offset room i) ≡ word little 8 l (record_offset room i) → word little 8 l' (record_offset room i + 8) ≡ word little 8 l (record_offset room i + 8) → cell_in l' room i ≡ cell_in l room i
unfolding cell_in
cell_same l l' room i high low = λ k. record { high = high k; low = low k }

-- of 64 bits each
pub cell-words : (l : List ℕ) (room i : ℕ) → Bytes l → Words (cell_in l room i)
unfolding cell_in
cell-words l room i bytes = record { high_word = word_lt little 8 l (record_offset room i) bytes; low-word = word_lt little 8 l (record_offset room i + 8) bytes }

-- ---- the cells of records one after the other

pub length-cells : (l : List ℕ) (room i n : ℕ) → length (cells_in l room i n) ≡ n
unfolding cells_in
length-cells l room i zero = refl
length-cells l room i (suc n) = ap suc (length-cells l room (suc i) n)

-- the cells of records behind others
pub cells-joined : (l : List ℕ) (room i n m : ℕ) → cells_in l room i n ++ cells_in l room (i + n) m ≡ cells_in l room i (n + m)
unfolding cells_in
cells-joined l room i zero m =
    let place : i + 0 ≡ i = omega arith in
    let size : m ≡ 0 + m = omega arith in
    ap₂ (cells_in l room) place size
cells-joined l room i (suc n) m =
    let place : i + suc n ≡ suc i + n = omega arith in
    let size : suc (n + m) ≡ suc n + m = omega arith in
    ap (λ (k : ℕ). cell_in l room i ∷ (cells_in l room (suc i) n ++ cells_in l room k m)) place
    ∙ ap (λ (cells : List Cell). cell_in l room i ∷ cells) (cells-joined l room (suc i) n m)
    ∙ ap (cells_in l room i) size

-- one record more is one cell more behind the others
pub cells-more : (l : List ℕ) (room i n : ℕ) → cells_in l room i (n + 1) ≡ cells_in l room i n ++ (cell_in l room (i + n) ∷ [])
unfolding cells_in
cells-more l room i n = sym (cells-joined l room i n 1)

-- the cell at place j is that of record i + j
pub cell-at-place : (l : List ℕ) (room i n j : ℕ) (d : Cell) → j < n → get_or (cells_in l room i n) j d ≡ cell_in l room (i + j)
unfolding cells_in
cell-at-place l room i zero j d below = absurd (omega arith)
cell-at-place l room i (suc n) zero d below = ap (cell_in l room) (omega arith)
cell-at-place l room i (suc n) (suc j) d below = cell-at-place l room (suc i) n j d (omega arith) ∙ ap (cell_in l room) (omega arith)

-- the cell that was added is that of the last record
pub added-cell : {l l' : List ℕ} {room n : ℕ} {c : Cell} → Added l l' room n c → cell_in l' room n ≡ c
added-cell {l} {l'} {room} {n} {c} added =
    let place : 0 + n ≡ n = omega arith in
    ap (cell_in l' room) (sym place)
    ∙ sym (cell-at-place l' room 0 (n + 1) n c (omega arith))
    ∙ ap (λ (cells : List Cell). get_or cells n c) added.more
    ∙ get_or_at (known_cells l room n) c [] c n (length-cells l room 0 n)

-- records with the same cells have the same list
pub cells_same : (l l' : List ℕ) (room i n : ℕ) → ((j : ℕ) → i ≤ j → j < i + n → cell_in l' room j ≡ cell_in l room j) → cells_in l' room i n ≡ cells_in l room i n
unfolding cells_in
cells_same l l' room i zero same = refl
cells_same l l' room i (suc n) same = ap₂ (λ (c : Cell) (cells : List Cell). c ∷ cells) (same i (omega arith) (omega arith)) (cells_same l l' room (suc i) n (λ j from below. same j (omega arith) (omega arith)))

-- ---- stores of the walk's own

-- cells stay known where their words, the links, the heads and the length stay
pub known_same : (l l' : List ℕ) (room n : ℕ) → length l' ≡ length l → ((i : ℕ) → i < n → cell_in l' room i ≡ cell_in l room i) → ((i : ℕ) → i < n → link_in l' room i ≡ link_in l room i) → ((b : ℕ) → b < room → head_in l' b ≡ head_in l b) → Known l room n → Known l' room n
known_same l l' room n long cells links heads known =
    let size = known.roomy.size in
    record {
      roomy = record { size = omega arith; small = known.roomy.small; least = known.roomy.least };
      count = known.count;
      chain = chain_same (λ i. bucket_of (cell_in l room i) room) (head_in l) (link_in l room) (λ i. bucket_of (cell_in l' room i) room) (head_in l') (link_in l' room) room n (λ i less. ap (λ (c : Cell). bucket_of c room) (cells i less)) heads links known.chain;
    }

-- a store into the other bytes of any record changes no cell, and the known cells stay known
module _ (o : Order) (k : ℕ) (l : List ℕ) (room i p v : ℕ) (from : 20 ≤ p) (to : p + k ≤ 40) where
  pub cell-beside-field : (j : ℕ) → cell_in (stored o k l (record_offset room i + p) v) room j ≡ cell_in l room j
  cell-beside-field j =
      cell_same l (stored o k l (record_offset room i + p) v) room j
      (word-stored-apart little o k 8 l (record_offset room i + p) v (record_offset room j) (omega arith))
      (word-stored-apart little o k 8 l (record_offset room i + p) v (record_offset room j + 8) (omega arith))

  pub known-beside-field : (n : ℕ) → Known l room n → Known (stored o k l (record_offset room i + p) v) room n
  known-beside-field n known =
      known_same l (stored o k l (record_offset room i + p) v) room n (length-stored o k l (record_offset room i + p) v) (λ j less. cell-beside-field j)
      (λ j less. word-stored-apart little o k 4 l (record_offset room i + p) v (record_offset room j + 16) (omega arith))
      (λ b below. word-stored-apart little o k 4 l (record_offset room i + p) v (4 * b) (omega arith)) known

-- ---- members

-- a record's cell is a member
pub record-member : (l : List ℕ) (room i n j : ℕ) (c : Cell) → j < n → cell_in l room (i + j) ≡ c → Memᴰ c (cells_in l room i n)
unfolding cells_in
record-member l room i zero j c below e = absurd (omega arith)
record-member l room i (suc n) zero c below e =
    let first : i ≡ i + 0 = omega arith in
    Memᴰ.head (sym e ∙ ap (cell_in l room) (sym first))
record-member l room i (suc n) (suc j) c below e =
    let later : suc i + j ≡ i + suc j = omega arith in
    Memᴰ.tail (record-member l room (suc i) n j c (omega arith) (ap (cell_in l room) later ∙ e))

-- and a member is the cell of a record
pub member-record : (l : List ℕ) (room i n : ℕ) (c : Cell) → Memᴰ c (cells_in l room i n) → (j : ℕ) × (j < n) × (cell_in l room (i + j) ≡ c)
unfolding cells_in
member-record l room i zero c m = absurd (Memᴰ.not-nil m)
member-record l room i (suc n) c m = by_place (λ (later : Memᴰ c (cells_in l room (suc i) n)). member-record l room (suc i) n c later) (Memᴰ.cases_cons m)
  where
    by_place : (Memᴰ c (cells_in l room (suc i) n) → (j : ℕ) × (j < n) × (cell_in l room (suc i + j) ≡ c)) → (c ≡ cell_in l room i) ⊎ Memᴰ c (cells_in l room (suc i) n) → (j : ℕ) × (j < suc n) × (cell_in l room (i + j) ≡ c)
    by_place below (inl e) =
        let first : i + 0 ≡ i = omega arith in
        (0, omega arith, ap (cell_in l room) first ∙ sym e)
    by_place below (inr later) =
        let r = below later in
        let place : i + suc r.0 ≡ suc i + r.0 = omega arith in
        (suc r.0, omega (arith, r.1), ap (cell_in l room) place ∙ r.2)

-- so each member has words of 64 bits
pub member-words : (l : List ℕ) (room i n : ℕ) (c : Cell) → Bytes l → Memᴰ c (cells_in l room i n) → Words c
member-words l room i n c bytes m =
    let r = member-record l room i n c m in
    subst Words r.2 (cell-words l room (i + r.0) bytes)

-- a record that was found has the cell, so the cell is known
pub found-member : (l : List ℕ) (room n : ℕ) (c : Cell) (i : ℕ) → Right l room n c (Some i) → Memᴰ c (known_cells l room n)
found-member l room n c i right =
    let place : 0 + i ≡ i = omega arith in
    record-member l room 0 n i c right.0 (ap (cell_in l room) place ∙ right.1)

-- where none was found, it is not
pub nowhere-member : (l : List ℕ) (room n : ℕ) (c : Cell) → Right l room n c None → Memᴰ c (known_cells l room n) → ⊥
nowhere-member l room n c right m =
    let r = member-record l room 0 n c m in
    let place : r.0 ≡ 0 + r.0 = omega arith in
    right r.0 r.1 (ap (cell_in l room) place ∙ r.2)
