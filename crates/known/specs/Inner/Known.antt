-- The known cells in a workspace, little-endian, with room for so many: 4 bytes for the head of each chain, then records of 40 bytes. A record has the cell's words at 0 and 8 and
-- its link at 16; what stands in its other bytes is the walk's own. Which chain a cell is on decides no answer. Definitions only.
use Rattle.std.specs.Prelude.{◌≡◌, ℕ, zero, suc, ◌+◌, ◌*◌, ◌/◌, ◌%◌, ◌<◌, ◌≤◌, List, [], ◌∷◌, ◌++◌, length, drop, replicate}
use Rattle.refusal.specs.declared.Cell.{Cell}
use Rattle.words.specs.Word.{little, word, stored}
use Rattle.known.specs.Inner.Chain.{Chain}
use Rattle.known.specs.Workspace.{most_room, known_width}

-- ---- chains

-- the four words of 32 bits that a cell has, mixed into one
unfoldable pub mixed_of : Cell → ℕ
mixed_of c =
    (c.low / 4294967296 * 3518319155 % 4294967296 + c.high % 4294967296 * 2882110345 % 4294967296 + c.high / 4294967296 * 2360945575 % 4294967296 + c.low % 4294967296 * 1934021721 % 4294967296)
    % 4294967296

-- which of the chains a cell is on: there are as many as there is room for cells
unfoldable pub bucket_of : Cell → ℕ → ℕ
unfolding mixed_of
bucket_of c room = mixed_of c * room / 4294967296

-- ---- places

-- the bytes of a chain's head
abbrev pub head_width : ℕ
head_width = 4

-- the bytes of a record
abbrev pub record_width : ℕ
record_width = 40

-- where record i begins, behind the heads
abbrev pub record_offset : ℕ → ℕ → ℕ
record_offset room i = head_width * room + record_width * i

-- in a record: the link, behind the cell
abbrev pub link_offset : ℕ
link_offset = 16

-- the cell of record i
unfoldable pub cell_in : List ℕ → ℕ → ℕ → Cell
unfolding word
cell_in l room i = record { high = word little 8 l (record_offset room i); low = word little 8 l (record_offset room i + 8) }

-- the link of record i: the record before it on its chain, counted from 1, or 0
abbrev pub link_in : List ℕ → ℕ → ℕ → ℕ
link_in l room i = word little 4 l (record_offset room i + link_offset)

-- the head of chain b: its last record, counted from 1, or 0
abbrev pub head_in : List ℕ → ℕ → ℕ
head_in l b = word little 4 l (head_width * b)

-- the cells of n records from record i on
unfoldable pub cells_in : List ℕ → ℕ → ℕ → ℕ → List Cell
unfolding cell_in
cells_in l room i zero = []
cells_in l room i (suc n) = cell_in l room i ∷ cells_in l room (suc i) n

-- the known cells, in the order of first sight
abbrev pub known_cells : List ℕ → ℕ → ℕ → List Cell
known_cells l room n = cells_in l room 0 n

-- ---- what `add` and `clear` leave, whatever the bytes hold

-- record n with the high word of a cell
abbrev pub with_high : List ℕ → ℕ → ℕ → Cell → List ℕ
with_high l room n c = stored little 8 l (record_offset room n) c.high

-- with its low word too
abbrev pub with_low : List ℕ → ℕ → ℕ → Cell → List ℕ
with_low l room n c = stored little 8 (with_high l room n c) (record_offset room n + 8) c.low

-- with its link too, to the record that stood at the head of its chain
abbrev pub with_link : List ℕ → ℕ → ℕ → Cell → List ℕ
with_link l room n c = stored little 4 (with_low l room n c) (record_offset room n + link_offset) (head_in l (bucket_of c room))

-- with record n at the head of the chain: one more record behind the others
abbrev pub add_in : List ℕ → ℕ → ℕ → Cell → List ℕ
add_in l room n c = stored little 4 (with_link l room n c) (head_width * bucket_of c room) (n + 1)

-- zeros for the heads: no record is on a chain
abbrev pub clear_in : List ℕ → ℕ → List ℕ
clear_in l room = replicate (head_width * room) 0 ++ drop (head_width * room) l

-- ---- a workspace with n known cells

-- the bytes suffice for the room
pub record Roomy (l : List ℕ) (room : ℕ) : Type 0 where
  pub size : known_width * room ≤ length l
  pub small : room ≤ most_room
  pub least : 0 < room

-- a workspace with n known cells: it has room for them, and they are on their chains
pub record Known (l : List ℕ) (room n : ℕ) : Type 0 where
  pub roomy : Roomy l room
  pub count : n ≤ room
  pub chain : Chain (λ i. bucket_of (cell_in l room i) room) (head_in l) (link_in l room) room n

-- what `add` leaves: one more known cell; the other words of all records, and what stands behind them, stay
pub record Added (l l' : List ℕ) (room n : ℕ) (c : Cell) : Type 0 where
  pub known : Known l' room (n + 1)
  pub more : known_cells l' room (n + 1) ≡ known_cells l room n ++ (c ∷ [])
  pub cells : (i : ℕ) → i < n → cell_in l' room i ≡ cell_in l room i
  pub fields : (i p k : ℕ) → link_offset + 4 ≤ p → p + k ≤ record_width → word little k l' (record_offset room i + p) ≡ word little k l (record_offset room i + p)
  pub rest : drop (known_width * room) l' ≡ drop (known_width * room) l
  pub length-kept : length l' ≡ length l

-- what `clear` leaves: no known cell; what stands behind the heads stays
pub record Emptied (l l' : List ℕ) (room : ℕ) : Type 0 where
  pub known : Known l' room 0
  pub rest : drop (head_width * room) l' ≡ drop (head_width * room) l
  pub length-kept : length l' ≡ length l
