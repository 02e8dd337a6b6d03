-- A cell's 16 bytes, big-endian as the survey file and the lists of cells have them: "`from_bytes` takes all 16-byte values". Definitions only.
use Rattle.std.specs.Prelude.{Bool, true, false, cond, List, [], ◌∷◌, ◌++◌, ℕ, ◌+◌, eqb, ltb, length, Result, Ok, Err}
use Rattle.general.specs.Refuse.{refuse_unless}
use Rattle.refusal.specs.declared.Cell.{Cell}
use Rattle.refusal.specs.declared.Refusal.TheVariants.{BadList}
use Rattle.refusal.specs.declared.Refusal.{Refusal}
use Rattle.words.specs.Word.{big, bytes_of, word}

-- how many bytes a cell has
abbrev pub cell_width : ℕ
cell_width = 16

-- the cell that the 16 bytes at p make
unfoldable pub cell_at : List ℕ → ℕ → Cell
cell_at l p = record { high = word big 8 l p; low = word big 8 l (p + 8) }

-- a cell's bytes
unfoldable pub cell_bytes : Cell → List ℕ
cell_bytes c = bytes_of big 8 c.high ++ bytes_of big 8 c.low

-- refused where "a single cell's [length] is not 16"
unfoldable pub from_bytes_of : List ℕ → Result Cell Refusal
unfolding cell_at
from_bytes_of l = refuse_unless (eqb (length l) cell_width) (Err BadList) (Ok (cell_at l 0))

-- the lexicographic order: the first bytes that differ decide, and a list's beginnings come before it
unfoldable pub bytes_less : List ℕ → List ℕ → Bool
bytes_less l [] = false
bytes_less [] (b ∷ m) = true
bytes_less (a ∷ l) (b ∷ m) = cond (eqb a b) (bytes_less l m) (ltb a b)

-- what is said of the cell, or of the refusal of its bytes
abbrev pub by_cell : {A : Type 0} → (Refusal → A) → (Cell → A) → Result Cell Refusal → A
by_cell f g (Err r) = f r
by_cell f g (Ok c) = g c

-- what is said of the cell that these bytes are, or of their refusal
abbrev pub on_cell : {A : Type 0} → (Refusal → A) → (Cell → A) → List ℕ → A
on_cell f g l = by_cell f g (from_bytes_of l)

-- the same of two cells: the first is read first
abbrev pub on_cells : {A : Type 0} → (Refusal → A) → (Cell → Cell → A) → List ℕ → List ℕ → A
on_cells f g l m = on_cell f (λ a. on_cell f (g a) m) l
