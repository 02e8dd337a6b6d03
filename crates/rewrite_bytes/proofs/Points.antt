-- Known points: records of before in any order and twice, and a header that is refused.
use mathlib.Core.Path.{◌≡◌, refl}
use mathlib.Core.List.{List, [], ◌∷◌, ◌++◌, flat_map}
use Prim.Native.Nat.{ℕ}
use lib.ListN.{take, set, replicate}
use Rattle.refusal.specs.Refusals.{raw_of}
use Rattle.words.specs.Word.{number, ordered, word, low_digits, bytes_of}
use Rattle.cell.specs.Bytes.{cell_at, cell_bytes}
use Rattle.table.specs.Records.{row_at, rows_from, rows_of, row_bytes, with_row}
use Rattle.sorting.specs.Groups.{set_all}
use Rattle.file.specs.File.{header_of, records_in, flag_rows, value_rows, header_bytes, file_of}
use Rattle.former.specs.Former.{former_flag_rows, former_value_rows}
use Rattle.report_text.specs.Summary.{digits_of, decimal_of, line_of}
use Rattle.rewrite_bytes.specs.Rewrite.{rewrite_of}

-- 0001 0000 0000 0000 00000010 00000010
file : List ℕ
file = 0 ∷ 1 ∷ 0 ∷ 0 ∷ 0 ∷ 0 ∷ 0 ∷ 0 ∷ 0 ∷ 0 ∷ 0 ∷ 16 ∷ 0 ∷ 0 ∷ 0 ∷ 16 ∷ []

-- a flag record of a cell whose bytes are all this
flagged : ℕ → ℕ → List ℕ
flagged cell bits = replicate 16 cell ++ (0 ∷ 0 ∷ 0 ∷ bits ∷ [])

-- three records, the first and the last of one cell, become two that ascend, with the later one of that cell
one-record-per-cell : rewrite_of (set (set file 3 3) 15 76 ++ (flagged 7 1 ++ (flagged 6 2 ++ flagged 7 3))) ≡ set (set file 3 2) 15 56 ++ (flagged 6 2 ++ flagged 7 3)
unfolding file flagged rewrite_of header_of former_flag_rows former_value_rows flag_rows value_rows records_in rows_of rows_from row_at set_all with_row raw_of cell_at file_of header_bytes cell_bytes row_bytes bytes_of low_digits flat_map word number ordered
one-record-per-cell = refl

-- "refused 12 15"
cut-header : rewrite_of (take 15 file) ≡ 114 ∷ 101 ∷ 102 ∷ 117 ∷ 115 ∷ 101 ∷ 100 ∷ 32 ∷ 49 ∷ 50 ∷ 32 ∷ 49 ∷ 53 ∷ 10 ∷ []
unfolding file rewrite_of header_of word number ordered line_of decimal_of digits_of
cut-header = refl
