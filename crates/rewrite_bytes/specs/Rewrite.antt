-- What the program `rewrite` prints of a survey file of before, whose records come in any order: the file of its rows, ascending, of each cell the last one; or, where the header is refused,
-- the line that the report program prints of such a file. Definitions only.
use Rattle.refusal.specs.declared.Refusal.{Refusal}
use Rattle.std.specs.Prelude.{List, ℕ, Result}
use Rattle.general.specs.Changed.{Changed}
use Rattle.file.specs.declared.Sections.{Sections}
use Rattle.file.specs.File.{header_of, on_file, file_of}
use Rattle.survey.specs.Survey.{written}
use Rattle.former.specs.Former.{former_flag_rows, former_value_rows}
use Rattle.report_text.specs.Summary.{decimal_of, line_of, refused_line}

-- the file of the rows that a load of before left: one record for each cell, ascending
abbrev pub ascending_file : List ℕ → Sections → List ℕ
ascending_file l at = file_of (former_flag_rows l at) (former_value_rows l at)

-- what is printed of a file of before
unfoldable pub rewrite_of : List ℕ → List ℕ
unfolding header_of former_flag_rows former_value_rows file_of line_of decimal_of
rewrite_of l = on_file refused_line (ascending_file l) (header_of l)

-- what is said and left in the output: what is printed at the front, or NoRoom 3 where that is longer, and nothing changes
abbrev pub rewrite_in : List ℕ → List ℕ → Changed (Result ℕ Refusal)
rewrite_in l out = written (rewrite_of l) out
