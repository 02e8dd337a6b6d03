-- What a program that lends room enough finds in its text. Definitions only.
use Rattle.refusal.specs.declared.Refusal.{Refusal}
use Rattle.std.specs.Prelude.{◌≡◌, List, ℕ, ◌≤◌, length, take, Result, Ok}
use Rattle.report_text.specs.Summary.{report_of, most_read}

-- the report on some file of 65,536 bytes at most stands at the front of the text, and the answer is its length
abbrev pub Whole : Result ℕ Refusal → List ℕ → Type 0
Whole said text = (file : List ℕ) × ((length file ≤ most_read) × ((said ≡ Ok (length (report_of file))) × (take (length (report_of file)) text ≡ report_of file)))
