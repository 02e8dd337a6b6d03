-- What is known of the report on an input: it is the report on some file of 65,536 bytes at most. Definitions only.
use Rattle.refusal.specs.declared.Refusal.{Refusal}
use Rattle.std.specs.Prelude.{◌≡◌, List, ℕ, ◌≤◌, length, Result, Ok, Err}
use Rattle.general.specs.Changed.{changed}
use Rattle.report_text.specs.Summary.{report_in, most_read}

-- the answer and the text are those of the report on some file of 65,536 bytes at most; where a read failed, the text is as it was
abbrev pub Reports : {E : Type 0} → Result (Result ℕ Refusal) E → List ℕ → List ℕ → Type 0
Reports (Ok answer) text text' = (file : List ℕ) × ((length file ≤ most_read) × (changed answer text' ≡ report_in file text))
Reports (Err why) text text' = text' ≡ text
