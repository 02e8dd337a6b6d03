-- What is shown in this crate beside the contracts of src/: the theorems that docs/PROMISES.md names, in words of specs/. The law behind each is the one that its proof names.
use Rattle.std.specs.Prelude.{Result, Ok, Err}
use mathlib.Core.Path.{◌≡◌}
use mathlib.Core.List.{List}
use Prim.Native.Nat.{ℕ, ◌≤◌}
use lib.ListN.{take, length}
use borrow.Fn.Kinds.{Dens, ended_of}
use contract.Lifetimes.{Lfts}
use denote.Triple.Clauses.{AtExit}
use Rattle.refusal.specs.declared.Refusal.{Refusal}
use Rattle.words.specs.Word.{Bytes}
use Rattle.file.specs.declared.Sections.{Sections}
use Rattle.file.specs.File.{most_records, end_place, sections_of, header_of, accepted_of}
use Rattle.survey.specs.Survey.{load_of}
use Rattle.former.specs.Former.{former_flag_rows, former_value_rows, former_load_of}
use Rattle.report_text.specs.Summary.{refused_line, most_read}
use Rattle.rewrite_bytes.specs.Rewrite.{rewrite_of, rewrite_in}
use Rattle.rewrite_bytes.proofs.rewrite.Kinds as rewrite-kinds
use Rattle.rewrite_bytes.proofs.rewrite.Reads as rewrite
use Rattle.rewrite_bytes.proofs as laws

-- ---- a file of before

-- Bytes whose header is right are rewritten as a file that is accepted.
pub rewrite-accepted :
    (l : List ℕ) (at : Sections) → Bytes l → header_of l ≡ Ok at
    → accepted_of (rewrite_of l) ≡ Ok (sections_of (length (former_flag_rows l at)) (length (former_value_rows l at)))
rewrite-accepted = laws.Laws.rewrite-accepted

-- A load of that file is the load of before of the old one: the same answer, and the same bytes in both tables.
pub rewrite-load : (l : List ℕ) (at : Sections) → Bytes l → header_of l ≡ Ok at → (f v : List ℕ) → load_of (rewrite_of l) f v ≡ former_load_of l f v
rewrite-load = laws.Laws.rewrite-load

-- A file that is accepted is rewritten to itself.
pub rewrite-same : (l : List ℕ) (at : Sections) → Bytes l → accepted_of l ≡ Ok at → rewrite_of l ≡ l
rewrite-same = laws.Laws.rewrite-same

-- Of bytes whose header is refused the line of the refusal is printed.
pub rewrite-refused : (l : List ℕ) (why : Refusal) → header_of l ≡ Err why → rewrite_of l ≡ refused_line why
rewrite-refused = laws.Laws.rewrite-refused

-- Such a line is no file.
pub line_refused : (why : Refusal) → (told : Refusal) × (accepted_of (refused_line why) ≡ Err told)
line_refused = laws.Laws.line_refused

-- Of an input the same is printed as of its first 65,536 bytes.
pub longer : (l : List ℕ) → rewrite_of (take most_read l) ≡ rewrite_of l
longer = laws.Longer.longer

-- And the call's definition says and leaves the same.
pub longer-in : (l out : List ℕ) → rewrite_in (take most_read l) out ≡ rewrite_in l out
longer-in = laws.Longer.longer-in

-- ---- the call

-- Where the call answers, what is printed stands at the front of the output.
pub text-at-front :
    (κs : Lfts 2) (a : Dens κs rewrite-kinds.ps) (z : Result ℕ Refusal) (e : AtExit (ended_of 2 rewrite-kinds.ps rewrite-kinds.r) κs)
    (met : rewrite.Post κs a z e) (n : ℕ) → z ≡ Ok n → take n e.1.0.now ≡ rewrite_of a.0.now
text-at-front = laws.Room.text-at-front

-- In an output of 45,072 bytes or more, the length of the longest right file, the call always answers, with the length of what is printed.
pub room-enough :
    (κs : Lfts 2) (a : Dens κs rewrite-kinds.ps) (z : Result ℕ Refusal) (e : AtExit (ended_of 2 rewrite-kinds.ps rewrite-kinds.r) κs)
    (met : rewrite.Post κs a z e) → end_place most_records most_records ≤ length a.1.0.now → z ≡ Ok (length (rewrite_of a.0.now))
room-enough = laws.Room.room-enough

-- Where the call answers and the header is right, a load of the bytes that it left at the front of the output is the load of before of the file that it was handed.
pub rewritten-loads :
    (κs : Lfts 2) (a : Dens κs rewrite-kinds.ps) (z : Result ℕ Refusal) (e : AtExit (ended_of 2 rewrite-kinds.ps rewrite-kinds.r) κs)
    (met : rewrite.Post κs a z e) (n : ℕ) → z ≡ Ok n → (at : Sections) → Bytes a.0.now → header_of a.0.now ≡ Ok at → (f v : List ℕ)
    → load_of (take n e.1.0.now) f v ≡ former_load_of a.0.now f v
rewritten-loads = laws.Room.rewritten-loads

-- Where it answers and the file is accepted, these bytes are the file.
pub rewritten-same :
    (κs : Lfts 2) (a : Dens κs rewrite-kinds.ps) (z : Result ℕ Refusal) (e : AtExit (ended_of 2 rewrite-kinds.ps rewrite-kinds.r) κs)
    (met : rewrite.Post κs a z e) (n : ℕ) → z ≡ Ok n → (at : Sections) → Bytes a.0.now → accepted_of a.0.now ≡ Ok at → take n e.1.0.now ≡ a.0.now
rewritten-same = laws.Room.rewritten-same
