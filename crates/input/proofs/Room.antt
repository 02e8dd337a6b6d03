-- The text that a report on an input leaves: it stands at the front, and a text of 84 bytes is always room enough.
use Rattle.refusal.specs.declared.Refusal.{Refusal}
use mathlib.Core.Path.{◌≡◌, sym, ap, subst, ◌∙◌}
use mathlib.Core.List.{List}
use Prim.Native.Nat.{ℕ, ◌≤◌}
use native.Mathlib.Omega.{arith}
use borrow.Fn.Kinds.{Dens, ended_of}
use contract.Lifetimes.{Lfts}
use denote.Triple.Clauses.{AtExit}
use denote.RattleType.{RattleType}
use denote.Param.Laws.{Laws}
use mir.Syntax.{Dict}
use Rattle.std.specs.declared.io.traits.Read.{Ghosts}
use Rattle.std.specs.contracts.io.Error.{the_row as error}
use lib.ListN.{length, take, length-take}
use Rattle.std.specs.Counts.{IsPrefixLen}
use Rattle.general.specs.Changed.{Changed, changed}
use Rattle.report_text.specs.Summary.{report_of}
use Rattle.report_text.proofs.Room.{fitting, told-written, report-short}
use Rattle.std.specs.Prelude.{Result, Ok, Err}
use Rattle.input.specs.Input.{Reports}
use Rattle.input.specs.Whole.{Whole}
use Rattle.input.proofs.report.Kinds as report-kinds
use Rattle.input.proofs.report.Reads as report

-- what an answer tells is a count of bytes at the front of the text
pub at_front : {E : Type 0} (text text' : List ℕ) {answer : Result (Result ℕ Refusal) E} {said : Result ℕ Refusal} {n : ℕ} → answer ≡ Ok said → said ≡ Ok n → Reports answer text text' → IsPrefixLen n text'
at_front {E} text text' {n = n} reported written met =
    let known : Reports {E = E} (Ok (Ok n)) text text' = subst (λ (x : Result (Result ℕ Refusal) E). Reports x text text') (reported ∙ ap Ok written) met in
    let told = told-written (report_of known.0) text known.1.1 in
    let size : n ≡ length (take n text') = told.1.0 ∙ ap length (sym told.1.1) in
    (omega (arith, length-take n text'), size)

-- where there are 84 bytes, a report is never refused
whole : (E : Type 0) (text text' : List ℕ) (said : Result ℕ Refusal) → 84 ≤ length text → Reports {E = E} (Ok said) text text' → Whole said text'
whole E text text' said h (file, (few, told)) =
    let fits = told ∙ fitting (report_of file) text (omega (arith, report-short file)) in
    let answered : said ≡ Ok (length (report_of file)) = ap (λ (g : Changed (Result ℕ Refusal)). g.said) fits in
    let written = told-written (report_of file) text (ap (λ (x : Result ℕ Refusal). changed x text') (sym answered) ∙ told) in
    (file, (few, (answered, written.1.1)))

-- so a call that is lent 84 bytes or more and that no read failed leaves a whole report
pub room-enough : {T : RattleType} (L : Laws T) (read : Ghosts T.Denot) (dict : Dict) (κs : Lfts 3) (a : Dens κs (report-kinds.ps T L)) (z : Result (Result ℕ Refusal) error.Denot) (e : AtExit (ended_of 3 (report-kinds.ps T L) (report-kinds.r T L)) κs)
    → report.Post T L read dict κs a z e
    → (said : Result ℕ Refusal) → z ≡ Ok said → 84 ≤ length a.1.0.now → Whole said e.1.0.now
room-enough L read dict κs a z e met said reported h =
    whole error.Denot a.1.0.now e.1.0.now said h (subst (λ (x : Result (Result ℕ Refusal) error.Denot). Reports x a.1.0.now e.1.0.now) reported met)

-- and one that a read failed leaves the text as it was
pub unchanged : {T : RattleType} (L : Laws T) (read : Ghosts T.Denot) (dict : Dict) (κs : Lfts 3) (a : Dens κs (report-kinds.ps T L)) (z : Result (Result ℕ Refusal) error.Denot) (e : AtExit (ended_of 3 (report-kinds.ps T L) (report-kinds.r T L)) κs)
    → report.Post T L read dict κs a z e
    → (why : error.Denot) → z ≡ Err why → e.1.0.now ≡ a.1.0.now
unchanged L read dict κs a z e met why failed = subst (λ (x : Result (Result ℕ Refusal) error.Denot). Reports x a.1.0.now e.1.0.now) failed met
