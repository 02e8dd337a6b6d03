-- The room that a rewrite takes: no more than the longest right file has, 45,072 bytes; and where the call answers, what is printed stands at the front of the output, so that all that is
-- true of it is true of these bytes.
use Rattle.std.specs.Prelude.{Result, Ok, Err}
use Rattle.refusal.specs.declared.Refusal.{Refusal}
use mathlib.Core.Path.{◌≡◌, refl, sym, ap, ◌∙◌}
use mathlib.Core.List.{List, [], ◌∷◌}
use Prim.Native.Nat.{ℕ, ◌≤◌}
use native.Mathlib.Omega.{arith}
use borrow.Fn.Kinds.{Dens, ended_of}
use contract.Lifetimes.{Lfts}
use denote.Triple.Clauses.{AtExit}
use lib.ListN.{length, take, length-append}
use Rattle.refusal.specs.Refusals.{number_of, place_of}
use Rattle.words.specs.Word.{Bytes}
use Rattle.general.specs.Changed.{Changed, changed}
use Rattle.file.specs.declared.Sections.{Sections}
use Rattle.file.specs.File.{most_records, end_place, header_of, accepted_of}
use Rattle.file.proofs.FileLaws.{length-file}
use Rattle.survey.specs.Survey.{load_of}
use Rattle.former.specs.Former.{former_flag_rows, former_value_rows, former_load_of}
use Rattle.former.proofs.Rows.{few-flags, few-values}
use Rattle.report_text.proofs.Decimals.{length-decimal, length-line}
use Rattle.report_text.proofs.Room.{fitting, told-written}
use Rattle.rewrite_bytes.specs.Rewrite.{rewrite_of, rewrite_in}
use Rattle.rewrite_bytes.proofs.Rewritten.{by-header}
use Rattle.rewrite_bytes.proofs.Laws.{rewrite-load, rewrite-same}
use Rattle.rewrite_bytes.proofs.rewrite.Kinds as rewrite-kinds
use Rattle.rewrite_bytes.proofs.rewrite.Reads as rewrite

-- ---- how long it is

pub rewrite-short : (l : List ℕ) → length (rewrite_of l) ≤ end_place most_records most_records
rewrite-short l = decide (header_of l) refl
  where
    decide : (a : Result Sections Refusal) → header_of l ≡ a → length (rewrite_of l) ≤ end_place most_records most_records
    decide (Err why) read = rw (by-header l (Err why) read) (simp length-append (omega (arith, length-decimal (number_of why), length-line (32 ∷ []) (place_of why))))
    decide (Ok at) read =
        omega (arith, ap length (by-header l (Ok at) read), length-file (former_flag_rows l at) (former_value_rows l at), few-flags l at read, few-values l at read)

-- ---- the call

module _ (κs : Lfts 2) (a : Dens κs rewrite-kinds.ps) (z : Result ℕ Refusal) (e : AtExit (ended_of 2 rewrite-kinds.ps rewrite-kinds.r) κs) (met : rewrite.Post κs a z e) where
  -- where the call answers, what is printed stands at the front of the output
  pub text-at-front : (n : ℕ) → z ≡ Ok n → take n e.1.0.now ≡ rewrite_of a.0.now
  text-at-front n written =
      let known : changed (Ok n) e.1.0.now ≡ rewrite_in a.0.now a.1.0.now = ap (λ (x : Result ℕ Refusal). changed x e.1.0.now) (sym written) ∙ met in
      (told-written (rewrite_of a.0.now) a.1.0.now known).1.1

  -- an output of 45,072 bytes or more is always room enough: the call tells the length of what is printed
  pub room-enough : end_place most_records most_records ≤ length a.1.0.now → z ≡ Ok (length (rewrite_of a.0.now))
  room-enough h = ap (λ (g : Changed (Result ℕ Refusal)). g.said) (met ∙ fitting (rewrite_of a.0.now) a.1.0.now (omega (arith, rewrite-short a.0.now)))

  -- a load of what stands there is the load of before of the file that was handed over
  pub rewritten-loads : (n : ℕ) → z ≡ Ok n → (at : Sections) → Bytes a.0.now → header_of a.0.now ≡ Ok at → (f v : List ℕ) → load_of (take n e.1.0.now) f v ≡ former_load_of a.0.now f v
  rewritten-loads n written at bytes read f v = ap (λ (m : List ℕ). load_of m f v) (text-at-front n written) ∙ rewrite-load a.0.now at bytes read f v

  -- and a file that is accepted stands there as it was
  pub rewritten-same : (n : ℕ) → z ≡ Ok n → (at : Sections) → Bytes a.0.now → accepted_of a.0.now ≡ Ok at → take n e.1.0.now ≡ a.0.now
  rewritten-same n written at bytes accepted = text-at-front n written ∙ rewrite-same a.0.now at bytes accepted
