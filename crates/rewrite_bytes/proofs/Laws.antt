-- What a rewrite is for: it is loaded today as the file was loaded before, and a file that is accepted stays as it is.
use Rattle.std.specs.Prelude.{Result, Ok, Err}
use mathlib.Core.Path.{◌≡◌, refl, ap, ap₂, sym, ◌∙◌}
use mathlib.Core.List.{List}
use Prim.Native.Nat.{ℕ}
use native.Mathlib.Omega.{arith}
use lib.ListN.{length}
use Rattle.refusal.specs.declared.Refusal.{Refusal}
use Rattle.words.specs.Word.{Bytes, word, number, ordered}
use Rattle.file.specs.declared.Sections.{Sections}
use Rattle.file.specs.File.{sections_of, header_of, accepted_of, file_of}
use Rattle.file.proofs.HeaderLaws.{accepted-fields}
use Rattle.file.proofs.AcceptedLaws.{accepted-right, file-bytes, file-accepted}
use Rattle.survey.specs.Survey.{load_of}
use Rattle.survey.proofs.RoundTrips.{load-file}
use Rattle.former.specs.Former.{former_flag_rows, former_value_rows, former_load_of}
use Rattle.former.proofs.Rows.{flags-same, values_same, former-flags, former-values}
use Rattle.former.proofs.Split.{former_by}
use Rattle.report_text.specs.Summary.{refused_line}
use Rattle.rewrite_bytes.specs.Rewrite.{rewrite_of}
use Rattle.rewrite_bytes.proofs.Rewritten.{by-header}

module _ (l : List ℕ) where
  module _ (at : Sections) (bytes : Bytes l) (read : header_of l ≡ Ok at) where
    -- it is a file that is accepted
    pub rewrite-accepted : accepted_of (rewrite_of l) ≡ Ok (sections_of (length (former_flag_rows l at)) (length (former_value_rows l at)))
    rewrite-accepted =
        ap accepted_of (by-header l (Ok at) read)
        ∙ file-accepted (former_flag_rows l at) (former_value_rows l at) (former-flags l at read bytes) (former-values l at read bytes)

    -- whose load is that of before
    pub rewrite-load : (f v : List ℕ) → load_of (rewrite_of l) f v ≡ former_load_of l f v
    unfolding former_load_of
    rewrite-load f v =
        ap (λ (m : List ℕ). load_of m f v) (by-header l (Ok at) read)
        ∙ load-file (former_flag_rows l at) (former_value_rows l at) f v (former-flags l at read bytes) (former-values l at read bytes)
        ∙ ap (λ (a : Result Sections Refusal). former_by a l f v) (sym read)

  -- a file that is accepted stays as it is
  pub rewrite-same : (at : Sections) → Bytes l → accepted_of l ≡ Ok at → rewrite_of l ≡ l
  rewrite-same at bytes accepted =
      let right = accepted-right l at accepted in
      by-header l (Ok at) right.header
      ∙ ap₂ file_of (flags-same l at right.flags) (values_same l at right.values)
      ∙ sym (file-bytes l bytes at right.header)

  -- of what the header's tests refuse the line is printed
  pub rewrite-refused : (why : Refusal) → header_of l ≡ Err why → rewrite_of l ≡ refused_line why
  rewrite-refused why read = by-header l (Err why) read

-- the line of a refusal does not begin with a version
line-version : (why : Refusal) (at : Sections) → header_of (refused_line why) ≡ Ok at → ⊥
unfolding word number ordered
line-version why at read = let version = (accepted-fields (refused_line why) at read).version in omega arith

-- so it is no file
pub line_refused : (why : Refusal) → (told : Refusal) × (accepted_of (refused_line why) ≡ Err told)
line_refused why = decide (accepted_of (refused_line why)) refl
  where
    decide : (a : Result Sections Refusal) → accepted_of (refused_line why) ≡ a → (told : Refusal) × (accepted_of (refused_line why) ≡ Err told)
    decide (Err told) said = (told, said)
    decide (Ok at) said = absurd (line-version why at (accepted-right (refused_line why) at said).header)
