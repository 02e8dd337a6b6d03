-- What follows a load of before into tables of full room: what they hold is written as the ascending file, and a refusal is the header's.
use Rattle.std.specs.Prelude.{Result, Ok, Err}
use mathlib.Core.Path.{◌≡◌, refl, sym, ap, ap₂, ◌∙◌}
use mathlib.Core.List.{List}
use Prim.Native.Nat.{ℕ, ◌*◌}
use native.Mathlib.Omega.{arith}
use lib.ListN.{length}
use Rattle.refusal.specs.declared.Refusal.{Refusal}
use Rattle.words.specs.Word.{Bytes}
use Rattle.table.specs.Records.{most_cells}
use Rattle.file.specs.declared.Sections.{Sections}
use Rattle.file.specs.File.{header_of, on_file}
use Rattle.survey.specs.declared.Counts.{Counts}
use Rattle.survey.specs.Survey.{counting, Loading, loading, written, write_of}
use Rattle.survey.proofs.FullRoom.{flag-room, value_room}
use Rattle.survey.proofs.RoundTrips.{write-refilled}
use Rattle.former.specs.Former.{former_flag_rows, former_value_rows, former_load_of}
use Rattle.former.proofs.Rows.{few-flags, few-values, former-flags, former-values}
use Rattle.former.proofs.Split.{former_by}
use Rattle.former.proofs.FullRoom.{full-load}
use Rattle.report_text.specs.Summary.{refused_line}
use Rattle.rewrite_bytes.specs.Rewrite.{ascending_file, rewrite_of, rewrite_in}

-- what is printed by what the header says
pub by-header : (l : List ℕ) (a : Result Sections Refusal) → header_of l ≡ a → rewrite_of l ≡ on_file refused_line (ascending_file l) a
unfolding rewrite_of
by-header l a read = ap (on_file refused_line (ascending_file l)) read

never : {why : Refusal} {c : Counts} → Err why ≡ Ok c → ⊥
never e = let z : ◌≡◌ {A = ℕ} 0 1 = cc in omega arith

module _ (l f v : List ℕ) (flag-table : length f ≡ 20 * most_cells) (value-table : length v ≡ 24 * most_cells) {answer : Result Counts Refusal} {table other : List ℕ} (done : loading answer table other ≡ former_load_of l f v) where
  header_refused : (told : Refusal) → header_of l ≡ Err told → answer ≡ Err told
  unfolding former_load_of
  header_refused told read = ap (λ (x : Loading). x.said) (done ∙ ap (λ (a : Result Sections Refusal). former_by a l f v) read)

  header-accepted : (at : Sections) → header_of l ≡ Ok at → answer ≡ Ok (counting (length (former_flag_rows l at)) (length (former_value_rows l at)))
  header-accepted at read = ap (λ (x : Loading). x.said) (done ∙ full-load l at read f v flag-table value-table)

  -- the load refuses what the header's tests refuse, and nothing else
  pub refused-line : (why : Refusal) → answer ≡ Err why → refused_line why ≡ rewrite_of l
  refused-line why said = decide (header_of l) refl
    where
      decide : (a : Result Sections Refusal) → header_of l ≡ a → refused_line why ≡ rewrite_of l
      decide (Err told) read =
          let refused = header_refused told read in
          let same : why ≡ told = cc in
          ap refused_line same ∙ sym (by-header l (Err told) read)
      decide (Ok at) read = absurd (never (sym said ∙ header-accepted at read))

  -- what was loaded is written as the ascending file
  pub loaded-file : Bytes l → (c : Counts) → answer ≡ Ok c → (out : List ℕ) → write_of table c.flags other c.values out ≡ rewrite_in l out
  loaded-file bytes c said out = decide (header_of l) refl
    where
      decide : (a : Result Sections Refusal) → header_of l ≡ a → write_of table c.flags other c.values out ≡ rewrite_in l out
      decide (Err told) read = absurd (never (sym (header_refused told read) ∙ said))
      decide (Ok at) read =
          let fs = former_flag_rows l at in
          let vs = former_value_rows l at in
          let loaded = header-accepted at read in
          let counts : c ≡ counting (length fs) (length vs) = cc in
          let some = flag-room f v flag-table value-table fs vs (few-flags l at read) (few-values l at read) in
          let many = value_room f v flag-table value-table fs vs (few-flags l at read) (few-values l at read) in
          ap₂ (λ (x : Loading) (k : Counts). write_of x.flags k.flags x.values k.values out) (done ∙ full-load l at read f v flag-table value-table) counts
          ∙ write-refilled fs vs f v out (former-flags l at read bytes) (former-values l at read bytes) some many
          ∙ ap (λ (file : List ℕ). written file out) (sym (by-header l (Ok at) read))
