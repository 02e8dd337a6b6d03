-- What the two calls on survey files say of a file and of each other, over their own contracts: 12 is told exactly of bytes that are no file, 0 only of a file with the counts that are
-- told, and what was loaded is written back as the very file.
use Rattle.std.specs.Prelude.{Result, Ok, Err}
use Rattle.survey.specs.declared.Counts.{Counts}
use mathlib.Core.Path.{◌≡◌, refl, sym, ap, ap₂, ◌∙◌}
use mathlib.Core.List.{List, ◌++◌}
use mathlib.Core.Logic.{◌↔◌}
use Prim.Native.Nat.{ℕ, ◌≤◌}
use native.Mathlib.Omega.{arith}
use lib.ListN.{length, drop}
use Rattle.general.specs.Changed.{Changed, changed, saying}
use Rattle.refusal.specs.declared.Refusal.{Refusal}
use Rattle.refusal.specs.declared.Refusal.TheVariants.{BadFile}
use Rattle.refusal.specs.Refusals.{number_of}
use Rattle.refusal.proofs.Numbers.{refused-number}
use Rattle.words.specs.Word.{Bytes}
use Rattle.table.specs.Records.{rows_of, flag_width, value_width}
use Rattle.file.specs.declared.Sections.{Sections}
use Rattle.file.specs.File.{sections_of, accepted_of, file_of}
use Rattle.file.specs.Terms.{IsFile}
use Rattle.file.proofs.AcceptedLaws.{accepted-is-file, refused-is-no-file}
use Rattle.survey.specs.Survey.{counting, Loading, load_of, write_of}
use Rattle.survey.proofs.RoundTrips as round
use Rattle.face.specs.declared.LengthTold.{LengthTold}
use Rattle.face.specs.Surveys.{LoadingTold, of_load, of_write}
use Rattle.face.specs.Told.{answered}
use Rattle.tishkolan.proofs.Calls.{SurveyLoad, file_handed, flags_handed, values_handed, flags_loaded, values_loaded, SurveyWrite, written_lent, written_left, Writes}

-- ---- what a load tells

-- 0 is told of counts alone, and they are those
answered-loaded : (n m : ℕ) (a : Result Counts Refusal) → (of_load n m a).refusal.number ≡ 0 → a ≡ Ok (counting (of_load n m a).flags (of_load n m a).values)
answered-loaded n m (Ok c) h = refl
answered-loaded n m (Err r) h = absurd (refused-number r h)

-- any other number of a refusal alone
otherwise-refused : (n m : ℕ) (a : Result Counts Refusal) → ((of_load n m a).refusal.number ≡ 0 → ⊥) → (why : Refusal) × (a ≡ Err why)
otherwise-refused n m (Ok c) h = absurd (h refl)
otherwise-refused n m (Err r) h = (r, refl)

module _ (call : SurveyLoad) where
  -- what the definition says of it
  abbrev said : Loading
  said = load_of (file_handed call) (flags_handed call) (values_handed call)

  abbrev told-flags : ℕ
  told-flags = call.arguments.1.1.0

  abbrev told-values : ℕ
  told-values = call.arguments.1.1.1.1.0

  number-told : call.told.refusal.number ≡ (of_load told-flags told-values said.said).refusal.number
  number-told = ap (λ (z : LoadingTold). z.told.refusal.number) call.meets

  -- where it answers
  is-loaded : call.told.refusal.number ≡ 0 → said.said ≡ Ok (counting call.told.flags call.told.values)
  is-loaded nought =
      answered-loaded told-flags told-values said.said (sym number-told ∙ nought)
      ∙ ap₂ (λ (i j : ℕ). Ok (counting i j)) (sym (ap (λ (z : LoadingTold). z.told.flags) call.meets)) (sym (ap (λ (z : LoadingTold). z.told.values) call.meets))

  flags-left : flags_loaded call ≡ said.flags
  flags-left = ap (λ (z : LoadingTold). z.flags) call.meets

  values-left : values_loaded call ≡ said.values
  values-left = ap (λ (z : LoadingTold). z.values) call.meets

  pub loaded-is-file : Bytes (file_handed call) → call.told.refusal.number ≡ 0 → IsFile (file_handed call) (sections_of call.told.flags call.told.values)
  loaded-is-file bytes nought = round.loaded-is-file (file_handed call) (flags_handed call) (values_handed call) _ bytes (is-loaded nought)

  -- the rows that stand in the tables make the file
  pub loaded-rows : Bytes (file_handed call) → call.told.refusal.number ≡ 0 → file_handed call ≡ file_of (rows_of 20 (flags_loaded call) call.told.flags) (rows_of 24 (values_loaded call) call.told.values)
  loaded-rows bytes nought =
      round.loaded-rows (file_handed call) (flags_handed call) (values_handed call) _ bytes (is-loaded nought)
      ∙ ap₂ (λ (f v : List ℕ). file_of (rows_of 20 f call.told.flags) (rows_of 24 v call.told.values)) (sym flags-left) (sym values-left)

  pub load-refused : (call.told.refusal.number ≡ 0 → ⊥) → (flags_loaded call ≡ flags_handed call) × (values_loaded call ≡ values_handed call)
  load-refused not-nought =
      let why = otherwise-refused told-flags told-values said.said (λ e. not-nought (number-told ∙ e)) in
      let same = round.refused-unchanged (file_handed call) (flags_handed call) (values_handed call) why.0 why.1 in
      (flags-left ∙ same.0, values-left ∙ same.1)

  -- 12 is told exactly where the bytes are no file
  pub load-twelve-exactly : Bytes (file_handed call) → call.told.refusal.number ≡ 12 ↔ ((at : Sections) → IsFile (file_handed call) at → ⊥)
  load-twelve-exactly bytes = (forward (accepted_of (file_handed call)) refl, backward)
    where
      -- such an answer is no file's
      never : (at : Sections) → accepted_of (file_handed call) ≡ Ok at → (a : Result Counts Refusal) → said.said ≡ a → (of_load told-flags told-values a).refusal.number ≡ 12 → ⊥
      never at e (Ok c) s h = omega arith
      never at e (Err why) s h =
          let room = round.room-alone (file_handed call) (flags_handed call) (values_handed call) at why e s in
          let ten : number_of why ≡ 10 = ap number_of room in
          omega (arith, ten, h)

      forward : (a : Result Sections Refusal) → accepted_of (file_handed call) ≡ a → call.told.refusal.number ≡ 12 → (at : Sections) → IsFile (file_handed call) at → ⊥
      forward (Ok at) e twelve to is = never at e said.said refl (sym number-told ∙ twelve)
      forward (Err why) e twelve to is =
          let has = sym e ∙ (accepted-is-file (file_handed call) to bytes).1 is in
          let z : ◌≡◌ {A = ℕ} 0 1 = cc in
          omega arith

      backward : ((at : Sections) → IsFile (file_handed call) at → ⊥) → call.told.refusal.number ≡ 12
      backward none =
          let place = (refused-is-no-file (file_handed call) bytes).1 none in
          number-told ∙ ap (λ (a : Result Counts Refusal). (of_load told-flags told-values a).refusal.number) (round.bad-file-told (file_handed call) (flags_handed call) (values_handed call) (BadFile place.0) place.1)

-- ---- equal contents, equal files

pub equal-loads :
    (one two : SurveyLoad) → Bytes (file_handed one) → Bytes (file_handed two) → one.told.refusal.number ≡ 0 → two.told.refusal.number ≡ 0
    → rows_of flag_width (flags_loaded one) one.told.flags ≡ rows_of flag_width (flags_loaded two) two.told.flags
    → rows_of value_width (values_loaded one) one.told.values ≡ rows_of value_width (values_loaded two) two.told.values
    → file_handed one ≡ file_handed two
equal-loads one two b c p q flags values = loaded-rows one b p ∙ ap₂ file_of flags values ∙ sym (loaded-rows two c q)

-- ---- load, then write

pub loaded-written-back :
    (load : SurveyLoad) (write : SurveyWrite) → Bytes (file_handed load) → load.told.refusal.number ≡ 0 → Writes load write → length (file_handed load) ≤ length (written_lent write)
    → (write.told.refusal ≡ answered) × (write.told.length ≡ length (file_handed load)) × (written_left write ≡ file_handed load ++ drop (length (file_handed load)) (written_lent write))
loaded-written-back load write bytes nought handed room =
    let l = file_handed load in
    let out = written_lent write in
    let c = counting load.told.flags load.told.values in
    let same : write_of write.arguments.0.now write.arguments.1.0 write.arguments.1.1.0.now write.arguments.1.1.1.0 out ≡ write_of (said load).flags c.flags (said load).values c.values out =
    λ i. write_of ((handed.flags ∙ flags-left load) i) (handed.flag-count i) ((handed.values ∙ values-left load) i) (handed.value-count i) out in
    let back = round.load-write l (flags_handed load) (values_handed load) c out bytes (is-loaded load nought) room in
    let told : changed write.told (written_left write) ≡ saying of_write (changed (Ok (length l)) (l ++ drop (length l) out)) = write.meets ∙ ap (saying of_write) (same ∙ back) in
    (ap (λ (z : Changed LengthTold). z.said.refusal) told, ap (λ (z : Changed LengthTold). z.said.length) told, ap (λ (z : Changed LengthTold). z.bytes) told)
