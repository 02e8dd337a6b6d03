-- One step of a history: a layer is a layer after it, and holds of each cell what the step left of it, or what it held before.
use mathlib.Core.Path.{◌≡◌, refl, sym, ap, subst⁻¹, ◌∙◌}
use mathlib.Core.Bool.{Bool, true, false, cond, ◌&&◌, and-eq-true_iff}
use mathlib.Core.List.{List, []}
use Prim.Native.Nat.{ℕ, ◌-◌, ◌^◌, ◌≤◌, ◌<◌}
use native.Mathlib.Omega.{arith}
use borrow.Author.Tests.{leb-true}
use lib.Dec.{leb}
use lib.ListN.{length}
use Rattle.std.specs.Prelude.{Option, Some, None, Result, Ok, Err}
use Rattle.file.specs.declared.Sections.{Sections}
use Rattle.refusal.specs.declared.Cell.{Cell}
use Rattle.refusal.specs.declared.Room.TheVariants as room
use Rattle.refusal.specs.declared.Refusal.{Refusal}
use Rattle.refusal.specs.declared.Refusal.TheVariants as refusal
use Rattle.words.specs.Word.{Bytes}
use Rattle.cell.specs.Cell.{same_cell}
use Rattle.cell.specs.Bytes.{from_bytes_of}
use Rattle.table.specs.Records.{Row, room_for, rows_of, ascending, is_sound, held_of, without_cell, keeping, refilled, Layer, layer}
use Rattle.table.proofs.Laws.{sound-ascending}
use Rattle.table.proofs.Map.{held_with, held-without}
use Rattle.table.specs.Terms.{no_rows, Holds}
use Rattle.table.proofs.Bytes.{rows-storable}
use Rattle.general.specs.Changed.{Changed, changed}
use Rattle.layer.specs.Changes.{set_in, remove_in, clear_in}
use Rattle.cell.proofs.BytesLaws.{read-words}
use Rattle.table.proofs.Holding.{refilled-holds}
use Rattle.layer.proofs.Holding.{set-either, remove-is, remove-holds}
use Rattle.sorting.specs.Groups.{groups_of}
use Rattle.aggregate.specs.declared.Aggregation.{Aggregation}
use Rattle.rollup.specs.Rollup.{parent_rows, rolled_of, rolled_into, rollup_in}
use Rattle.survey.specs.declared.Counts.{Counts}
use Rattle.file.specs.File.{flag_rows, value_rows, accepted_of}
use Rattle.file.specs.Terms.{SectionRows}
use Rattle.file.proofs.HeaderLaws.{accepted-sized}
use Rattle.file.proofs.AcceptedLaws.{accepted-right, section-rows}
use Rattle.survey.specs.Survey.{counting, loading, replaced_both, load_of}
use Rattle.survey.proofs.Split.{load_by}
use Rattle.history.specs.History.{Kind, flag_layer, value_layer, width_of, Step, set, remove, clear, load, rollup, OfBytes, load_into, table_for, count_for, loaded_by, after_count, after_remove, after_load, after, Left, untouched, leaves, of_cell, if_counted, if_held, if_loaded, rows_for, rows_of_rollup, left, left_then}
use Rattle.history.proofs.RollupRows.{rolled-ascending, rolled-storable}

-- a table of bytes that is a sound layer, and holds this of a cell
pub record Shows (kind : Kind) (c : Cell) (l : Layer) (h : Option ℕ) : Type 0 where
  pub bytes : Bytes l.table
  pub sound : is_sound (width_of kind) l.table l.count ≡ true
  pub holds : held_of c (rows_of (width_of kind) l.table l.count) ≡ h

wide : (kind : Kind) → 16 ≤ width_of kind
wide flag_layer = omega arith
wide value_layer = omega arith

shown : (kind : Kind) (c : Cell) (t : List ℕ) (n : ℕ) (rs : List Row) (h : Option ℕ) → Holds (width_of kind) t n rs → held_of c rs ≡ h → Shows kind c (layer t n) h
shown kind c t n rs h has e = record { bytes = has.bytes; sound = has.sound; holds = ap (held_of c) has.rows ∙ e }

-- a call about one cell leaves it, and the others as they were
left-of-cell : (same : Bool) (k h : Option ℕ) → cond same k h ≡ left_then (cond same (leaves k) untouched) h
left-of-cell true k h = refl
left-of-cell false k h = refl

-- ---- what a load does to either layer

replaced-either : (fs vs : List Row) (f v : List ℕ) (P : Result Counts Refusal → List ℕ → List ℕ → Type 0) → P (Err (refusal.NoRoom room.Layer)) f v
    → (length fs ≤ room_for 20 f → length vs ≤ room_for 24 v → P (Ok (counting (length fs) (length vs))) (refilled 20 (room_for 20 f) fs f) (refilled 24 (room_for 24 v) vs v))
    → P (replaced_both fs vs f v).said (replaced_both fs vs f v).flags (replaced_both fs vs f v).values
replaced-either fs vs f v P refused filled = by-room (leb (length fs) (room_for 20 f) && leb (length vs) (room_for 24 v)) refl
  where
    by-room : (t : Bool) → (leb (length fs) (room_for 20 f) && leb (length vs) (room_for 24 v)) ≡ t
        → let g = cond t (loading (Ok (counting (length fs) (length vs))) (refilled 20 (room_for 20 f) fs f) (refilled 24 (room_for 24 v) vs v)) (loading (Err (refusal.NoRoom room.Layer)) f v) in P g.said g.flags g.values
    by-room true e =
        let both = (and-eq-true_iff (leb (length fs) (room_for 20 f)) (leb (length vs) (room_for 24 v))).0 e in
        filled (leb-true (length fs) (room_for 20 f) both.0) (leb-true (length vs) (room_for 24 v) both.1)
    by-room false e = refused

-- it is refused and changes nothing, or fills the table anew with the file's rows
load-either : (kind : Kind) (file mine other : List ℕ) (P : Result Counts Refusal → List ℕ → Type 0) → ((why : Refusal) → P (Err why) mine)
    → ((counts : Counts) → let rs = rows_for kind file (accepted_of file) in count_for kind counts ≡ length rs → length rs ≤ room_for (width_of kind) mine → P (Ok counts) (refilled (width_of kind) (room_for (width_of kind) mine) rs mine))
    → P (load_into kind file mine other).said (table_for kind (load_into kind file mine other))
unfolding load_of
load-either flag_layer file mine other P refused filled = by-file (accepted_of file) filled
  where
    by-file : (a : Result Sections Refusal)
        → ((counts : Counts) → let rs = rows_for flag_layer file a in counts.flags ≡ length rs → length rs ≤ room_for 20 mine → P (Ok counts) (refilled 20 (room_for 20 mine) rs mine))
        → P (load_by a file mine other).said (load_by a file mine other).flags
    by-file (Err why) f = refused why
    by-file (Ok at) f =
        replaced-either (flag_rows file at) (value_rows file at) mine other (λ a fs vs. P a fs) (refused (refusal.NoRoom room.Layer)) (λ some many. f (counting (length (flag_rows file at)) (length (value_rows file at))) refl some)
load-either value_layer file mine other P refused filled = by-file (accepted_of file) filled
  where
    by-file : (a : Result Sections Refusal)
        → ((counts : Counts) → let rs = rows_for value_layer file a in counts.values ≡ length rs → length rs ≤ room_for 24 mine → P (Ok counts) (refilled 24 (room_for 24 mine) rs mine))
        → P (load_by a file other mine).said (load_by a file other mine).values
    by-file (Err why) f = refused why
    by-file (Ok at) f =
        replaced-either (flag_rows file at) (value_rows file at) other mine (λ a fs vs. P a vs) (refused (refusal.NoRoom room.Layer)) (λ some many. f (counting (length (flag_rows file at)) (length (value_rows file at))) refl many)

-- the rows of a file that is accepted are rows of a layer; one that is not has none
rows-of-file : (kind : Kind) (file : List ℕ) (a : Result Sections Refusal) → accepted_of file ≡ a → Bytes file → SectionRows (width_of kind) (rows_for kind file a)
unfolding flag_rows value_rows ascending
rows-of-file flag_layer file (Ok at) read b =
    let right = accepted-right file at read in
    section-rows 20 file at.flags b (accepted-sized file at right.header).few-flags right.flags
rows-of-file value_layer file (Ok at) read b =
    let right = accepted-right file at read in
    section-rows 24 file at.values b (accepted-sized file at right.header).few-values right.values
rows-of-file flag_layer file (Err why) read b = record { few = omega arith; storable = no_rows; ascend = refl }
rows-of-file value_layer file (Err why) read b = record { few = omega arith; storable = no_rows; ascend = refl }

-- ---- the steps

module _ (kind : Kind) (c : Cell) (t : List ℕ) (n : ℕ) (h : Option ℕ) (was : Shows kind c (layer t n) h) where
  abbrev w : ℕ
  w = width_of kind

  set-shows : (id : List ℕ) (k : ℕ) → Bytes id → k < 256 ^ (w - 16) → Shows kind c (after_count n (set_in w t n id k)) (left_then (if_counted (set_in w t n id k).said (of_cell c (from_bytes_of id) (Some k))) h)
  unfolding set_in
  set-shows id k b small = by-cell (from_bytes_of id) refl
    where
      by-cell : (a : Result Cell Refusal) → from_bytes_of id ≡ a → Shows kind c (after_count n (set_in w t n id k)) (left_then (if_counted (set_in w t n id k).said (of_cell c a (Some k))) h)
      by-cell (Err why) read = simp read was
      by-cell (Ok d) read =
          set-either w t n id d read was.sound (wide kind) was.bytes (λ (z : Changed (Result ℕ Refusal)). Shows kind c (after_count n z) (left_then (if_counted z.said (of_cell c (Ok d) (Some k))) h)) k (read-words id d b read) small
          (λ m i has.
          shown kind c m i _ _ has
          (held_with c (keeping d k) (rows_of w t n) ∙ ap (cond (same_cell d c) (Some k)) was.holds ∙ left-of-cell (same_cell d c) (Some k) h))
          was

  remove-shows : (id : List ℕ) → Shows kind c (after_remove n (remove_in w t n id)) (left_then (if_held (remove_in w t n id).said (of_cell c (from_bytes_of id) None)) h)
  unfolding remove_in
  remove-shows id = by-cell (from_bytes_of id) refl
    where
      by-cell : (a : Result Cell Refusal) → from_bytes_of id ≡ a → Shows kind c (after_remove n (remove_in w t n id)) (left_then (if_held (remove_in w t n id).said (of_cell c a None)) h)
      by-cell (Err why) read = simp read was
      by-cell (Ok d) read =
          let rs = rows_of w t n in
          let said : (remove_in w t n id).said ≡ Ok (held_of d rs) = ap (λ (z : Changed (Result (Option ℕ) Refusal)). z.said) (remove-is w t n id d read was.sound) in
          shown kind c (remove_in w t n id).bytes _ (without_cell d rs) _ (remove-holds w t n id d read was.sound (wide kind) was.bytes)
          (held-without c d rs (sound-ascending w t n was.sound)
          ∙ ap (cond (same_cell d c) None) was.holds
          ∙ left-of-cell (same_cell d c) None h
          ∙ ap (λ (x : Left). left_then x h) (sym (ap (λ (a : Result (Option ℕ) Refusal). if_held a (of_cell c (Ok d) None)) said)))

  clear-shows : Shows kind c (layer (clear_in w t) 0) None
  unfolding clear_in held_of ascending
  clear-shows = shown kind c (clear_in w t) 0 [] None (refilled-holds w t (wide kind) was.bytes [] (room_for w t) no_rows refl (omega arith) (omega arith)) refl

  load-shows : (file other : List ℕ) → Bytes file → Shows kind c (after_load kind n (load_into kind file t other)) (left_then (if_loaded (load_into kind file t other).said (leaves (held_of c (rows_for kind file (accepted_of file))))) h)
  load-shows file other b =
      let rs = rows_for kind file (accepted_of file) in
      load-either kind file t other (λ (a : Result Counts Refusal) (m : List ℕ). Shows kind c (layer m (loaded_by kind a n)) (left_then (if_loaded a (leaves (held_of c rs))) h))
      (λ why. was)
      (λ counts size fits.
      let rows = rows-of-file kind file (accepted_of file) refl b in
      subst⁻¹ (λ (i : ℕ). Shows kind c (layer (refilled w (room_for w t) rs t) i) (held_of c rs)) size
      (shown kind c (refilled w (room_for w t) rs t) (length rs) rs (held_of c rs) (refilled-holds w t (wide kind) was.bytes rs (room_for w t) rows.storable rows.ascend fits (omega arith)) refl))

rollup-shows : (c : Cell) (t : List ℕ) (n : ℕ) (h : Option ℕ) → Shows value_layer c (layer t n) h → (how : Aggregation) (fine : List ℕ) (m : ℕ) → Bytes fine
    → Shows value_layer c (after_count n (rollup_in how fine m t)) (left_then (if_counted (rollup_in how fine m t).said (leaves (held_of c (rows_of_rollup (rolled_of how (groups_of (parent_rows (rows_of 24 fine m)))))))) h)
unfolding rollup_in rows_of
rollup-shows c t n h was how fine m b = by-sound (is_sound 24 fine m) (rolled_of how (groups_of (parent_rows (rows_of 24 fine m)))) refl
  where
    by-room : (rs : List Row) (fits : Bool) → leb (length rs) (room_for 24 t) ≡ fits → rolled_of how (groups_of (parent_rows (rows_of 24 fine m))) ≡ Some rs
        → let z = cond fits (changed (Ok (length rs)) (refilled 24 (room_for 24 t) rs t)) (changed (Err (refusal.NoRoom room.Layer)) t) in Shows value_layer c (after_count n z) (left_then (if_counted z.said (leaves (held_of c rs))) h)
    by-room rs true e made =
        let rows = rows_of 24 fine m in
        shown value_layer c (refilled 24 (room_for 24 t) rs t) (length rs) rs (held_of c rs)
        (refilled-holds 24 t (omega arith) was.bytes rs (room_for 24 t) (rolled-storable how rows rs made (rows-storable 24 fine 0 m b)) (rolled-ascending how rows rs made) (leb-true (length rs) (room_for 24 t) e) (omega arith)) refl
    by-room rs false e made = was

    by-sound : (sound : Bool) (r : Option (List Row)) → rolled_of how (groups_of (parent_rows (rows_of 24 fine m))) ≡ r
        → let z = cond sound (rolled_into r t) (changed (Err refusal.BadLayer) t) in Shows value_layer c (after_count n z) (left_then (if_counted z.said (leaves (held_of c (rows_of_rollup r)))) h)
    by-sound false r e = was
    by-sound true None e = was
    by-sound true (Some rs) e = by-room rs (leb (length rs) (room_for 24 t)) refl e

-- any of them
pub step-shows : {kind : Kind} (c : Cell) (s : Step kind) (l : Layer) (h : Option ℕ) → OfBytes s → Shows kind c l h → Shows kind c (after s l) (left_then (left c s l) h)
unfolding after left
step-shows {kind} c (set id k) l h given was = set-shows kind c l.table l.count h was id k given.0 given.1
step-shows {kind} c (remove id) l h given was = remove-shows kind c l.table l.count h was id
step-shows {kind} c clear l h given was = clear-shows kind c l.table l.count h was
step-shows {kind} c (load file other) l h given was = load-shows kind c l.table l.count h was file other given
step-shows c (rollup how fine n) l h given was = rollup-shows c l.table l.count h was how fine n given
