-- The history of a layer: any sequence of sets, removes, clears, loads and rollups into it, refused ones among them; what each leaves in the table and the count, by the calls' own
-- definitions, and what each leaves of one cell. A refused call leaves all as it was. Over flag and value layers. Definitions only.
use Rattle.std.specs.Prelude.{◌≡◌, true, cond, List, [], ◌∷◌, ℕ, ◌-◌, ◌^◌, ◌<◌, Option, Some, None, Result, Ok, Err}
use Rattle.refusal.specs.declared.Cell.{Cell}
use Rattle.refusal.specs.declared.Refusal.{Refusal}
use Rattle.words.specs.Word.{Bytes}
use Rattle.cell.specs.Cell.{same_cell}
use Rattle.cell.specs.Bytes.{from_bytes_of, cell_width}
use Rattle.table.specs.Records.{Row, rows_of, held_of, is_sound, flag_width, value_width, Layer, layer}
use Rattle.general.specs.Changed.{Changed}
use Rattle.layer.specs.Changes.{set_in, remove_in, clear_in, count_by, left_by}
use Rattle.sorting.specs.Groups.{groups_of}
use Rattle.aggregate.specs.declared.Aggregation.{Aggregation}
use Rattle.rollup.specs.Rollup.{parent_rows, rolled_of, rollup_in}
use Rattle.file.specs.declared.Sections.{Sections}
use Rattle.file.specs.File.{flag_rows, value_rows, accepted_of}
use Rattle.survey.specs.declared.Counts.{Counts}
use Rattle.survey.specs.Survey.{Loading, load_of}

-- ---- layers and the calls that change them

-- a flag layer or a value layer
pub data Kind : Type 0 where
  flag_layer : Kind
  value_layer : Kind

-- flag records have 20 bytes, value records 24
abbrev pub width_of : Kind → ℕ
width_of flag_layer = flag_width
width_of value_layer = value_width

-- a call on a layer, with all that it is given beside it: a load is given its file and the table of the other layer, a rollup the fine layer
pub data Step : Kind → Type 0 where
  set : {kind : Kind} (id : List ℕ) (kept : ℕ) → Step kind
  remove : {kind : Kind} (id : List ℕ) → Step kind
  clear : {kind : Kind} → Step kind
  load : {kind : Kind} (file other : List ℕ) → Step kind
  rollup : (how : Aggregation) (fine : List ℕ) (n : ℕ) → Step value_layer

-- what a step is given are bytes, and what is to be kept fits its record
abbrev pub OfBytes : {kind : Kind} → Step kind → Type 0
OfBytes {kind} (set id k) = Bytes id × (k < 256 ^ (width_of kind - cell_width))
OfBytes (remove id) = Unit {0}
OfBytes clear = Unit {0}
OfBytes (load file other) = Bytes file
OfBytes (rollup how fine n) = Bytes fine

-- what each step is given are bytes
pub data AllOfBytes {kind : Kind} : List (Step kind) → Type 0 where
  no_steps : AllOfBytes []
  one-step : {s : Step kind} {steps : List (Step kind)} → OfBytes s → AllOfBytes steps → AllOfBytes (s ∷ steps)

-- a table of bytes and a count that are a layer
pub record IsLayer (kind : Kind) (l : Layer) : Type 0 where
  pub bytes : Bytes l.table
  pub sound : is_sound (width_of kind) l.table l.count ≡ true

-- ---- what a step leaves in the table and the count

-- a load into this layer, and the other one beside it
abbrev pub load_into : Kind → List ℕ → List ℕ → List ℕ → Loading
load_into flag_layer file mine other = load_of file mine other
load_into value_layer file mine other = load_of file other mine

-- this layer's table after a load
abbrev pub table_for : Kind → Loading → List ℕ
table_for flag_layer g = g.flags
table_for value_layer g = g.values

-- this layer's count among the two that a load tells
abbrev pub count_for : Kind → Counts → ℕ
count_for flag_layer c = c.flags
count_for value_layer c = c.values

-- the count after a load: where it refuses, the one that was given
abbrev pub loaded_by : Kind → Result Counts Refusal → ℕ → ℕ
loaded_by kind (Ok c) n = count_for kind c
loaded_by kind (Err r) n = n

-- the layer after a set or a rollup
abbrev pub after_count : ℕ → Changed (Result ℕ Refusal) → Layer
after_count n z = layer z.bytes (count_by z.said n)

-- the layer after a remove
abbrev pub after_remove : ℕ → Changed (Result (Option ℕ) Refusal) → Layer
after_remove n z = layer z.bytes (left_by z.said n)

-- the layer after a load
abbrev pub after_load : Kind → ℕ → Loading → Layer
after_load kind n g = layer (table_for kind g) (loaded_by kind g.said n)

-- the layer after a step
unfoldable pub after : {kind : Kind} → Step kind → Layer → Layer
unfolding set_in remove_in clear_in load_of rollup_in
after {kind} (set id k) l = after_count l.count (set_in (width_of kind) l.table l.count id k)
after {kind} (remove id) l = after_remove l.count (remove_in (width_of kind) l.table l.count id)
after {kind} clear l = layer (clear_in (width_of kind) l.table) 0
after {kind} (load file other) l = after_load kind l.count (load_into kind file l.table other)
after (rollup how fine n) l = after_count l.count (rollup_in how fine n l.table)

-- the layer after several, the first one first
unfoldable pub after_all : {kind : Kind} → List (Step kind) → Layer → Layer
unfolding after
after_all [] l = l
after_all (s ∷ steps) l = after_all steps (after s l)

-- ---- what a step leaves of one cell

-- it did not touch the cell, or left this of it
pub data Left : Type 0 where
  untouched : Left
  leaves : Option ℕ → Left

-- a call about one cell leaves the others untouched
abbrev pub of_cell : Cell → Result Cell Refusal → Option ℕ → Left
of_cell c (Ok d) h = cond (same_cell d c) (leaves h) untouched
of_cell c (Err r) h = untouched

-- a set or a rollup that was refused touches no cell
abbrev pub if_counted : Result ℕ Refusal → Left → Left
if_counted (Ok n) x = x
if_counted (Err r) x = untouched

-- nor does a remove that was refused
abbrev pub if_held : Result (Option ℕ) Refusal → Left → Left
if_held (Ok k) x = x
if_held (Err r) x = untouched

-- nor does a load that was refused
abbrev pub if_loaded : Result Counts Refusal → Left → Left
if_loaded (Ok c) x = x
if_loaded (Err r) x = untouched

-- the rows that a file has for this layer
abbrev pub rows_for : Kind → List ℕ → Result Sections Refusal → List Row
rows_for flag_layer file (Ok at) = flag_rows file at
rows_for value_layer file (Ok at) = value_rows file at
rows_for kind file (Err r) = []

-- the rows that a rollup makes
abbrev pub rows_of_rollup : Option (List Row) → List Row
rows_of_rollup None = []
rows_of_rollup (Some rs) = rs

-- set leaves what was set; remove and clear nothing; load and rollup what the file or the fine layer has of the cell
unfoldable pub left : {kind : Kind} → Cell → Step kind → Layer → Left
unfolding from_bytes_of held_of set_in remove_in load_of accepted_of flag_rows value_rows rollup_in rows_of parent_rows groups_of rolled_of
left {kind} c (set id k) l = if_counted (set_in (width_of kind) l.table l.count id k).said (of_cell c (from_bytes_of id) (Some k))
left {kind} c (remove id) l = if_held (remove_in (width_of kind) l.table l.count id).said (of_cell c (from_bytes_of id) None)
left c clear l = leaves None
left {kind} c (load file other) l = if_loaded (load_into kind file l.table other).said (leaves (held_of c (rows_for kind file (accepted_of file))))
left c (rollup how fine n) l = if_counted (rollup_in how fine n l.table).said (leaves (held_of c (rows_of_rollup (rolled_of how (groups_of (parent_rows (rows_of value_width fine n)))))))

-- ---- along a history

-- what is told step by step: each tells the next from itself, the step, and the layer that the step finds
unfoldable pub along : {A : Type 0} {kind : Kind} → (Step kind → Layer → A → A) → List (Step kind) → Layer → A → A
unfolding after
along f [] l a = a
along f (s ∷ steps) l a = along f steps (after s l) (f s l a)

-- what was left of a cell stays until a step touches the cell
abbrev pub left_then : Left → Option ℕ → Option ℕ
left_then untouched h = h
left_then (leaves k) h = k

-- what the last step that touched the cell left of it; where none did, what the layer held at first
unfoldable pub last_left : {kind : Kind} → Cell → List (Step kind) → Layer → Option ℕ
unfolding along left rows_of held_of
last_left {kind} c steps l = along (λ (s : Step kind) (l : Layer) (h : Option ℕ). left_then (left c s l) h) steps l (held_of c (rows_of (width_of kind) l.table l.count))
