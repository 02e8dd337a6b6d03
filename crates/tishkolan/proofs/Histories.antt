-- After any chain of C calls on a layer, refused ones among them, what get tells is what the last call that touched the cell left of it: `flags-get-after-calls`, `values-get-after-calls`. Each
-- call is one step of a history (crates/history), by its own contract.
use Rattle.refusal.specs.declared.Refusal.{Refusal}
use Rattle.survey.specs.declared.Counts.{Counts}
use Rattle.std.specs.Prelude.{Option, Some, None, Result, Ok, Err}
use mathlib.Core.Path.{◌≡◌, refl, sym, ap, ap₂, ◌∙◌}
use mathlib.Core.List.{List}
use Prim.Native.Nat.{ℕ, ◌-◌}
use Rattle.refusal.specs.declared.Cell.{Cell}
use Rattle.cell.specs.Bytes.{from_bytes_of}
use Rattle.table.specs.Records.{Layer, layer}
use Rattle.layer.specs.Calls.{held_in}
use Rattle.general.specs.Changed.{Changed, changed, saying}
use Rattle.layer.specs.Changes.{set_in, remove_in, clear_in, count_by, left_by}
use Rattle.aggregate.specs.declared.Aggregation.{Aggregation}
use Rattle.rollup.specs.Rollup.{rollup_in}
use Rattle.survey.specs.Survey.{load_of}
use Rattle.face.specs.declared.CountTold.{CountTold}
use Rattle.face.specs.declared.KeptTold.{KeptTold}
use Rattle.face.specs.declared.LoadTold.{LoadTold}
use Rattle.face.specs.Layers.{of_count, of_kept}
use Rattle.face.specs.Surveys.{LoadingTold, loading_told, of_load, of_loading}
use Rattle.face.specs.Aggregates.{aggregation_of, no_rollup, rollup_by, rollup_asked}
use Rattle.history.specs.History.{Kind, flag_layer, value_layer, width_of, Step, set, remove, clear, load, rollup, AllOfBytes, IsLayer, loaded_by, after_count, after_remove, after_load, after, after_all, last_left}
use Rattle.history.proofs.History.{get-after-history}
use Rattle.face.specs.LayerAnswers.{held_told}
use Rattle.tishkolan.proofs.Calls.{FlagsGet, ValuesGet, Handed, Calls, no-calls, set-flags, remove-flags, clear-flags, load-flags, set_value, remove-value, clear-values, load-values, rollup-values, rollup-unknown}
use Rattle.tishkolan.proofs.LayerAnswers.{flags-removed, values-removed}

-- ---- the count that is told is the count that the step leaves

count-told : (n : ℕ) (a : Result ℕ Refusal) → count_by a n ≡ (of_count n a).count
count-told n (Ok m) = refl
count-told n (Err r) = refl

left-told : (n : ℕ) (h : Result (Option ℕ) Refusal) → left_by h n ≡ (of_kept n (n - 1) h).count
left-told n (Ok (Some k)) = refl
left-told n (Ok None) = refl
left-told n (Err r) = refl

flags-loaded : (n m : ℕ) (a : Result Counts Refusal) → loaded_by flag_layer a n ≡ (of_load n m a).flags
flags-loaded n m (Ok c) = refl
flags-loaded n m (Err r) = refl

values-loaded : (n m : ℕ) (a : Result Counts Refusal) → loaded_by value_layer a m ≡ (of_load n m a).values
values-loaded n m (Ok c) = refl
values-loaded n m (Err r) = refl

-- ---- a call is a step

counted : (n : ℕ) (z : Changed (Result ℕ Refusal)) (t : CountTold) (x : List ℕ) → changed t x ≡ saying (of_count n) z → after_count n z ≡ layer x t.count
counted n z t x met =
    ap₂ layer (sym (ap (λ (y : Changed CountTold). y.bytes) met)) (count-told n z.said ∙ sym (ap (λ (y : Changed CountTold). y.said.count) met))

removed : (n : ℕ) (z : Changed (Result (Option ℕ) Refusal)) (t : KeptTold) (x : List ℕ) → t ≡ of_kept n (n - 1) z.said → x ≡ z.bytes → after_remove n z ≡ layer x t.count
removed n z t x told left = ap₂ layer (sym left) (left-told n z.said ∙ sym (ap (λ (y : KeptTold). y.count) told))

module _ (kind : Kind) (l : Layer) (table : List ℕ) (n : ℕ) (handed : Handed l table n) where
  set-step : (id : List ℕ) (k : ℕ) (t : CountTold) (x : List ℕ) → changed t x ≡ saying (of_count n) (set_in (width_of kind) table n id k) → after {kind = kind} (set id k) l ≡ layer x t.count
  unfolding after
  set-step id k t x met = ap₂ (λ (l : List ℕ) (n : ℕ). after_count n (set_in (width_of kind) l n id k)) (sym handed.0) (sym handed.1) ∙ counted n (set_in (width_of kind) table n id k) t x met

  remove-step : (id : List ℕ) (t : KeptTold) (x : List ℕ) → t ≡ of_kept n (n - 1) (remove_in (width_of kind) table n id).said → x ≡ (remove_in (width_of kind) table n id).bytes → after {kind = kind} (remove id) l ≡ layer x t.count
  unfolding after
  remove-step id t x told left = ap₂ (λ (l : List ℕ) (n : ℕ). after_remove n (remove_in (width_of kind) l n id)) (sym handed.0) (sym handed.1) ∙ removed n (remove_in (width_of kind) table n id) t x told left

clear_step : (kind : Kind) (l : Layer) (table x : List ℕ) → table ≡ l.table → x ≡ clear_in (width_of kind) table → after {kind = kind} clear l ≡ layer x 0
unfolding after
clear_step kind l table x e left = ap (λ (t : List ℕ). layer t 0) (sym (left ∙ ap (clear_in (width_of kind)) e))

module _ (l : Layer) (file table : List ℕ) (n : ℕ) (other : List ℕ) (m : ℕ) (handed : Handed l table n) (t : LoadTold) (x y : List ℕ) where
  flags-load-step : loading_told t x y ≡ of_loading n m (load_of file table other) → after {kind = flag_layer} (load file other) l ≡ layer x t.flags
  unfolding after
  flags-load-step met =
      let g = load_of file table other in
      ap₂ (λ (l : List ℕ) (n : ℕ). after_load flag_layer n (load_of file l other)) (sym handed.0) (sym handed.1)
      ∙ ap₂ layer (sym (ap (λ (z : LoadingTold). z.flags) met)) (flags-loaded n m g.said ∙ sym (ap (λ (z : LoadingTold). z.told.flags) met))

  values-load-step : loading_told t y x ≡ of_loading m n (load_of file other table) → after {kind = value_layer} (load file other) l ≡ layer x t.values
  unfolding after
  values-load-step met =
      let g = load_of file other table in
      ap₂ (λ (l : List ℕ) (n : ℕ). after_load value_layer n (load_of file other l)) (sym handed.0) (sym handed.1)
      ∙ ap₂ layer (sym (ap (λ (z : LoadingTold). z.values) met)) (values-loaded m n g.said ∙ sym (ap (λ (z : LoadingTold). z.told.values) met))

module _ (l : Layer) (fine : List ℕ) (i how : ℕ) (table : List ℕ) (n : ℕ) (handed : Handed l table n) (t : CountTold) (x : List ℕ) (met : changed t x ≡ saying (of_count n) (rollup_asked fine i how table)) where
  rollup-step : (h : Aggregation) → aggregation_of how ≡ Some h → after (rollup h fine i) l ≡ layer x t.count
  unfolding after rollup_asked
  rollup-step h asked =
      ap₂ (λ (l : List ℕ) (n : ℕ). after_count n (rollup_in h fine i l)) (sym handed.0) (sym handed.1)
      ∙ counted n (rollup_in h fine i table) t x (met ∙ ap (λ (a : Option Aggregation). saying (of_count n) (rollup_by a fine i table)) asked)

  -- a number that stands for no aggregation changes nothing
  rollup-refused : aggregation_of how ≡ None → l ≡ layer x t.count
  unfolding rollup_asked no_rollup
  rollup-refused asked =
      ap₂ layer (sym handed.0) (sym handed.1)
      ∙ counted n (changed (Err (no_rollup fine i)) table) t x (met ∙ ap (λ (a : Option Aggregation). saying (of_count n) (rollup_by a fine i table)) asked)

-- ---- a chain of calls is a history

pub calls-after : {kind : Kind} {l last : Layer} {steps : List (Step kind)} → Calls kind l steps last → after_all steps l ≡ last
unfolding after_all
calls-after no-calls = refl
calls-after (set-flags {l} {last} {steps} call handed rest) =
    ap (after_all steps) (set-step flag_layer l call.arguments.0.now call.arguments.1.0 handed call.arguments.1.1.0.now call.arguments.1.1.1.0 call.told call.exit.0.now call.meets) ∙ calls-after rest
calls-after (remove-flags {l} {last} {steps} call handed rest) =
    ap (after_all steps) (remove-step flag_layer l call.arguments.0.now call.arguments.1.0 handed call.arguments.1.1.0.now call.told call.exit.0.now (flags-removed call) (ap (λ (z : Changed KeptTold). z.bytes) call.meets))
    ∙ calls-after rest
calls-after (clear-flags {l} {last} {steps} call handed rest) = ap (after_all steps) (clear_step flag_layer l call.arguments.0.now call.exit.0.now handed call.meets) ∙ calls-after rest
calls-after (load-flags {l} {last} {steps} call handed rest) =
    ap (after_all steps) (flags-load-step l call.arguments.0.now call.arguments.1.0.now call.arguments.1.1.0 call.arguments.1.1.1.0.now call.arguments.1.1.1.1.0 handed call.told call.exit.1.0.now call.exit.1.1.1.0.now call.meets)
    ∙ calls-after rest
calls-after (set_value {l} {last} {steps} call handed rest) =
    ap (after_all steps) (set-step value_layer l call.arguments.0.now call.arguments.1.0 handed call.arguments.1.1.0.now call.arguments.1.1.1.0 call.told call.exit.0.now call.meets) ∙ calls-after rest
calls-after (remove-value {l} {last} {steps} call handed rest) =
    ap (after_all steps) (remove-step value_layer l call.arguments.0.now call.arguments.1.0 handed call.arguments.1.1.0.now call.told call.exit.0.now (values-removed call) (ap (λ (z : Changed KeptTold). z.bytes) call.meets))
    ∙ calls-after rest
calls-after (clear-values {l} {last} {steps} call handed rest) = ap (after_all steps) (clear_step value_layer l call.arguments.0.now call.exit.0.now handed call.meets) ∙ calls-after rest
calls-after (load-values {l} {last} {steps} call handed rest) =
    ap (after_all steps) (values-load-step l call.arguments.0.now call.arguments.1.1.1.0.now call.arguments.1.1.1.1.0 call.arguments.1.0.now call.arguments.1.1.0 handed call.told call.exit.1.1.1.0.now call.exit.1.0.now call.meets)
    ∙ calls-after rest
calls-after (rollup-values {l} {last} {steps} call how handed asked rest) =
    ap (after_all steps) (rollup-step l call.arguments.0.now call.arguments.1.0 call.arguments.1.1.0 call.arguments.1.1.1.0.now call.arguments.1.1.1.1.0 handed call.told call.exit.1.1.1.0.now call.meets how asked)
    ∙ calls-after rest
calls-after (rollup-unknown {l} {last} {steps} call handed asked rest) =
    ap (after_all steps) (rollup-refused l call.arguments.0.now call.arguments.1.0 call.arguments.1.1.0 call.arguments.1.1.1.0.now call.arguments.1.1.1.1.0 handed call.told call.exit.1.1.1.0.now call.meets asked)
    ∙ calls-after rest

-- ---- what get tells after it

get-told : (n : ℕ) (h : Option ℕ) → of_kept n n (Ok h) ≡ held_told h n
get-told n (Some k) = refl
get-told n None = refl

get_after : {kind : Kind} {l last : Layer} {steps : List (Step kind)} → IsLayer kind l → AllOfBytes steps → Calls kind l steps last → (table : List ℕ) (n : ℕ) → Handed last table n
    → (id : List ℕ) (c : Cell) → from_bytes_of id ≡ Ok c → of_kept n n (held_in (width_of kind) table n id) ≡ held_told (last_left c steps l) last.count
get_after {kind} {l} {last} {steps} start given calls table n handed id c read =
    let w = width_of kind in
    ap₂ (λ (t : List ℕ) (i : ℕ). of_kept i i (held_in w t i id)) handed.0 handed.1
    ∙ ap (of_kept last.count last.count) (ap (λ (z : Layer). held_in w z.table z.count id) (sym (calls-after calls)) ∙ get-after-history l steps start given id c read)
    ∙ get-told last.count (last_left c steps l)

-- after any calls on a sound flag layer of bytes, what get tells of a cell is what the last call that touched the cell left of it, with the count that was told last
pub flags-get-after-calls : {l last : Layer} {steps : List (Step flag_layer)} → IsLayer flag_layer l → AllOfBytes steps → Calls flag_layer l steps last
    → (get : FlagsGet) → Handed last get.arguments.0.now get.arguments.1.0 → (c : Cell) → from_bytes_of get.arguments.1.1.0.now ≡ Ok c
    → get.told ≡ held_told (last_left c steps l) last.count
flags-get-after-calls start given calls get handed c read =
    let n = get.arguments.1.0 in
    get.meets
    ∙ get_after start given calls get.arguments.0.now n handed get.arguments.1.1.0.now c read

-- and on a value layer
pub values-get-after-calls : {l last : Layer} {steps : List (Step value_layer)} → IsLayer value_layer l → AllOfBytes steps → Calls value_layer l steps last
    → (get : ValuesGet) → Handed last get.arguments.0.now get.arguments.1.0 → (c : Cell) → from_bytes_of get.arguments.1.1.0.now ≡ Ok c
    → get.told ≡ held_told (last_left c steps l) last.count
values-get-after-calls start given calls get handed c read =
    let n = get.arguments.1.0 in
    get.meets
    ∙ get_after start given calls get.arguments.0.now n handed get.arguments.1.1.0.now c read
