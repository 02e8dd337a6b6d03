-- When the C calls set and remove are answered and when they are refused, with what C is told, over the calls' own contracts: `flags-set-answers` and its like; a refusal changes no byte; and
-- `flags-room-serves-again`, over a remove and the set after it.
use Rattle.refusal.specs.declared.Refusal.{Refusal}
use Rattle.std.specs.Prelude.{Option, Some, None, Result, Ok, Err}
use mathlib.Core.Path.{◌≡◌, refl, sym, ap, ap₂, ◌∙◌}
use mathlib.Core.Bool.{Bool, true, false, cond}
use mathlib.Core.List.{List}
use Prim.Native.Nat.{ℕ, ◌-◌, ◌≤◌}
use native.Mathlib.Omega.{arith}
use borrow.Author.Tests.{eqb-false, ltb-true, ltb-false}
use lib.Dec.{eqb, ltb}
use lib.ListN.{length}
use Rattle.refusal.specs.declared.Cell.{Cell}
use Rattle.refusal.specs.declared.Refusal.TheVariants.{BadList}
use Rattle.words.specs.Word.{Bytes}
use Rattle.cell.specs.Bytes.{cell_at, from_bytes_of}
use Rattle.table.specs.Records.{room_for, rows_of, held_of, is_sound}
use Rattle.table.proofs.Laws.{sound-room}
use Rattle.general.specs.Changed.{Changed, changed, saying}
use Rattle.layer.specs.Changes.{set_in, remove_in}
use Rattle.layer.proofs.CallAnswers.{set-bad-list, set-bad-layer, set_new, set-no-room, set-again, remove-bad-list, remove-bad-layer, remove-kept, remove-missing, room-serves-again}
use Rattle.face.specs.declared.CountTold.{CountTold}
use Rattle.face.specs.declared.KeptTold.{KeptTold}
use Rattle.face.specs.Layers.{of_count, of_kept}
use Rattle.face.specs.LayerAnswers.{telling_count, LayerCase, no_cell, no-layer, new-cell, full-layer, kept-cell, set_told, remove_told}
use Rattle.tishkolan.proofs.Calls.{FlagsSet, FlagsRemove, ValuesSet, ValuesRemove}

-- there is no other case
pub layer-case : (w : ℕ) (l : List ℕ) (n : ℕ) (m : List ℕ) → LayerCase w l n m
unfolding from_bytes_of
layer-case w l n m = by_length (eqb (length m) 16) refl (is_sound w l n) refl (held_of (cell_at m 0) (rows_of w l n)) refl (ltb n (room_for w l)) refl
  where
    is-cell : eqb (length m) 16 ≡ true → from_bytes_of m ≡ Ok (cell_at m 0)
    is-cell e = ap (λ (t : Bool). cond t (Ok (cell_at m 0)) (Err BadList)) e

    by_length : (sixteen : Bool) → eqb (length m) 16 ≡ sixteen → (sound : Bool) → is_sound w l n ≡ sound → (h : Option ℕ) → held_of (cell_at m 0) (rows_of w l n) ≡ h → (room : Bool) → ltb n (room_for w l) ≡ room → LayerCase w l n m
    by_length false e sound f h g room i = no_cell (eqb-false (length m) 16 e)
    by_length true e false f h g room i = no-layer (cell_at m 0) (is-cell e) f
    by_length true e true f (Some v) g room i = kept-cell (cell_at m 0) v (is-cell e) f g
    by_length true e true f None g true i = new-cell (cell_at m 0) (is-cell e) f g (ltb-true n (room_for w l) i)
    by_length true e true f None g false i = full-layer (cell_at m 0) (is-cell e) f g (omega (arith, ltb-false n (room_for w l) i, sound-room w l n f))

-- ---- set

module _ (w : ℕ) (l : List ℕ) (n : ℕ) (m : List ℕ) (k : ℕ) (t : CountTold) (x : List ℕ) (met : changed t x ≡ saying (of_count n) (set_in w l n m k)) where
  set-said : t ≡ of_count n (set_in w l n m k).said
  set-said = ap (λ (z : Changed CountTold). z.said) met

  set-left : x ≡ (set_in w l n m k).bytes
  set-left = ap (λ (z : Changed CountTold). z.bytes) met

  set-answers : (c : LayerCase w l n m) → t ≡ set_told c
  set-answers (no_cell other) = set-said ∙ ap (λ (z : Changed (Result ℕ Refusal)). of_count n z.said) (set-bad-list w l n m k other)
  set-answers (no-layer c read broken) = set-said ∙ ap (λ (z : Changed (Result ℕ Refusal)). of_count n z.said) (set-bad-layer w l n m c read k broken)
  set-answers (new-cell c read sound new room) = set-said ∙ ap (of_count n) (set_new w l n m c read sound k new room)
  set-answers (full-layer c read sound new full) = set-said ∙ ap (λ (z : Changed (Result ℕ Refusal)). of_count n z.said) (set-no-room w l n m c read sound k new full)
  set-answers (kept-cell c v read sound again) = set-said ∙ ap (of_count n) (set-again w l n m c read sound k v again)

  set-unchanged : (c : LayerCase w l n m) → ((set_told c).refusal.number ≡ 0 → ⊥) → x ≡ l
  set-unchanged (no_cell other) refused = set-left ∙ ap (λ (z : Changed (Result ℕ Refusal)). z.bytes) (set-bad-list w l n m k other)
  set-unchanged (no-layer c read broken) refused = set-left ∙ ap (λ (z : Changed (Result ℕ Refusal)). z.bytes) (set-bad-layer w l n m c read k broken)
  set-unchanged (new-cell c read sound new room) refused = absurd (refused refl)
  set-unchanged (full-layer c read sound new full) refused = set-left ∙ ap (λ (z : Changed (Result ℕ Refusal)). z.bytes) (set-no-room w l n m c read sound k new full)
  set-unchanged (kept-cell c v read sound again) refused = absurd (refused refl)

  -- a set that is refused changes no byte
  refused-unchanged : (t.refusal.number ≡ 0 → ⊥) → x ≡ l
  refused-unchanged refused = let c = layer-case w l n m in set-unchanged c (λ e. refused (ap (λ (z : CountTold). z.refusal.number) (set-answers c) ∙ e))

-- what C is told of any set of flags, by the cell and the layer that it is given
pub flags-set-answers : (call : FlagsSet) (x : LayerCase 20 call.arguments.0.now call.arguments.1.0 call.arguments.1.1.0.now) → call.told ≡ set_told x
flags-set-answers call x = set-answers 20 call.arguments.0.now call.arguments.1.0 call.arguments.1.1.0.now call.arguments.1.1.1.0 call.told call.exit.0.now call.meets x

-- one that is refused changes no byte
pub flags-set-refused : (call : FlagsSet) → (call.told.refusal.number ≡ 0 → ⊥) → call.exit.0.now ≡ call.arguments.0.now
flags-set-refused call refused = refused-unchanged 20 call.arguments.0.now call.arguments.1.0 call.arguments.1.1.0.now call.arguments.1.1.1.0 call.told call.exit.0.now call.meets refused

-- the same of a value
pub values-set-answers : (call : ValuesSet) (x : LayerCase 24 call.arguments.0.now call.arguments.1.0 call.arguments.1.1.0.now) → call.told ≡ set_told x
values-set-answers call x = set-answers 24 call.arguments.0.now call.arguments.1.0 call.arguments.1.1.0.now call.arguments.1.1.1.0 call.told call.exit.0.now call.meets x

pub values-set-refused : (call : ValuesSet) → (call.told.refusal.number ≡ 0 → ⊥) → call.exit.0.now ≡ call.arguments.0.now
values-set-refused call refused = refused-unchanged 24 call.arguments.0.now call.arguments.1.0 call.arguments.1.1.0.now call.arguments.1.1.1.0 call.told call.exit.0.now call.meets refused

-- ---- remove

module _ (w : ℕ) (l : List ℕ) (n : ℕ) (m : List ℕ) (t : KeptTold) (x : List ℕ) (least : 16 ≤ w) (bytes : Bytes l) (said : t ≡ of_kept n (n - 1) (remove_in w l n m).said) (left : x ≡ (remove_in w l n m).bytes) where
  told-as : {h : Result (Option ℕ) Refusal} → remove_in w l n m ≡ changed h l → t ≡ of_kept n (n - 1) h
  told-as e = said ∙ ap (λ (z : Changed (Result (Option ℕ) Refusal)). of_kept n (n - 1) z.said) e

  left_as : {h : Result (Option ℕ) Refusal} → remove_in w l n m ≡ changed h l → x ≡ l
  left_as e = left ∙ ap (λ (z : Changed (Result (Option ℕ) Refusal)). z.bytes) e

  remove-answers : (c : LayerCase w l n m) → t ≡ remove_told c
  remove-answers (no_cell other) = told-as (remove-bad-list w l n m other)
  remove-answers (no-layer c read broken) = told-as (remove-bad-layer w l n m c read broken)
  remove-answers (new-cell c read sound new room) = told-as (remove-missing w l n m c read sound least bytes new)
  remove-answers (full-layer c read sound new full) = told-as (remove-missing w l n m c read sound least bytes new)
  remove-answers (kept-cell c v read sound e) = said ∙ ap (of_kept n (n - 1)) (remove-kept w l n m c read sound v e)

  remove-unchanged : (c : LayerCase w l n m) → ((remove_told c).found ≡ 1 → ⊥) → x ≡ l
  remove-unchanged (no_cell other) missing = left_as (remove-bad-list w l n m other)
  remove-unchanged (no-layer c read broken) missing = left_as (remove-bad-layer w l n m c read broken)
  remove-unchanged (new-cell c read sound new room) missing = left_as (remove-missing w l n m c read sound least bytes new)
  remove-unchanged (full-layer c read sound new full) missing = left_as (remove-missing w l n m c read sound least bytes new)
  remove-unchanged (kept-cell c v read sound e) missing = absurd (missing refl)

  -- a remove that finds nothing changes no byte
  missing-unchanged : (t.found ≡ 1 → ⊥) → x ≡ l
  missing-unchanged missing = let c = layer-case w l n m in remove-unchanged c (λ e. missing (ap (λ (z : KeptTold). z.found) (remove-answers c) ∙ e))

-- the remove's equation, taken apart
pub flags-removed : (call : FlagsRemove) → call.told ≡ of_kept call.arguments.1.0 (call.arguments.1.0 - 1) (remove_in 20 call.arguments.0.now call.arguments.1.0 call.arguments.1.1.0.now).said
flags-removed call = ap (λ (z : Changed KeptTold). z.said) call.meets

pub values-removed : (call : ValuesRemove) → call.told ≡ of_kept call.arguments.1.0 (call.arguments.1.0 - 1) (remove_in 24 call.arguments.0.now call.arguments.1.0 call.arguments.1.1.0.now).said
values-removed call = ap (λ (z : Changed KeptTold). z.said) call.meets

-- what C is told of any remove of flags from a table of bytes
pub flags-remove-answers : (call : FlagsRemove) → Bytes call.arguments.0.now → (x : LayerCase 20 call.arguments.0.now call.arguments.1.0 call.arguments.1.1.0.now) → call.told ≡ remove_told x
flags-remove-answers call bytes x = remove-answers 20 call.arguments.0.now call.arguments.1.0 call.arguments.1.1.0.now call.told call.exit.0.now (omega arith) bytes (flags-removed call) (ap (λ (z : Changed KeptTold). z.bytes) call.meets) x

-- one that finds nothing changes no byte
pub flags-remove-missing : (call : FlagsRemove) → Bytes call.arguments.0.now → (call.told.found ≡ 1 → ⊥) → call.exit.0.now ≡ call.arguments.0.now
flags-remove-missing call bytes missing = missing-unchanged 20 call.arguments.0.now call.arguments.1.0 call.arguments.1.1.0.now call.told call.exit.0.now (omega arith) bytes (flags-removed call) (ap (λ (z : Changed KeptTold). z.bytes) call.meets) missing

-- the same of a value
pub values-remove-answers : (call : ValuesRemove) → Bytes call.arguments.0.now → (x : LayerCase 24 call.arguments.0.now call.arguments.1.0 call.arguments.1.1.0.now) → call.told ≡ remove_told x
values-remove-answers call bytes x = remove-answers 24 call.arguments.0.now call.arguments.1.0 call.arguments.1.1.0.now call.told call.exit.0.now (omega arith) bytes (values-removed call) (ap (λ (z : Changed KeptTold). z.bytes) call.meets) x

pub values-remove-missing : (call : ValuesRemove) → Bytes call.arguments.0.now → (call.told.found ≡ 1 → ⊥) → call.exit.0.now ≡ call.arguments.0.now
values-remove-missing call bytes missing = missing-unchanged 24 call.arguments.0.now call.arguments.1.0 call.arguments.1.1.0.now call.told call.exit.0.now (omega arith) bytes (values-removed call) (ap (λ (z : Changed KeptTold). z.bytes) call.meets) missing

-- ---- removed room serves again

serves-again : (w : ℕ) (l : List ℕ) (n : ℕ) (m : List ℕ) (r : KeptTold) (x : List ℕ) (q : List ℕ) (k : ℕ) (t : CountTold) (y : List ℕ) (c : Cell) (v : ℕ) (d : Cell) → 16 ≤ w → Bytes l
    → r ≡ of_kept n (n - 1) (remove_in w l n m).said → x ≡ (remove_in w l n m).bytes → changed t y ≡ saying (of_count r.count) (set_in w x r.count q k)
    → from_bytes_of m ≡ Ok c → is_sound w l n ≡ true → held_of c (rows_of w l n) ≡ Some v → from_bytes_of q ≡ Ok d → held_of d (rows_of w x r.count) ≡ None → t ≡ telling_count 0 0 n
serves-again w l n m r x q k t y c v d least bytes said left met read sound e other new =
    let less : r.count ≡ n - 1 = ap (λ (z : KeptTold). z.count) (said ∙ ap (of_kept n (n - 1)) (remove-kept w l n m c read sound v e)) in
    ap (λ (z : Changed CountTold). z.said) met
    ∙ ap (of_count r.count) (ap₂ (λ (i : ℕ) (z : List ℕ). (set_in w z i q k).said) less left ∙ room-serves-again w l n m c v q d k least bytes read other sound e (ap₂ (λ (i : ℕ) (z : List ℕ). held_of d (rows_of w z i)) (sym less) (sym left) ∙ new))

-- a remove of a cell that a flag layer kept, and then a set of a cell that it does not keep, in the table and with the count that the remove left: C is told as many cells as before, and no refusal
pub flags-room-serves-again : (removing : FlagsRemove) (setting : FlagsSet) (c : Cell) (v : ℕ) (d : Cell)
    → let table = removing.arguments.0.now in let n = removing.arguments.1.0 in let left = removing.exit.0.now in
    Bytes table → from_bytes_of removing.arguments.1.1.0.now ≡ Ok c → is_sound 20 table n ≡ true → held_of c (rows_of 20 table n) ≡ Some v
    → setting.arguments.0.now ≡ left → setting.arguments.1.0 ≡ removing.told.count
    → from_bytes_of setting.arguments.1.1.0.now ≡ Ok d → held_of d (rows_of 20 left removing.told.count) ≡ None → setting.told ≡ telling_count 0 0 n
flags-room-serves-again removing setting c v d bytes read sound e table count other new =
    serves-again 20 removing.arguments.0.now removing.arguments.1.0 removing.arguments.1.1.0.now removing.told removing.exit.0.now setting.arguments.1.1.0.now setting.arguments.1.1.1.0 setting.told setting.exit.0.now c v d
    (omega arith) bytes (flags-removed removing) (ap (λ (z : Changed KeptTold). z.bytes) removing.meets)
    (setting.meets ∙ ap₂ (λ (i : ℕ) (z : List ℕ). saying (of_count i) (set_in 20 z i setting.arguments.1.1.0.now setting.arguments.1.1.1.0)) count table)
    read sound e other new

-- the same of a value layer
pub values-room-serves-again : (removing : ValuesRemove) (setting : ValuesSet) (c : Cell) (v : ℕ) (d : Cell)
    → let table = removing.arguments.0.now in let n = removing.arguments.1.0 in let left = removing.exit.0.now in
    Bytes table → from_bytes_of removing.arguments.1.1.0.now ≡ Ok c → is_sound 24 table n ≡ true → held_of c (rows_of 24 table n) ≡ Some v
    → setting.arguments.0.now ≡ left → setting.arguments.1.0 ≡ removing.told.count
    → from_bytes_of setting.arguments.1.1.0.now ≡ Ok d → held_of d (rows_of 24 left removing.told.count) ≡ None → setting.told ≡ telling_count 0 0 n
values-room-serves-again removing setting c v d bytes read sound e table count other new =
    serves-again 24 removing.arguments.0.now removing.arguments.1.0 removing.arguments.1.1.0.now removing.told removing.exit.0.now setting.arguments.1.1.0.now setting.arguments.1.1.1.0 setting.told setting.exit.0.now c v d
    (omega arith) bytes (values-removed removing) (ap (λ (z : Changed KeptTold). z.bytes) removing.meets)
    (setting.meets ∙ ap₂ (λ (i : ℕ) (z : List ℕ). saying (of_count i) (set_in 24 z i setting.arguments.1.1.0.now setting.arguments.1.1.1.0)) count table)
    read sound e other new
