-- When set and remove are answered and when they are refused: "A new cell in a full layer is NoRoom 4; replacing is not, and removed room serves again." A cell that has not 16 bytes, a
-- layer that is not sound, a new cell with room and without, a cell that is kept: these are all cases. Over the width of a record.
use mathlib.Core.Path.{◌≡◌, ap, subst, subst⁻¹, ◌∙◌}
use mathlib.Core.Bool.{Bool, true, false, cond}
use mathlib.Core.List.{List}
use Prim.Native.Nat.{ℕ, suc, ◌+◌, ◌-◌, ◌/◌, ◌≤◌, ◌<◌, min}
use native.Mathlib.Omega.{arith}
use borrow.Author.Tests.{le-leb, lt-leb, ne_eqb}
use lib.ListN.{length}
use Rattle.std.specs.Prelude.{Some, None, Result, Ok, Err, Option}
use Rattle.refusal.specs.declared.Refusal.{Refusal}
use Rattle.refusal.specs.declared.Cell.{Cell}
use Rattle.refusal.specs.declared.Room.TheVariants as room
use Rattle.refusal.specs.declared.Refusal.TheVariants.{NoRoom, BadLayer, BadList}
use Rattle.words.specs.Word.{Bytes}
use Rattle.cell.specs.Bytes.{cell_at, from_bytes_of}
use Rattle.table.specs.Records.{most_cells, room_for, rows_of, is_sound, held_of, with_row, without_cell, keeping}
use Rattle.table.proofs.Laws.{sound-ascending, sound-room, rows-within}
use Rattle.table.proofs.Map.{length-with-held, length-with-new, length-without-held, without-none}
use Rattle.table.proofs.Bytes.{length-rows_from}
use Rattle.general.specs.Changed.{Changed, changed}
use Rattle.layer.specs.Changes.{set_in, remove_in, left_by}
use Rattle.table.proofs.Refills.{length-refilled}
use Rattle.table.proofs.ChangeLaws.{refilled-rows}
use Rattle.table.specs.Terms.{Holds}
use Rattle.layer.proofs.Holding.{set_is, remove-is, remove-holds}

-- bytes that are not 16 are no cell
not-a-cell : (m : List ℕ) → (length m ≡ 16 → ⊥) → from_bytes_of m ≡ Err BadList
unfolding from_bytes_of
not-a-cell m other = ap (λ (t : Bool). cond t (Ok (cell_at m 0)) (Err BadList)) (ne_eqb (length m) 16 other)

module _ (w : ℕ) (l : List ℕ) (n : ℕ) (m : List ℕ) where
  -- a cell that has not 16 bytes is BadList, whatever the layer, and no byte changes
  pub set-bad-list : (k : ℕ) → (length m ≡ 16 → ⊥) → set_in w l n m k ≡ changed (Err BadList) l
  unfolding set_in
  set-bad-list k other = simp (not-a-cell m other)

  pub remove-bad-list : (length m ≡ 16 → ⊥) → remove_in w l n m ≡ changed (Err BadList) l
  unfolding remove_in
  remove-bad-list other = simp (not-a-cell m other)

  module _ (c : Cell) (read : from_bytes_of m ≡ Ok c) where
    -- a layer that is not sound is BadLayer, and no byte changes
    pub set-bad-layer : (k : ℕ) → is_sound w l n ≡ false → set_in w l n m k ≡ changed (Err BadLayer) l
    unfolding set_in
    set-bad-layer k broken = simp (read, broken)

    pub remove-bad-layer : is_sound w l n ≡ false → remove_in w l n m ≡ changed (Err BadLayer) l
    unfolding remove_in
    remove-bad-layer broken = simp (read, broken)

    module _ (sound : is_sound w l n ≡ true) where
      -- rows that there is room for are answered by their number, others are NoRoom 4
      fits : (k : ℕ) → length (with_row (keeping c k) (rows_of w l n)) ≤ room_for w l → (set_in w l n m k).said ≡ Ok (length (with_row (keeping c k) (rows_of w l n)))
      fits k h =
          let rs = with_row (keeping c k) (rows_of w l n) in
          simp (set_is w l n m c read sound k, le-leb (length rs) (room_for w l) h)

      -- a new cell is answered where there is room: one cell more
      pub set_new : (k : ℕ) → held_of c (rows_of w l n) ≡ None → n < room_for w l → (set_in w l n m k).said ≡ Ok (n + 1)
      unfolding rows_of
      set_new k new room =
          let size : length (with_row (keeping c k) (rows_of w l n)) ≡ n + 1 = omega (arith, length-with-new (keeping c k) (rows_of w l n) new, length-rows_from w l 0 n) in
          fits k (omega (arith, size)) ∙ ap Ok size

      -- and in a full layer it is NoRoom 4, and no byte changes
      pub set-no-room : (k : ℕ) → held_of c (rows_of w l n) ≡ None → n ≡ room_for w l → set_in w l n m k ≡ changed (Err (NoRoom room.Layer)) l
      unfolding rows_of
      set-no-room k new full =
          let rs = with_row (keeping c k) (rows_of w l n) in
          let size : room_for w l < length rs = omega (arith, length-with-new (keeping c k) (rows_of w l n) new, length-rows_from w l 0 n) in
          set_is w l n m c read sound k ∙ simp (lt-leb (length rs) (room_for w l) size)

      -- a cell that is kept is replaced, in a full layer too: as many cells as before
      pub set-again : (k v : ℕ) → held_of c (rows_of w l n) ≡ Some v → (set_in w l n m k).said ≡ Ok n
      unfolding rows_of
      set-again k v again =
          let size : length (with_row (keeping c k) (rows_of w l n)) ≡ n = length-with-held (keeping c k) (rows_of w l n) v (sound-ascending w l n sound) again ∙ length-rows_from w l 0 n in
          fits k (omega (arith, size, sound-room w l n sound)) ∙ ap Ok size

      -- a remove of a cell that is kept says what was kept
      pub remove-kept : (v : ℕ) → held_of c (rows_of w l n) ≡ Some v → (remove_in w l n m).said ≡ Ok (Some v)
      remove-kept v e = simp (remove-is w l n m c read sound, e)

      -- and of another, that nothing was; no byte changes
      pub remove-missing : 16 ≤ w → Bytes l → held_of c (rows_of w l n) ≡ None → remove_in w l n m ≡ changed (Ok None) l
      remove-missing least bytes e =
          remove-is w l n m c read sound
          ∙ rw (e, without-none c (rows_of w l n) e, refilled-rows w l n least bytes (rows-within w l n (sound-room w l n sound)))

-- removed room serves again: after a remove of a cell that was kept, in a full layer too, a set of any cell that is not kept then is answered
pub room-serves-again : (w : ℕ) (l : List ℕ) (n : ℕ) (m : List ℕ) (c : Cell) (v : ℕ) (q : List ℕ) (d : Cell) (k : ℕ) → 16 ≤ w → Bytes l → from_bytes_of m ≡ Ok c → from_bytes_of q ≡ Ok d
    → is_sound w l n ≡ true → held_of c (rows_of w l n) ≡ Some v → held_of d (rows_of w (remove_in w l n m).bytes (n - 1)) ≡ None
    → (set_in w (remove_in w l n m).bytes (n - 1) q k).said ≡ Ok n
unfolding rows_of
room-serves-again w l n m c v q d k least bytes read other sound e new =
    let rs = without_cell c (rows_of w l n) in
    let left_over = (remove_in w l n m).bytes in
    let some : suc (length rs) ≡ n = length-without-held c (rows_of w l n) v e ∙ length-rows_from w l 0 n in
    let room = sound-room w l n sound in
    let same : length left_over ≡ length l = ap (λ (z : Changed (Result (Option ℕ) Refusal)). length z.bytes) (remove-is w l n m c read sound) ∙ length-refilled w n rs l least (omega (arith, some)) (rows-within w l n room) in
    let left = subst (λ (i : ℕ). Holds w left_over i rs) (ap (λ (a : Result (Option ℕ) Refusal). left_by a n) (remove-kept w l n m c read sound v e)) (remove-holds w l n m c read sound least bytes) in
    let roomy : n - 1 < room_for w left_over = subst⁻¹ (λ (i : ℕ). n - 1 < min most_cells (i / w)) same (omega (arith, some, room)) in
    set_new w left_over (n - 1) q d other left.sound k new roomy ∙ ap Ok (omega (arith, some))
