-- A layer's table is the map that `Map` speaks of: a sound layer is sound after a set, a remove and a refill, and its rows are those of the map after them. Over the width of a record.
use mathlib.Core.Path.{◌≡◌, ap, ap₂, subst⁻¹, ◌∙◌}
use mathlib.Core.Bool.{true, ◌&&◌}
use mathlib.Core.List.{List, [], ◌∷◌, ◌++◌, flat_map}
use Prim.Native.Nat.{ℕ, ◌-◌, ◌*◌, ◌/◌, ◌≤◌, min}
use native.Mathlib.Omega.{arith}
use borrow.Author.Tests.{le-leb}
use lib.ListN.{length, drop, replicate}
use Rattle.words.specs.Word.{Bytes, big, bytes_of}
use Rattle.words.proofs.Laws.{bytes-append, bytes_drop, bytes-zeros, bytes-bytes_of}
use Rattle.cell.specs.Bytes.{cell_bytes}
use Rattle.table.specs.Records.{Row, most_cells, room_for, rows_of, ascending, is_sound, row_bytes, laid, refilled}
use Rattle.table.proofs.Laws.{rows-within}
use Rattle.table.specs.Terms.{AllStorable, Holds}
use Rattle.table.proofs.Bytes.{length-laid, rows-laid}
use Rattle.table.proofs.Refills.{length-refilled, rows-refilled}

-- rows that ascend, as many as there is room for, make it sound
held_rows : (w : ℕ) (l : List ℕ) (n : ℕ) (rs : List Row) → Bytes l → n ≤ room_for w l → rows_of w l n ≡ rs → ascending rs ≡ true → Holds w l n rs
unfolding is_sound
held_rows w l n rs b h e up = record { bytes = b; sound = ap₂ ◌&&◌ (le-leb n (room_for w l) h) (ap ascending e ∙ up); rows = e }

row-bytes : (w : ℕ) (r : Row) → Bytes (row_bytes w r)
unfolding row_bytes cell_bytes
row-bytes w r =
    let high = bytes_of big 8 r.cell.high in
    let low = bytes_of big 8 r.cell.low in
    bytes-append (high ++ low) (bytes_of big (w - 16) r.kept) (bytes-append high low (bytes-bytes_of big 8 r.cell.high) (bytes-bytes_of big 8 r.cell.low)) (bytes-bytes_of big (w - 16) r.kept)

rows-bytes : (w : ℕ) (rs : List Row) → Bytes (flat_map (row_bytes w) rs)
unfolding flat_map
rows-bytes w [] i = omega arith
rows-bytes w (r ∷ rs) i = bytes-append (row_bytes w r) (flat_map (row_bytes w) rs) (row-bytes w r) (rows-bytes w rs) i

module _ (w : ℕ) (l : List ℕ) (least : 16 ≤ w) (bytes : Bytes l) where
  pub laid-holds : (rs : List Row) → AllStorable w rs → ascending rs ≡ true → length rs ≤ room_for w l → Holds w (laid w rs l) (length rs) rs
  unfolding laid
  laid-holds rs a up h =
      let long = length-laid w rs l least (rows-within w l (length rs) h) in
      held_rows w (laid w rs l) (length rs) rs (bytes-append (flat_map (row_bytes w) rs) (drop (w * length rs) l) (rows-bytes w rs) (bytes_drop (w * length rs) l bytes)) (subst⁻¹ (λ (k : ℕ). length rs ≤ min most_cells (k / w)) long h) (rows-laid w rs l least a) up

  -- ascending rows in the first n records, and zeros in those of the n that are left, are a sound layer
  pub refilled-holds : (rs : List Row) (n : ℕ) → AllStorable w rs → ascending rs ≡ true → length rs ≤ n → n ≤ room_for w l → Holds w (refilled w n rs l) (length rs) rs
  unfolding refilled
  refilled-holds rs n a up fewer h =
      let long = length-refilled w n rs l least fewer (rows-within w l n h) in
      let zeros = replicate {A = ℕ} (w * (n - length rs)) 0 in
      held_rows w (refilled w n rs l) (length rs) rs
      (bytes-append (flat_map (row_bytes w) rs) (zeros ++ drop (w * n) l) (rows-bytes w rs) (bytes-append zeros (drop (w * n) l) (bytes-zeros (w * (n - length rs))) (bytes_drop (w * n) l bytes)))
      (subst⁻¹ (λ (k : ℕ). length rs ≤ min most_cells (k / w)) long (omega arith)) (rows-refilled w n rs l least a) up
