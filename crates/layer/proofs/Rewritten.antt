-- What the moves leave in a table is the table of the changed rows.
use mathlib.Core.Path.{◌≡◌, sym, ap, ap₂, ◌∙◌}
use mathlib.Core.Bool.{true}
use mathlib.Core.List.{List, ◌++◌, flat_map, append_assoc}
use Prim.Native.Nat.{ℕ, suc, ◌+◌, ◌-◌, ◌*◌, ◌≤◌, ◌<◌}
use native.Mathlib.Nat.{mul-one, mul-suc, sub-zero}
use native.Mathlib.Numerals.{add-one}
use native.Mathlib.Omega.{arith}
use borrow.Author.Tests.{le-leb, lt-leb}
use lib.ListN.{length, take, drop, replicate, take-append-drop}
use lib.Seq.{paste, drop_at, drop-drop, length-take-le}
use Rattle.std.specs.Prelude.{Some, None, Ok, Err}
use Rattle.refusal.specs.declared.Cell.{Cell}
use Rattle.refusal.specs.declared.Room.TheVariants as room
use Rattle.refusal.specs.declared.Refusal.TheVariants.{NoRoom}
use Rattle.words.specs.Word.{Bytes}
use Rattle.table.specs.Records.{Row, held_of, room_for, row_at, rows_of, is_sound, with_row, without_cell, row_bytes, laid, keeping, refilled}
use Rattle.table.specs.Inner.Places.{Stands, IsAt, GoesBefore}
use Rattle.table.proofs.Laws.{sound-room, sound-ascending, rows-within, find-is-held, find-is-nothing}
use Rattle.table.proofs.Bytes.{length-rows_from}
use Rattle.table.proofs.Map.{length-with-new, length-with-held, without-none}
use Rattle.general.specs.Changed.{changed}
use Rattle.layer.specs.Changes.{relaid, clear_in}
use Rattle.table.proofs.ChangeLaws.{with_at, with-before, without_at, laid-parts, refilled-parts, refilled-rows}
use Rattle.table.proofs.Moved.{next-record, ends-within, spread, part-before}

-- rows that there is room for are laid, others refused
on_room : (w : ℕ) (rs : List Row) (l : List ℕ) {k : ℕ} {x : List ℕ} → k ≡ length rs → length rs ≤ room_for w l → x ≡ laid w rs l → changed (Ok k) x ≡ relaid w rs l
on_room w rs l e h x = rw (le-leb (length rs) (room_for w l) h) (ap₂ (λ (k : ℕ) (m : List ℕ). changed (Ok k) m) e x)

on_none : (w : ℕ) (rs : List Row) (l : List ℕ) → room_for w l < length rs → changed (Err (NoRoom room.Layer)) l ≡ relaid w rs l
on_none w rs l h = rw (lt-leb (length rs) (room_for w l) h)

module _ (w : ℕ) (l : List ℕ) (n : ℕ) (c : Cell) (i : ℕ) where
  -- ---- a new cell

  module _ (place : GoesBefore w l n c i) (k : ℕ) where
    one_more : length (with_row (keeping c k) (rows_of w l n)) ≡ suc n
    unfolding Stands rows_of
    one_more = length-with-new (keeping c k) (rows_of w l n) (find-is-nothing w l c n i place) ∙ ap suc (length-rows_from w l 0 n)

    pub no_room : n ≡ room_for w l → changed (Err (NoRoom room.Layer)) l ≡ relaid w (with_row (keeping c k) (rows_of w l n)) l
    no_room e = on_none w (with_row (keeping c k) (rows_of w l n)) l (omega (arith, one_more, e))

    inserted-bytes : {m x : List ℕ} → 16 ≤ w → Bytes l → w * (n + 1) ≤ length l → m ≡ paste l (w * (i + 1)) (drop (w * i) l) (w * (n - i)) → x ≡ take (w * i) m ++ (row_bytes w (keeping c k) ++ drop (w * (i + 1)) m) → x ≡ laid w (with_row (keeping c k) (rows_of w l n)) l
    inserted-bytes {m} {x} least bytes f opened put =
        let moving = take (w * (n - i)) (drop (w * i) l) in
        let here = ends-within w (n + 1) i (omega (arith, place.within)) f in
        let next = next-record w i in
        let last : w * (i + suc (n - i)) ≡ w * (i + 1) + w * (n - i) = spread w (i + 1) (n - i) (i + suc (n - i)) (omega arith) in
        let whole : w * i + w * (n - i) + w ≤ length l = omega (arith, next-record w n, spread w i (n - i) n (omega (arith, place.within))) in
        let front : take (w * i) m ≡ take (w * i) l = ap (take (w * i)) opened ∙ part-before l (w * (i + 1)) (drop (w * i) l) (w * (n - i)) 0 (w * i) (omega arith) here in
        let back : drop (w * (i + 1)) m ≡ moving ++ drop (w * (i + suc (n - i))) l =
        ap (drop (w * (i + 1))) (opened ∙ append_assoc (take (w * (i + 1)) l) moving (drop (w * (i + 1) + w * (n - i)) l))
        ∙ drop_at (take (w * (i + 1)) l) (moving ++ drop (w * (i + 1) + w * (n - i)) l) (w * (i + 1)) (length-take-le (w * (i + 1)) l here)
        ∙ ap (λ (p : ℕ). moving ++ drop p l) (sym last) in
        put
        ∙ ap₂ (λ (a b : List ℕ). a ++ (row_bytes w (keeping c k) ++ b)) front back
        ∙ sym (laid-parts w l least bytes i i (n - i) (omega arith) (omega arith) (keeping c k))
        ∙ ap (λ (rs : List Row). laid w rs l) (sym (with-before w l n c i k place))

    pub inserted : {m x : List ℕ} → 16 ≤ w → Bytes l → n < room_for w l → m ≡ paste l (w * (i + 1)) (drop (w * i) l) (w * (n - i)) → x ≡ take (w * i) m ++ (row_bytes w (keeping c k) ++ drop (w * (i + 1)) m) → changed (Ok (n + 1)) x ≡ relaid w (with_row (keeping c k) (rows_of w l n)) l
    inserted least bytes h opened put =
        on_room w (with_row (keeping c k) (rows_of w l n)) l (omega (arith, one_more)) (omega (arith, one_more)) (inserted-bytes least bytes (rows-within w l (n + 1) (omega arith)) opened put)

  -- ---- a cell that has a record

  module _ (sound : is_sound w l n ≡ true) (place : IsAt w l n c i) (least : 16 ≤ w) (bytes : Bytes l) where
    -- what lies after it
    after : w * n ≡ w * suc i + w * (n - suc i)
    after = spread w (suc i) (n - suc i) n (omega (arith, place.within))

    whole : w * n ≤ length l
    whole = rows-within w l n (sound-room w l n sound)

    pub replaced : (k : ℕ) {x : List ℕ} → x ≡ take (w * i) l ++ (row_bytes w (keeping c k) ++ drop (w * (i + 1)) l) → changed (Ok n) x ≡ relaid w (with_row (keeping c k) (rows_of w l n)) l
    unfolding Stands rows_of
    replaced k {x} put =
        let rows = with_row (keeping c k) (rows_of w l n) in
        let count : n ≡ length rows = sym (length-with-held (keeping c k) (rows_of w l n) (row_at w l i).kept (sound-ascending w l n sound) (find-is-held w l c n i sound place) ∙ length-rows_from w l 0 n) in
        let next : w * (i + 1) ≡ w * suc i = ap (λ (j : ℕ). w * j) (add-one i) in
        let rest : drop (w * (i + 1)) l ≡ take (w * (n - suc i)) (drop (w * suc i) l) ++ drop (w * (i + suc (n - suc i))) l =
        ap (λ (p : ℕ). drop p l) next
        ∙ sym (take-append-drop (w * (n - suc i)) (drop (w * suc i) l))
        ∙ ap (λ (r : List ℕ). take (w * (n - suc i)) (drop (w * suc i) l) ++ r) (drop-drop (w * (n - suc i)) (w * suc i) l ∙ ap (λ (p : ℕ). drop p l) (sym (spread w (suc i) (n - suc i) (i + suc (n - suc i)) (omega arith)))) in
        on_room w rows l count (omega (arith, count, sound-room w l n sound))
        (put
        ∙ ap (λ (r : List ℕ). take (w * i) l ++ (row_bytes w (keeping c k) ++ r)) rest
        ∙ sym (laid-parts w l least bytes i (suc i) (n - suc i) (omega (arith, whole, after, mul-suc w i)) (omega (arith, whole, after)) (keeping c k))
        ∙ ap (λ (rs : List Row). laid w rs l) (sym (with_at w l n c i k sound place)))

    pub removed : {k : ℕ} {x : List ℕ} → k ≡ (row_at w l i).kept → x ≡ take (w * i) l ++ (take (w * (n - (i + 1))) (drop (w * (i + 1)) l) ++ (replicate w 0 ++ drop (w * n) l)) → changed (Some k) x ≡ changed (held_of c (rows_of w l n)) (refilled w n (without_cell c (rows_of w l n)) l)
    unfolding Stands
    removed {k} {x} kept closed =
        let freed : w * (n - (i + (n - suc i))) ≡ w = ap (λ (j : ℕ). w * j) (omega (arith, place.within)) ∙ mul-one w in
        ap₂ changed (ap Some kept ∙ sym (find-is-held w l c n i sound place))
        (closed
        ∙ ap (λ (j : ℕ). take (w * i) l ++ (take (w * (n - j)) (drop (w * j) l) ++ (replicate w 0 ++ drop (w * n) l))) (add-one i)
        ∙ ap (λ (z : ℕ). take (w * i) l ++ (take (w * (n - suc i)) (drop (w * suc i) l) ++ (replicate z 0 ++ drop (w * n) l))) (sym freed)
        ∙ sym (refilled-parts w l least bytes i (suc i) (n - suc i) (omega (arith, whole, after, mul-suc w i)) (omega (arith, whole, after)) n)
        ∙ ap (λ (rs : List Row). refilled w n rs l) (sym (without_at w l n c i sound place)))

-- a cell that has none: nothing changes
pub not-removed : (w : ℕ) (l : List ℕ) (n : ℕ) (c : Cell) (i : ℕ) → is_sound w l n ≡ true → GoesBefore w l n c i → 16 ≤ w → Bytes l → changed None l ≡ changed (held_of c (rows_of w l n)) (refilled w n (without_cell c (rows_of w l n)) l)
unfolding Stands
not-removed w l n c i sound place least bytes =
    let none = find-is-nothing w l c n i place in
    ap₂ changed (sym none)
    (sym (refilled-rows w l n least bytes (rows-within w l n (sound-room w l n sound)))
    ∙ ap (λ (rs : List Row). refilled w n rs l) (sym (without-none c (rows_of w l n) none)))

-- ---- a table cleared

-- zeros in every whole record within the limit clear a table
pub zeros-clear : (w k : ℕ) (l m : List ℕ) → k ≡ room_for w l → m ≡ take 0 l ++ (replicate (w * k - 0) 0 ++ drop (w * k) l) → m ≡ clear_in w l
unfolding clear_in refilled flat_map
zeros-clear w k l m e f =
    f
    ∙ ap (λ (j : ℕ). replicate j 0 ++ drop (w * k) l) (sub-zero (w * k))
    ∙ ap₂ (λ (i j : ℕ). replicate (w * i) 0 ++ drop (w * j) l) (e ∙ sym (sub-zero (room_for w l))) e
