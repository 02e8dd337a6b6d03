-- The calls on a layer are those of a map: a set and a remove lay the rows that the map has after them, get says what these keep, and the layer is sound again. Over the width of a record. What is said to be kept has the bits of its kind.
use mathlib.Core.Bool.{Bool, true, false, cond}
use mathlib.Core.List.{List}
use mathlib.Core.Path.{◌≡◌, refl, sym, ap, subst, subst⁻¹, ◌∙◌}
use Prim.Native.Nat.{ℕ, ◌-◌, ◌^◌, ◌≤◌, ◌<◌}
use native.Mathlib.Omega.{arith}
use borrow.Author.Tests.{leb-true}
use lib.Dec.{leb}
use lib.ListN.{length}
use Rattle.std.specs.Prelude.{Option, Some, None, Result, Ok, Err}
use Rattle.refusal.specs.declared.Refusal.{Refusal}
use Rattle.refusal.specs.declared.Refusal.TheVariants.{NoRoom, BadLayer}
use Rattle.general.specs.Changed.{changed, Changed}
use Rattle.refusal.specs.declared.Cell.{Cell}
use Rattle.refusal.specs.declared.Room.TheVariants as room
use Rattle.words.specs.Word.{Bytes}
use Rattle.cell.specs.Bytes.{from_bytes_of, by_cell}
use Rattle.cell.specs.Terms.{Words}
use Rattle.table.specs.Records.{flag_width, rows_of, is_sound, held_of, without_cell, refilled, Row, room_for, with_row, laid, keeping}
use Rattle.table.proofs.Laws.{sound-ascending, sound-room}
use Rattle.table.proofs.Map.{with-ascending, without-ascending, length-without-held, length-without-none}
use Rattle.table.specs.Terms.{Holds}
use Rattle.table.proofs.Bytes.{Small, held_small, length-rows_from, rows-storable, with-storable, without-storable}
use Rattle.table.proofs.Holding.{laid-holds, refilled-holds}
use Rattle.layer.specs.Changes.{remove_in, relaid, set_in, left_by}
use Rattle.layer.specs.Calls.{held_in}
use Rattle.layer.specs.Kinds.{width_of, FitsKind}

-- remove says what get would have said
pub remove-says-held : (w : ℕ) (l : List ℕ) (n : ℕ) (m : List ℕ) → (remove_in w l n m).said ≡ held_in w l n m
unfolding remove_in held_in
remove-says-held w l n m = by-read (from_bytes_of m)
  where
    by-test : (t : Bool) (h : Option ℕ) (x : List ℕ) → (cond t (changed (Ok h) x) (changed (Err BadLayer) l)).said ≡ cond t (Ok h) (Err BadLayer)
    by-test true h x = refl
    by-test false h x = refl

    by-read : (a : Result Cell Refusal)
        → (by_cell (λ (r : Refusal). changed (Err r) l) (λ (c : Cell). cond (is_sound w l n) (changed (Ok (held_of c (rows_of w l n))) (refilled w n (without_cell c (rows_of w l n)) l)) (changed (Err BadLayer) l)) a).said
        ≡ by_cell Err (λ (c : Cell). cond (is_sound w l n) (Ok (held_of c (rows_of w l n))) (Err BadLayer)) a
    by-read (Err r) = refl
    by-read (Ok c) = by-test (is_sound w l n) (held_of c (rows_of w l n)) (refilled w n (without_cell c (rows_of w l n)) l)

-- ---- what is said to be kept has the bits of its kind

small-fits : (kind : Bool) (h : Option ℕ) → Small (width_of kind) h → FitsKind kind (Ok h)
small-fits kind None p = tt
small-fits kind (Some k) p = p

-- what the rows of a table keep of a cell
pub kept-fits : (kind : Bool) (l : List ℕ) (n : ℕ) (c : Cell) {w : ℕ} {h : Option ℕ} → Bytes l → w ≡ width_of kind → h ≡ held_of c (rows_of w l n) → FitsKind kind (Ok h)
unfolding rows_of
kept-fits kind l n c {w} {h} bytes width e =
    let rows = rows_of w l n in
    small-fits kind h (subst (λ (v : ℕ). Small v h) width (subst⁻¹ (Small w) e (held_small w c rows (rows-storable w l 0 n bytes))))

-- what get says
pub held-fits : (kind : Bool) (l : List ℕ) (n : ℕ) (m : List ℕ) → Bytes l → FitsKind kind (held_in (width_of kind) l n m)
unfolding held_in
held-fits kind l n m bytes = by-read (from_bytes_of m)
  where
    by-test : (t : Bool) (h : Option ℕ) → FitsKind kind (Ok h) → FitsKind kind (cond t (Ok h) (Err BadLayer))
    by-test true h p = p
    by-test false h p = tt

    by-read : (a : Result Cell Refusal) → FitsKind kind (by_cell Err (λ (c : Cell). cond (is_sound (width_of kind) l n) (Ok (held_of c (rows_of (width_of kind) l n))) (Err BadLayer)) a)
    by-read (Err r) = tt
    by-read (Ok c) = by-test (is_sound (width_of kind) l n) (held_of c (rows_of (width_of kind) l n)) (kept-fits kind l n c bytes refl refl)

-- flags are below 2^32
pub flags-low : (l : List ℕ) → Bytes l → (n : ℕ) (m : List ℕ) {a : Result (Option ℕ) Refusal} {k : ℕ} → a ≡ held_in flag_width l n m → a ≡ Ok (Some k) → k < 4294967296
flags-low l bytes n m e known = subst (FitsKind false) (sym e ∙ known) (held-fits false l n m bytes)

-- and so are those that were removed
pub removed-low : (l : List ℕ) (n : ℕ) (m : List ℕ) {r : Result (Option ℕ) Refusal} {x : List ℕ} {k : ℕ} → Bytes l → changed r x ≡ remove_in flag_width l n m → r ≡ Ok (Some k) → k < 4294967296
removed-low l n m bytes e known = flags-low l bytes n m (ap (λ (z : Changed (Result (Option ℕ) Refusal)). z.said) e ∙ remove-says-held flag_width l n m) known

-- what get answers of them
pub get-of-rows : (w : ℕ) (l : List ℕ) (n : ℕ) (rs : List Row) (m : List ℕ) (c : Cell) → Holds w l n rs → from_bytes_of m ≡ Ok c → held_in w l n m ≡ Ok (held_of c rs)
unfolding held_in
get-of-rows w l n rs m c h read = rw (read, h.sound, h.rows)

left-rows : (c : Cell) (rs : List Row) (h : Option ℕ) → held_of c rs ≡ h → length (without_cell c rs) ≡ left_by (Ok h) (length rs)
left-rows c rs None e = length-without-none c rs e
left-rows c rs (Some k) e = omega (arith, length-without-held c rs k e)

fewer-left : (h : Option ℕ) (n : ℕ) → left_by (Ok h) n ≤ n
fewer-left None n = omega arith
fewer-left (Some k) n = omega arith

module _ (w : ℕ) (l : List ℕ) (n : ℕ) (m : List ℕ) (c : Cell) (read : from_bytes_of m ≡ Ok c) (sound : is_sound w l n ≡ true) where
  -- a set lays the rows that the map has after it, where there is room for them
  pub set_is : (k : ℕ) → set_in w l n m k ≡ relaid w (with_row (keeping c k) (rows_of w l n)) l
  unfolding set_in
  set_is k = simp (read, sound)

  -- a remove says what was kept, and leaves the rows that the map has after it
  pub remove-is : remove_in w l n m ≡ changed (Ok (held_of c (rows_of w l n))) (refilled w n (without_cell c (rows_of w l n)) l)
  unfolding remove_in
  remove-is = simp (read, sound)

  module _ (least : 16 ≤ w) (bytes : Bytes l) where
    -- what holds of a sound layer that has the row, and of the old one where there is no room, holds after a set
    pub set-either : (P : Changed (Result ℕ Refusal) → Type 0) (k : ℕ) → Words c → k < 256 ^ (w - 16)
        → ((t : List ℕ) (i : ℕ) → Holds w t i (with_row (keeping c k) (rows_of w l n)) → P (changed (Ok i) t))
        → P (changed (Err (NoRoom room.Layer)) l)
        → P (set_in w l n m k)
    unfolding rows_of
    set-either P k words small answers refuses =
        let rs = with_row (keeping c k) (rows_of w l n) in
        subst⁻¹ P (set_is k)
        (by-room rs (leb (length rs) (room_for w l)) refl
        (laid-holds w l least bytes rs (with-storable w (keeping c k) (rows_of w l n) (record { words = words; small = small }) (rows-storable w l 0 n bytes)) (with-ascending (keeping c k) (rows_of w l n) (sound-ascending w l n sound)))
        answers)
      where
        by-room : (rs : List Row) (t : Bool) → leb (length rs) (room_for w l) ≡ t → (length rs ≤ room_for w l → Holds w (laid w rs l) (length rs) rs)
            → ((t : List ℕ) (i : ℕ) → Holds w t i rs → P (changed (Ok i) t)) → P (cond t (changed (Ok (length rs)) (laid w rs l)) (changed (Err (NoRoom room.Layer)) l))
        by-room rs true e holds answered = answered (laid w rs l) (length rs) (holds (leb-true (length rs) (room_for w l) e))
        by-room rs false e holds answered = refuses

    -- a remove leaves one cell less, or as many as there were
    pub remove-holds : Holds w (remove_in w l n m).bytes (left_by (remove_in w l n m).said n) (without_cell c (rows_of w l n))
    unfolding rows_of
    remove-holds =
        let rs = without_cell c (rows_of w l n) in
        let h = held_of c (rows_of w l n) in
        let left : length rs ≡ left_by (Ok h) n = left-rows c (rows_of w l n) h refl ∙ ap (left_by (Ok h)) (length-rows_from w l 0 n) in
        subst⁻¹ (λ (z : Changed (Result (Option ℕ) Refusal)). Holds w z.bytes (left_by z.said n) rs) remove-is
        (subst (λ (k : ℕ). Holds w (refilled w n rs l) k rs) left
        (refilled-holds w l least bytes rs n (without-storable w c (rows_of w l n) (rows-storable w l 0 n bytes)) (without-ascending c (rows_of w l n) (sound-ascending w l n sound)) (omega (arith, left, fewer-left h n)) (sound-room w l n sound)))
