-- Demand 2: "Packing and unpacking agree both ways on cells of one parity with reserved bits clear", over the contracts of `tishkolan_cell_new` and `tishkolan_cell_fields`: the fields that are told of
-- a cell that was made are those it was made of (`fields-after-new`), and the cell that is made of the fields that were told is the same 16 bytes (`new-after-fields`).
use Rattle.std.specs.Prelude.{Result, Ok, Err}
use Rattle.refusal.specs.declared.Refusal.{Refusal}
use mathlib.Core.Path.{◌≡◌, refl, sym, ap, subst, ◌∙◌}
use mathlib.Core.Bool.{Bool, true, cond}
use mathlib.Core.List.{List, ◌++◌}
use Prim.Native.Nat.{ℕ, ◌%◌, ◌≤◌}
use native.Mathlib.Omega.{arith}
use borrow.Author.Tests.{le-leb}
use lib.Dec.{leb}
use lib.ListN.{length, take, drop}
use lib.Seq.{take_at}
use Rattle.refusal.specs.declared.Cell.{Cell}
use Rattle.refusal.specs.declared.Coord.{Coord}
use Rattle.refusal.specs.declared.Room.TheVariants.{Output}
use Rattle.refusal.specs.declared.Refusal.TheVariants.{NoRoom}
use Rattle.refusal.proofs.Numbers.{refused-number}
use Rattle.words.specs.Word.{Bytes}
use Rattle.lattice.specs.declared.Parity.TheVariants.{Even, Odd}
use Rattle.lattice.specs.Lattice.{at, is_odd, is_lattice_point}
use Rattle.lattice.proofs.Laws.{point-parity}
use Rattle.cell.specs.Cell.{coord_of, new_of}
use Rattle.cell.specs.Bytes.{cell_bytes, from_bytes_of, by_cell}
use Rattle.cell.proofs.BytesLaws.{bytes-read-back, read-bytes-back, read-words}
use Rattle.cell.proofs.Stored.{length-cell_bytes}
use Rattle.cell.specs.Terms.{ReadsBack}
use Rattle.cell.proofs.Laws.{new-reads-back, new-fields}
use Rattle.face.specs.declared.RefusalTold.{RefusalTold}
use Rattle.face.specs.declared.FieldsTold.{FieldsTold}
use Rattle.face.specs.Told.{answered, told_of, Filled, filled, fronted}
use Rattle.cell_list.proofs.ReadBack.{read_cell}
use Rattle.tishkolan.proofs.Filling.{front-filled}
use Rattle.face.specs.Cells.{fill_cell, new_told, no_fields, fields_of, fields_told}
use Rattle.face.specs.Terms.{fields_given}
use Rattle.tishkolan.proofs.Calls.{CellNew, new_frame, new_resolution, new_place, new_exponent, new_flags, new_lent, new_left, CellFields, fields_bytes, Typed, Repacks}

-- a call that is told 0 found room for the 16 bytes of a cell, and they stand at the front
pub record Made (a : Result Cell Refusal) (t : RefusalTold) (out : List ℕ) : Type 0 where
  pub cell : Cell
  pub is-cell : a ≡ Ok cell
  pub front : take 16 out ≡ cell_bytes cell

front_bytes : (c : Cell) (l : List ℕ) → take 16 (cell_bytes c ++ l) ≡ cell_bytes c
front_bytes c l = take_at (cell_bytes c) l 16 (length-cell_bytes c)

pub made : (a : Result Cell Refusal) (t : RefusalTold) (l out : List ℕ) → filled t out ≡ fill_cell l a → t.number ≡ 0 → Made a t out
made (Err r) t l out p nought = absurd (refused-number r (sym (ap (λ (z : Filled ℕ). z.told.number) p) ∙ nought))
made (Ok c) t l out p nought =
    record {
      cell = c;
      is-cell = refl;
      front = ap (take 16) (front-filled t (cell_bytes c) l out nought p) ∙ front_bytes c (drop (length (cell_bytes c)) l);
    }

read-fields : (frame resolution : ℕ) (c : Coord) (exponent flags : ℕ) (k : Cell) → ReadsBack frame resolution c exponent flags k → fields_of k ≡ fields_given frame resolution c (exponent % 16) flags
unfolding coord_of
read-fields frame resolution c exponent flags k b =
    λ i. record {
      refusal = answered;
      frame = b.frame_back i;
      resolution = b.resolution-back i;
      exponent = b.exponent-back i;
      flags = b.flags-back i;
      reserved = b.reserved-back i;
      x = (b.coord-back i).x;
      y = (b.coord-back i).y;
      z = (b.coord-back i).z;
    }

-- unpack after pack: where `tishkolan_cell_new` tells 0, `tishkolan_cell_fields` tells of the 16 bytes that it made the fields that it was given, the exponent modulo 16, nothing reserved
pub fields-after-new : (call : CellNew) (reading : CellFields) → Typed call → call.told.number ≡ 0 → fields_bytes reading ≡ take 16 (new_left call)
    → reading.told ≡ fields_given (new_frame call) (new_resolution call) (new_place call) (new_exponent call % 16) (new_flags call)
unfolding new_told fields_told
fields-after-new call reading typed nought same =
    let m = made (new_of (new_frame call) (new_resolution call) (new_place call) (new_exponent call) (new_flags call)) call.told (new_lent call) (new_left call) call.meets nought in
    let back = new-reads-back (new_frame call) (new_resolution call) (new_place call) (new_exponent call) (new_flags call) m.cell typed.in_frame typed.in-resolution typed.in-flags typed.in_place m.is-cell in
    reading.meets
    ∙ ap fields_told (same ∙ m.front)
    ∙ ap (by_cell no_fields fields_of) (bytes-read-back m.cell back.words)
    ∙ read-fields (new_frame call) (new_resolution call) (new_place call) (new_exponent call) (new_flags call) m.cell back

-- fields that are told with 0 are those of the 16 bytes
told-of : (l : List ℕ) (f : FieldsTold) → f ≡ fields_told l → f.refusal.number ≡ 0 → (c : Cell) × (from_bytes_of l ≡ Ok c) × (f ≡ fields_of c)
unfolding fields_told
told-of l f p nought = by-cell (from_bytes_of l) refl p
  where
    by-cell : (a : Result Cell Refusal) → from_bytes_of l ≡ a → f ≡ by_cell no_fields fields_of a → (c : Cell) × (from_bytes_of l ≡ Ok c) × (f ≡ fields_of c)
    by-cell (Err r) e q = absurd (refused-number r (sym (ap (λ (z : FieldsTold). z.refusal.number) q) ∙ nought))
    by-cell (Ok c) e q = (c, e, q)

pub filled-front : (t : RefusalTold) (l out : List ℕ) (c : Cell) → filled t out ≡ fill_cell l (Ok c) → 16 ≤ length l → (t ≡ answered) × (take 16 out ≡ cell_bytes c)
filled-front t l out c p room =
    let roomy : leb (length (cell_bytes c)) (length l) ≡ true = le-leb (length (cell_bytes c)) (length l) (omega (arith, length-cell_bytes c)) in
    let whole : filled t out ≡ filled answered (fronted (cell_bytes c) l) = p ∙ ap (λ (b : Bool). cond b (filled answered (fronted (cell_bytes c) l)) (filled (told_of (NoRoom Output)) l)) roomy in
    (ap (λ (z : Filled ℕ). z.told) whole, ap (λ (z : Filled ℕ). take 16 z.out) whole ∙ front_bytes c (drop (length (cell_bytes c)) l))

-- pack after unpack: of the fields that `tishkolan_cell_fields` tells of a lattice point's 16 bytes with reserved bits clear, `tishkolan_cell_new` makes the same 16 bytes, where there is room for them
pub new-after-fields : (reading : CellFields) (call : CellNew) → Bytes (fields_bytes reading) → reading.told.refusal.number ≡ 0 → reading.told.reserved ≡ 0
    → is_lattice_point (at reading.told.x reading.told.y reading.told.z) ≡ true → Repacks call reading.told → 16 ≤ length (new_lent call)
    → (call.told ≡ answered) × (take 16 (new_left call) ≡ fields_bytes reading)
unfolding new_told coord_of
new-after-fields reading call bytes nought clear point again room =
    let l = fields_bytes reading in
    let f = told-of l reading.told reading.meets nought in
    let c = f.0 in
    let told = f.2 in
    let one = read_cell l c f.1 in
    let where-it-is : new_place call ≡ coord_of c = again.same_place ∙ ap (λ (t : FieldsTold). at t.x t.y t.z) told in
    let packs : new_of (new_frame call) (new_resolution call) (new_place call) (new_exponent call) (new_flags call) ≡ Ok c =
    (λ i. new_of ((again.same-frame ∙ ap (λ (t : FieldsTold). t.frame) told) i) ((again.same-resolution ∙ ap (λ (t : FieldsTold). t.resolution) told) i) (where-it-is i)
    ((again.same-exponent ∙ ap (λ (t : FieldsTold). t.exponent) told) i) ((again.same_flags ∙ ap (λ (t : FieldsTold). t.flags) told) i))
    ∙ new-fields c (cond (is_odd (coord_of c).x) Odd Even) (read-words l c bytes f.1) (sym (ap (λ (t : FieldsTold). t.reserved) told) ∙ clear)
    (point-parity (coord_of c) (subst (λ (p : Coord). is_lattice_point p ≡ true) (ap (λ (t : FieldsTold). at t.x t.y t.z) told) point)) in
    let z = filled-front call.told (new_lent call) (new_left call) c (call.meets ∙ ap (fill_cell (new_lent call)) packs) room in
    (z.0, z.1 ∙ ap cell_bytes (sym one.1) ∙ read-bytes-back l one.0 bytes)
