-- What follows from the definitions of the packed cell alone: packing and unpacking undo each other, plain cells, children and parents, neighbours, equality.
-- `List.Memᴰ k l` says that k is a member of l: it is a place at which l has k.
use Rattle.std.specs.Prelude.{List, Result, Ok, Err}
use mathlib.Core.Path.{◌≡◌, refl, sym, ap, ap₂, subst, ◌∙◌}
use mathlib.Core.Logic.{◌↔◌}
use mathlib.Core.Bool.{Bool, true, false, cond}
use mathlib.Core.List.Memᴰ
use mathlib.Core.List.{Memᴰ}
use Prim.Native.Nat.{ℕ, ◌+◌, ◌*◌, ◌/◌, ◌%◌, ◌^◌, ◌<◌}
use native.Mathlib.Nat.{div-add-mod'}
use native.Mathlib.Omega.{arith}
use lib.Arith.{digits_div, digits_mod}
use lib.Dec.{eqb}
use borrow.Author.Tests.{eqb-true, eqb-false, ne_eqb, ltb-true, ltb-false, lt-ltb, eq-eqb}
use mir.Syntax.{w32}
use mir.Val.{Fits, to_z, of_z}
use mir.Facts.{Fits-of_z, of_z-to_z, sfits_to_z}
use Rattle.refusal.specs.declared.Coord.{Coord}
use Rattle.refusal.specs.declared.Cell.{Cell}
use Rattle.refusal.specs.declared.Refusal.{Refusal}
use Rattle.refusal.specs.declared.Refusal.TheVariants.{NoChildren}
use Rattle.refusal.specs.Refusals.{raw_of, cell_of}
use Rattle.lattice.specs.declared.Parity.{Parity}
use Rattle.lattice.specs.Lattice as lattice
use Rattle.lattice.specs.Lattice.{at, Fitting, is_lattice_point, parity_of, neighbor_places, child_places, has_neighbor_room, has_child_room, manhattan}
use Rattle.lattice.proofs.Laws as lattice-laws
use Rattle.lattice.proofs.Laws.{parity-point, neighbor-symmetric, room_fits, child-room-fits}
use Rattle.lattice.specs.Middle.{middle}
use Rattle.lattice.proofs.Fields.{kept_same}
use Rattle.general.proofs.Tests.{three}
use Rattle.cell.specs.Cell.{frame_of, resolution_of, exponent_of, flags_of, reserved_of, coord_of, packed, new_of, is_plain, plain_at, plain_twin, same_cell, less_cell, near_cells, child_cells, children_of, parent_at, parent_of}
use Rattle.general.proofs.Results.{ok-path, err-is-no-ok}
use Rattle.cell.proofs.Split.{new_by, children_in, children_by}
use Rattle.cell.proofs.Bits.{low_word, low_parts, low-word, low-whole, high_parts, same_digits}
use Rattle.cell.specs.Terms.{Words, ReadsBack, HasChildren, Standing, is_below, is-equal, is-above}

-- ---- packing and unpacking

-- unpack after pack: what was packed is read back
pub fields-packed : (frame resolution : ℕ) (c : Coord) (exponent flags : ℕ) → frame < 256 → resolution < 256 → flags < 256 → Fitting c → ReadsBack frame resolution c exponent flags (packed frame resolution c exponent flags)
unfolding packed coord_of
fields-packed frame resolution c exponent flags hf hr hg fits =
    let l = low_parts (of_z w32 c.x) flags exponent resolution frame hg hr hf in
    let h = high_parts (of_z w32 c.z) (of_z w32 c.y) (Fits-of_z fits.in-z).fits (Fits-of_z fits.in-y).fits in
    record {
      frame_back = l.is-frame;
      resolution-back = l.is-resolution;
      coord-back = (λ i. at (to_z w32 (l.is_x i)) (to_z w32 (h.is_y i)) (to_z w32 (h.is-z i))) ∙ kept_same fits;
      exponent-back = l.is-exponent;
      flags-back = l.is-flags;
      reserved-back = l.is-reserved;
      words = record { high_word = h.is_word; low-word = low-word (of_z w32 c.x) flags exponent resolution frame (Fits-of_z fits.in-x).fits hg hr hf };
    }

x-bits : (c : Cell) → Words c → Fits w32 (c.low / 4294967296)
x-bits c w = record { fits = omega arith }

y-bits : (c : Cell) → Fits w32 (c.high % 4294967296)
y-bits c = record { fits = omega arith }

z-bits : (c : Cell) → Words c → Fits w32 (c.high / 4294967296)
z-bits c w = record { fits = omega arith }

-- 32 bits hold each coordinate of a cell
pub coord-fits : (c : Cell) → Words c → Fitting (coord_of c)
unfolding coord_of
coord-fits c w = record { in-x = sfits_to_z (x-bits c w); in-y = sfits_to_z (y-bits c); in-z = sfits_to_z (z-bits c w) }

-- pack after unpack: a cell with nothing reserved is the cell of its fields
pub packed-fields : (c : Cell) → Words c → reserved_of c ≡ 0 → packed (frame_of c) (resolution_of c) (coord_of c) (exponent_of c) (flags_of c) ≡ c
unfolding packed coord_of
packed-fields c w e =
    let low : low_word (of_z w32 (to_z w32 (c.low / 4294967296))) (flags_of c) (exponent_of c) (resolution_of c) (frame_of c) ≡ c.low = rw (of_z-to_z (x-bits c w)) (low-whole c.low e) in
    let high : of_z w32 (to_z w32 (c.high / 4294967296)) * 4294967296 + of_z w32 (to_z w32 (c.high % 4294967296)) ≡ c.high = rw (of_z-to_z (z-bits c w), of_z-to_z (y-bits c)) (div-add-mod' c.high 4294967296) in
    λ i. record { high = high i; low = low i }

-- so `new` makes such a cell again from its fields, if its place is a lattice point
pub new-fields : (c : Cell) (p : Parity) → Words c → reserved_of c ≡ 0 → parity_of (coord_of c) ≡ Ok p → new_of (frame_of c) (resolution_of c) (coord_of c) (exponent_of c) (flags_of c) ≡ Ok c
unfolding new_of
new-fields c p w e q = rw q (ap Ok (packed-fields c w e))

made : (a : Result Parity Refusal) (c k : Cell) → new_by a c ≡ Ok k → c ≡ k
made (Err r) c k e = cc
made (Ok p) c k e = cc

-- the cell that `new` answers has the fields that it was given
pub new-reads-back : (frame resolution : ℕ) (c : Coord) (exponent flags : ℕ) (k : Cell) → frame < 256 → resolution < 256 → flags < 256 → Fitting c → new_of frame resolution c exponent flags ≡ Ok k → ReadsBack frame resolution c exponent flags k
unfolding new_of
new-reads-back frame resolution c exponent flags k hf hr hg fits e =
    subst (ReadsBack frame resolution c exponent flags) (made (parity_of c) (packed frame resolution c exponent flags) k e) (fields-packed frame resolution c exponent flags hf hr hg fits)

-- ---- plain cells

-- a plain cell is its own plain twin
pub plain-twin : (c : Cell) → Words c → is_plain c ≡ true → plain_twin c ≡ c
unfolding is_plain plain_twin
plain-twin c w e =
    let h = three (eqb (exponent_of c) 0) (eqb (flags_of c) 0) (eqb (reserved_of c) 0) e in
    ap₂ (packed (frame_of c) (resolution_of c) (coord_of c)) (sym (eqb-true (exponent_of c) 0 h.0)) (sym (eqb-true (flags_of c) 0 h.1))
    ∙ packed-fields c w (eqb-true (reserved_of c) 0 h.2)

-- the plain cell at a place is plain
pub plain-is-plain : (frame resolution : ℕ) (c : Coord) → frame < 256 → resolution < 256 → Fitting c → is_plain (plain_at frame resolution c) ≡ true
unfolding is_plain
plain-is-plain frame resolution c hf hr fits =
    let k = fields-packed frame resolution c 0 0 hf hr (omega arith) fits in
    rw (k.exponent-back, k.flags-back, k.reserved-back)

-- ---- children and their parent

-- above the coarsest resolution the place decides
pub parent-by-place : (c : Cell) → (resolution_of c ≡ 0 → ⊥) → parent_of c ≡ parent_at (lattice.parent_of (coord_of c)) c
unfolding parent_of
parent-by-place c h = rw (ne_eqb (resolution_of c) 0 h)

-- the parent of a cell, by its fields
parent_by : (k : Cell) (frame resolution : ℕ) (d p : Coord) → frame_of k ≡ frame → resolution_of k ≡ resolution + 1 → coord_of k ≡ d → lattice.parent_of d ≡ Ok p → parent_of k ≡ Ok (plain_at frame resolution p)
parent_by k frame resolution d p f r e h =
    parent-by-place k (λ z. omega arith)
    ∙ ap (λ (a : Result Coord Refusal). parent_at a k) (ap lattice.parent_of e ∙ h)
    ∙ ap₂ (λ (f r : ℕ). Ok (plain_at f r p)) f (omega arith)

-- the parent of each child is the cell's plain twin
pub child-parent : (c k : Cell) → HasChildren c → Memᴰ k (child_cells c) → parent_of k ≡ Ok (plain_twin c)
unfolding child_cells plain_twin
child-parent c k h m =
    let frame : frame_of c < 256 = omega arith in
    let t = Memᴰ.of_map (plain_at (frame_of c) (resolution_of c + 1)) (child_places (coord_of c)) m in
    let b = fields-packed (frame_of c) (resolution_of c + 1) t.0 0 0 frame (omega arith) (omega arith) (child-room-fits (coord_of c) t.0 h.room t.1) in
    subst (λ (k : Cell). parent_of k ≡ Ok (plain_at (frame_of c) (resolution_of c) (coord_of c))) t.2
    (parent_by (plain_at (frame_of c) (resolution_of c + 1) t.0) (frame_of c) (resolution_of c) t.0 (coord_of c) b.frame_back b.resolution-back b.coord-back (lattice-laws.child-parent (coord_of c) t.0 h.point t.1))

-- and of a plain cell's children, the cell itself
pub plain-child-parent : (c k : Cell) → Words c → is_plain c ≡ true → HasChildren c → Memᴰ k (child_cells c) → parent_of k ≡ Ok c
plain-child-parent c k w e h m = child-parent c k h m ∙ ap Ok (plain-twin c w e)

-- an answer that holds the children of a cell that has them
pub record Answers (c : Cell) (l : List Cell) : Type 0 where
  pub has : HasChildren c
  pub are : l ≡ child_cells c

answered-in : (c : Cell) (l : List Cell) (t : Bool) → has_child_room (coord_of c) ≡ t → resolution_of c < 255 → is_lattice_point (coord_of c) ≡ true → children_in t c ≡ Ok l → Answers c l
answered-in c l true room r p e = record { has = record { coarser = r; point = p; room = room }; are = sym (ok-path e) }
answered-in c l false room r p e = absurd (err-is-no-ok e)

answered-by : (c : Cell) (l : List Cell) (a : Result Parity Refusal) → parity_of (coord_of c) ≡ a → resolution_of c < 255 → children_by a c ≡ Ok l → Answers c l
answered-by c l (Err x) q r e = absurd (err-is-no-ok e)
answered-by c l (Ok p) q r e = answered-in c l (has_child_room (coord_of c)) refl r (parity-point (coord_of c) p q) e

not-finest : (n : ℕ) → n < 256 → (n ≡ 255 → ⊥) → n < 255
not-finest n h g = omega arith

answered : (c : Cell) (l : List Cell) (t : Bool) → eqb (resolution_of c) 255 ≡ t → cond t (Err NoChildren) (children_by (parity_of (coord_of c)) c) ≡ Ok l → Answers c l
answered c l true q e = absurd (err-is-no-ok e)
answered c l false q e = answered-by c l (parity_of (coord_of c)) refl (not-finest (resolution_of c) (omega arith) (eqb-false (resolution_of c) 255 q)) e

-- where `children` answers, the cell has children, and the answer holds them
pub children-answered : (c : Cell) (l : List Cell) → children_of c ≡ Ok l → Answers c l
unfolding children_of
children-answered c l e = answered c l (eqb (resolution_of c) 255) refl e

-- so of each child that is answered, the parent is the cell's plain twin
pub answered-child-parent : (c k : Cell) (l : List Cell) → children_of c ≡ Ok l → Memᴰ k l → parent_of k ≡ Ok (plain_twin c)
answered-child-parent c k l e m = let a = children-answered c l e in child-parent c k a.has (subst (λ (l : List Cell). Memᴰ k l) a.are m)

-- ---- neighbours

near-back : (c n : Cell) → Words c → is_plain c ≡ true → has_neighbor_room (coord_of c) ≡ true → Memᴰ n (near_cells c) → Memᴰ c (near_cells n)
unfolding near_cells plain_twin
near-back c n w e room m =
    let frame : frame_of c < 256 = omega arith in
    let t = Memᴰ.of_map (plain_at (frame_of c) (resolution_of c)) (neighbor_places (coord_of c)) m in
    let b = fields-packed (frame_of c) (resolution_of c) t.0 0 0 frame (omega arith) (omega arith) (room_fits (coord_of c) t.0 room t.1) in
    let place : coord_of n ≡ t.0 = ap coord_of (sym t.2) ∙ b.coord-back in
    let frames : frame_of c ≡ frame_of n = sym b.frame_back ∙ ap frame_of t.2 in
    let resolutions : resolution_of c ≡ resolution_of n = sym b.resolution-back ∙ ap resolution_of t.2 in
    Memᴰ.cast (sym (plain-twin c w e) ∙ ap₂ (λ (f r : ℕ). plain_at f r (coord_of c)) frames resolutions)
    (Memᴰ.map (plain_at (frame_of n) (resolution_of n)) (neighbor-symmetric (coord_of c) (coord_of n) (Memᴰ.cast place t.1)))

-- of two plain cells with neighbour room, each is a neighbour of the other or neither is
pub neighborhood : (c n : Cell) → Words c → Words n → is_plain c ≡ true → is_plain n ≡ true → has_neighbor_room (coord_of c) ≡ true → has_neighbor_room (coord_of n) ≡ true → Memᴰ n (near_cells c) ↔ Memᴰ c (near_cells n)
neighborhood c n wc wn pc pn rc rn = (near-back c n wc pc rc, near-back n c wn pn rn)

-- ---- the number and the order

-- a cell is the cell of its number
pub cell-raw : (c : Cell) → Words c → cell_of (raw_of c) ≡ c
unfolding raw_of
cell-raw c w = λ i. record { high = digits_div c.high w.low-word i; low = digits_mod c.high w.low-word i }

-- cells with the same 128 bits are the same cell
pub same-cell : (a b : Cell) → Words a → Words b → same_cell a b ≡ true → a ≡ b
unfolding raw_of
same-cell a b v w e =
    let r = same_digits (2 ^ 64) a.high a.low b.high b.low v.low-word w.low-word (eqb-true (raw_of a) (raw_of b) e) in
    λ i. record { high = r.0 i; low = r.1 i }

pub less-transitive : (a b c : Cell) → less_cell a b ≡ true → less_cell b c ≡ true → less_cell a c ≡ true
less-transitive a b c e f = lt-ltb (raw_of a) (raw_of c) (omega (arith, ltb-true (raw_of a) (raw_of b) e, ltb-true (raw_of b) (raw_of c) f))

-- of two cells one is below the other, unless they are the same
pub less-total : (a b : Cell) → Words a → Words b → Standing a b
less-total a b v w = standing (less_cell a b) (less_cell b a) refl refl
  where
    standing : (s t : Bool) → less_cell a b ≡ s → less_cell b a ≡ t → Standing a b
    standing true true e f = absurd (omega (arith, ltb-true (raw_of a) (raw_of b) e, ltb-true (raw_of b) (raw_of a) f))
    standing true false e f = is_below e (λ h. omega (arith, ltb-true (raw_of a) (raw_of b) e, ap raw_of h)) f
    standing false true e f = is-above e (λ h. omega (arith, ltb-true (raw_of b) (raw_of a) f, ap raw_of h)) f
    standing false false e f = is-equal e (same-cell a b v w (eq-eqb (raw_of a) (raw_of b) (omega (arith, ltb-false (raw_of a) (raw_of b) e, ltb-false (raw_of b) (raw_of a) f)))) f

-- ---- between two cells

-- why `cell_between` never finds a cell: half way between two cells of one parity at Manhattan distance 2 there is no lattice point
pub between-is-mixed : (a b : Cell) (p : Parity) → parity_of (coord_of a) ≡ Ok p → parity_of (coord_of b) ≡ Ok p → manhattan (coord_of a) (coord_of b) ≡ 2 → is_lattice_point (middle (coord_of a) (coord_of b)) ≡ false
between-is-mixed a b p e f m = lattice-laws.between-is-mixed (coord_of a) (coord_of b) p e f m
