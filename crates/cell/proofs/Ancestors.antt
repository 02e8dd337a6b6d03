-- What follows from the definitions of a cell's parent and ancestor: "target finer than the cell is NoParent; the cell's own resolution gives the cell unchanged; else
-- parity, then parents".
use Rattle.std.specs.Prelude.{Result, Ok, Err}
use mathlib.Core.Path.{◌≡◌, refl, sym, ap, subst, ◌∙◌}
use mathlib.Core.Bool.{Bool, true, false, cond}
use Prim.Native.Nat.{ℕ, zero, suc, ◌+◌, ◌-◌, ◌≤◌, ◌<◌}
use native.Mathlib.Omega.{arith}
use borrow.Author.Tests.{le-ltb, lt-ltb}
use lib.Dec.{eqb}
use mir.Syntax.{w32}
use mir.Val.{of_z}
use Rattle.refusal.specs.declared.Coord.{Coord}
use Rattle.refusal.specs.declared.Cell.{Cell}
use Rattle.refusal.specs.declared.Refusal.{Refusal}
use Rattle.refusal.specs.declared.Refusal.TheVariants.{InvalidParity, NoParent}
use Rattle.lattice.specs.declared.Parity.{Parity}
use Rattle.lattice.specs.declared.Parity.TheVariants.{Even, Odd}
use Rattle.lattice.specs.Lattice as lattice
use Rattle.lattice.specs.Lattice.{is_odd, is_lattice_point, parity_of}
use Rattle.lattice.proofs.Split.{parent_by}
use Rattle.lattice.proofs.Laws.{point-parity, parent-is-point, parent-fits}
use Rattle.cell.specs.Cell.{frame_of, resolution_of, coord_of, packed, plain_at, parent_at, parent_of, climbed, ancestor_of}
use Rattle.cell.specs.Terms.{Words, PlainPoint, Found}
use Rattle.cell.proofs.Laws.{coord-fits, fields-packed, plain-is-plain, parent-by-place}
use Rattle.cell.proofs.Bits.{low_parts}

-- ---- the parent

resolution-packed : (frame resolution : ℕ) (c : Coord) → frame < 256 → resolution < 256 → resolution_of (plain_at frame resolution c) ≡ resolution
unfolding packed
resolution-packed frame resolution c f r = (low_parts (of_z w32 c.x) 0 0 resolution frame (omega arith) r f).is-resolution

coarser : (c p : Cell) (b : Bool) (a : Result Coord Refusal) → cond b (Err NoParent) (parent_at a c) ≡ Ok p → resolution_of p ≡ resolution_of c - 1
coarser c p true a e = let z : ◌≡◌ {A = ℕ} 0 1 = cc in absurd (omega arith)
coarser c p false (Err r) e = let z : ◌≡◌ {A = ℕ} 0 1 = cc in absurd (omega arith)
coarser c p false (Ok q) e =
    let same : plain_at (frame_of c) (resolution_of c - 1) q ≡ p = cc in
    ap resolution_of (sym same) ∙ resolution-packed (frame_of c) (resolution_of c - 1) q (omega arith) (omega arith)

-- a parent is one resolution coarser
pub parent-resolution : (c p : Cell) → parent_of c ≡ Ok p → resolution_of p ≡ resolution_of c - 1
unfolding parent_of
parent-resolution c p e = coarser c p (eqb (resolution_of c) 0) (lattice.parent_of (coord_of c)) e

words-above : (c p : Cell) → Words c → (b : Bool) (a : Result Coord Refusal) → lattice.parent_of (coord_of c) ≡ a → cond b (Err NoParent) (parent_at a c) ≡ Ok p → Words p
words-above c p w true a q e = let z : ◌≡◌ {A = ℕ} 0 1 = cc in absurd (omega arith)
words-above c p w false (Err r) q e = let z : ◌≡◌ {A = ℕ} 0 1 = cc in absurd (omega arith)
words-above c p w false (Ok d) q e =
    let same : plain_at (frame_of c) (resolution_of c - 1) d ≡ p = cc in
    subst Words same (fields-packed (frame_of c) (resolution_of c - 1) d 0 0 (omega arith) (omega arith) (omega arith) (parent-fits (coord_of c) d (coord-fits c w) q)).words

-- and two words, as the cell is
pub parent-words : (c p : Cell) → Words c → parent_of c ≡ Ok p → Words p
unfolding parent_of
parent-words c p w e = words-above c p w (eqb (resolution_of c) 0) (lattice.parent_of (coord_of c)) refl e

place-above : (p : Parity) (d : Coord) → (q : Coord) × (parent_by (Ok p) d ≡ Ok q)
place-above Even d = (_, refl)
place-above Odd d = (_, refl)

point-above : (d : Coord) → is_lattice_point d ≡ true → (q : Coord) × (lattice.parent_of d ≡ Ok q)
unfolding lattice.parent_of
point-above d e =
    let up = place-above (cond (is_odd d.x) Odd Even) d in
    (up.0, ap (λ (a : Result Parity Refusal). parent_by a d) (point-parity d e) ∙ up.1)

nothing_above : (d : Coord) → is_lattice_point d ≡ false → lattice.parent_of d ≡ Err (InvalidParity d)
unfolding lattice.parent_of parity_of
nothing_above d e = rw e

-- a cell at no lattice point has no parent
pub parent-mixed : (c : Cell) → 0 < resolution_of c → is_lattice_point (coord_of c) ≡ false → parent_of c ≡ Err (InvalidParity (coord_of c))
parent-mixed c h e = parent-by-place c (λ z. omega arith) ∙ ap (λ (a : Result Coord Refusal). parent_at a c) (nothing_above (coord_of c) e)

-- a cell at a lattice point has one, above the coarsest resolution
pub parent-point : (c : Cell) → Words c → 0 < resolution_of c → is_lattice_point (coord_of c) ≡ true → Found (frame_of c) (resolution_of c - 1) (parent_of c)
parent-point c w h e =
    let up = point-above (coord_of c) e in
    let fits = parent-fits (coord_of c) up.0 (coord-fits c w) up.1 in
    let frame : frame_of c < 256 = omega arith in
    let resolution : resolution_of c - 1 < 256 = omega arith in
    let back = fields-packed (frame_of c) (resolution_of c - 1) up.0 0 0 frame resolution (omega arith) fits in
    record {
      cell = plain_at (frame_of c) (resolution_of c - 1) up.0;
      answered = parent-by-place c (λ z. omega arith) ∙ ap (λ (a : Result Coord Refusal). parent_at a c) up.1;
      found = record {
        words = back.words;
        frame_is = back.frame_back;
        resolution-is = back.resolution-back;
        plain = plain-is-plain (frame_of c) (resolution_of c - 1) up.0 frame resolution fits;
        point = ap is_lattice_point back.coord-back ∙ parent-is-point (coord_of c) up.0 up.1;
      };
    }

-- ---- the ancestor

climbed-refused : (k : ℕ) (r : Refusal) → climbed k (Err r) ≡ Err r
unfolding climbed
climbed-refused zero r = refl
climbed-refused (suc k) r = refl

module _ (c : Cell) (target : ℕ) where
  -- "target finer than the cell is NoParent"
  pub ancestor-finer : resolution_of c < target → ancestor_of c target ≡ Err NoParent
  unfolding ancestor_of
  ancestor-finer h = rw (lt-ltb (resolution_of c) target h)

  not-finer : target ≤ resolution_of c → ancestor_of c target ≡ climbed (resolution_of c - target) (Ok c)
  unfolding ancestor_of
  not-finer h = rw (le-ltb (resolution_of c) target h)

  -- "the cell's own resolution gives the cell unchanged"
  pub ancestor-own : resolution_of c ≡ target → ancestor_of c target ≡ Ok c
  unfolding climbed
  ancestor-own e = not-finer (omega arith) ∙ (let z : resolution_of c - target ≡ 0 = omega arith in rw z)

  -- one step up
  above : target < resolution_of c → ancestor_of c target ≡ climbed (resolution_of c - 1 - target) (parent_of c)
  unfolding climbed
  above h = not-finer (omega arith) ∙ (let e : resolution_of c - target ≡ suc (resolution_of c - 1 - target) = omega arith in rw e)

  -- where there is no parent there is no ancestor, for the same reason
  pub ancestor-refused : target < resolution_of c → (r : Refusal) → parent_of c ≡ Err r → ancestor_of c target ≡ Err r
  ancestor-refused h r e = above h ∙ ap (climbed (resolution_of c - 1 - target)) e ∙ climbed-refused (resolution_of c - 1 - target) r

-- a coarser target's ancestor is that of the parent
pub ancestor-parent : (c p : Cell) (target : ℕ) → target < resolution_of c → parent_of c ≡ Ok p → ancestor_of c target ≡ ancestor_of p target
ancestor-parent c p target h e =
    let l = parent-resolution c p e in
    above c target h
    ∙ ap (climbed (resolution_of c - 1 - target)) e
    ∙ sym (not-finer p target (omega arith) ∙ ap (λ (k : ℕ). climbed (k - target) (Ok p)) l)

-- k steps up from a plain cell at a lattice point
risen : (k : ℕ) (c : Cell) {frame resolution : ℕ} (target : ℕ) → PlainPoint frame resolution c → resolution ≡ target + k → Found frame target (ancestor_of c target)
risen zero c {frame} {resolution} target h e =
    let level : resolution ≡ target = omega arith in
    record {
      cell = c;
      answered = ancestor-own c target (h.resolution-is ∙ level);
      found = subst (λ (n : ℕ). PlainPoint frame n c) level h;
    }
risen (suc k) c {frame} {resolution} target h e =
    let level : resolution_of c ≡ target + suc k = h.resolution-is ∙ e in
    let up = parent-point c h.words (omega arith) h.point in
    let over = risen k up.cell target up.found (omega arith) in
    subst (λ (f : ℕ). Found f target (ancestor_of c target)) h.frame_is
    (subst (Found (frame_of c) target) (sym (ancestor-parent c up.cell target (omega arith) up.answered)) over)

-- "else parity, then parents": for a coarser target, a cell at no lattice point is refused for its parity, and one at a lattice point never is
pub ancestor-parity :
    (c : Cell) (target : ℕ) → Words c → target < resolution_of c
    → (is_lattice_point (coord_of c) ≡ false → ancestor_of c target ≡ Err (InvalidParity (coord_of c)))
    × (is_lattice_point (coord_of c) ≡ true → Found (frame_of c) target (ancestor_of c target))
ancestor-parity c target w h = (
  (λ e. ancestor-refused c target h (InvalidParity (coord_of c)) (parent-mixed c (omega arith) e)),
  (λ e.
      let up = parent-point c w (omega arith) e in
      subst (Found (frame_of c) target) (sym (ancestor-parent c up.cell target h up.answered))
      (risen (resolution_of c - 1 - target) up.cell target up.found (omega arith))),
)
