-- Where a call of C tells a point's parent and another lists the children of that parent, the point is among the eight places that are listed. Over their own contracts, by those of the
-- lattice's calls.
use Rattle.std.specs.Prelude.{Result, Ok, Err}
use Rattle.refusal.specs.declared.Refusal.{Refusal}
use mathlib.Core.Path.{◌≡◌, refl, sym, ap, subst, ◌∙◌}
use mathlib.Core.List.{List, [], ◌∷◌, ◌++◌, flat_map, Memᴰ}
use Prim.Native.Nat.{ℕ, suc, ◌*◌, ◌<◌}
use native.Mathlib.Omega.{arith}
use lib.IntN.{ℤ}
use lib.ListN.{length, take, drop}
use Rattle.refusal.specs.declared.Coord.{Coord}
use Rattle.refusal.proofs.Numbers.{refused-number}
use Rattle.lattice.specs.Lattice.{at, children_of, parent_of}
use Rattle.lattice.proofs.OneParent.{told-among-children}
use Rattle.face.specs.declared.RefusalTold.{RefusalTold}
use Rattle.face.specs.declared.CoordTold.{CoordTold}
use Rattle.face.specs.Told.{of_coord, Filled, filled, fill_by}
use Rattle.face.specs.Points.{triple, triples, children_told}
use Rattle.tishkolan.proofs.Places.{children-long}
use Rattle.tishkolan.proofs.Filling.{front-filled}
use Rattle.tishkolan.proofs.Calls.{LatticeParent, child_place, LatticeChildren, parent_place, children_left}

-- what is told as an answer is the place
place-told : (a : Result Coord Refusal) (t : CoordTold) → t ≡ of_coord a → t.refusal.number ≡ 0 → a ≡ Ok (at t.x t.y t.z)
place-told (Err r) t told e = absurd (refused-number r (sym (ap (λ (s : CoordTold). s.refusal.number) told) ∙ e))
place-told (Ok c) t told e = λ i. Ok (at (sym told i).x (sym told i).y (sym told i).z)

-- a place of a list stands in its numbers
triple-at : {c : Coord} (l : List Coord) (rest : List ℤ) → Memᴰ c l → (k : ℕ) × (k < length l) × (take 3 (drop (3 * k) (triples l ++ rest)) ≡ triple c)
unfolding flat_map
triple-at {c} [] rest m = elim m [ ]
triple-at {c} (d ∷ l) rest (Memᴰ.head e) = (0, omega arith, ap triple (sym e))
triple-at {c} (d ∷ l) rest (Memᴰ.tail m) =
    let h = triple-at l rest m in
    let k = h.0 in
    let further : 3 * suc k ≡ suc (suc (suc (3 * k))) = omega arith in
    (suc k, omega (arith, h.1), rw further h.2)

-- over the lattice's own calls
among : (c p : Coord) (l : List Coord) → parent_of c ≡ Ok p → children_of p ≡ Ok l → Memᴰ c l
among c p l e answers = told-among-children tt (c, tt) (parent_of c) (c, tt) (p, tt) (children_of p) (p, tt) l refl refl e answers

listed : (c p : Coord) (out last : List ℤ) (t : RefusalTold) → parent_of c ≡ Ok p → filled t last ≡ children_told p out → t.number ≡ 0 → (k : ℕ) × (k < 8) × (take 3 (drop (3 * k) last) ≡ triple c)
unfolding children_told
listed c p out last t e post told = by (children_of p) refl post
  where
    by : (a : Result (List Coord) Refusal) → children_of p ≡ a → filled t last ≡ fill_by triples a out → (k : ℕ) × (k < 8) × (take 3 (drop (3 * k) last) ≡ triple c)
    by (Err r) f q = absurd (refused-number r (sym (ap (λ (s : Filled ℤ). s.told.number) q) ∙ told))
    by (Ok l) f q =
        let h = triple-at l (drop (length (triples l)) out) (among c p l e f) in
        (h.0, omega (arith, h.1, children-long p l f), subst (λ (m : List ℤ). take 3 (drop (3 * h.0) m) ≡ triple c) (sym (front-filled t (triples l) out last told q)) h.2)

-- where the parent of a place is told, and the children of the parent that was told are listed, the place stands there as one of the eight
pub listed-under-parent : (parent : LatticeParent) (children : LatticeChildren) → parent.told.refusal.number ≡ 0 → children.told.number ≡ 0
    → parent_place children ≡ at parent.told.x parent.told.y parent.told.z
    → (k : ℕ) × (k < 8) × (take 3 (drop (3 * k) (children_left children)) ≡ triple (child_place parent))
listed-under-parent parent children told answers same =
    let z = parent.told in
    let out = children.arguments.1.1.1.0.now in
    listed (child_place parent) (at z.x z.y z.z) out (children_left children) children.told (place-told (parent_of (child_place parent)) z parent.meets told)
    (children.meets ∙ ap (λ (p : Coord). children_told p out) same) answers
