-- The neighbours that the search goes to are cells of 128 bits, and going to one is a step of the route checker's.
use Rattle.std.specs.Prelude.{Result, Ok, Err}
use Rattle.lattice.specs.declared.Parity.{Parity}
use Rattle.refusal.specs.declared.Refusal.{Refusal}
use mathlib.Core.Path.{◌≡◌, refl, sym, subst}
use mathlib.Core.Bool.{Bool, true, false}
use mathlib.Core.List.Memᴰ
use mathlib.Core.List.{List, [], ◌∷◌, map, Memᴰ}
use Prim.Native.Nat.{ℕ, ◌<◌}
use native.Mathlib.Omega.{arith}
use Rattle.refusal.specs.declared.Cell.{Cell}
use Rattle.refusal.specs.Refusals.{raw_of, cell_of}
use Rattle.lattice.specs.Lattice.{is_lattice_point, parity_of, neighbor_places, has_neighbor_room}
use Rattle.lattice.proofs.Laws.{parity-point, room_fits}
use Rattle.general.specs.Each.{Each}
use Rattle.cell.specs.Cell.{frame_of, resolution_of, coord_of, plain_at, near_cells, neighbors_of}
use Rattle.cell.proofs.Split.{neighbors_in, neighbors_by}
use Rattle.cell.specs.Terms.{Words}
use Rattle.cell.proofs.Laws.{fields-packed, plain-is-plain, cell-raw}
use Rattle.route.specs.Accepted.{Step}
use Rattle.search.specs.Search.{is}
use Rattle.search.specs.Plan.{near_by}
use Rattle.search.specs.Terms.{Beside}

near_step : (c : Cell) → is_lattice_point (coord_of c) ≡ true → has_neighbor_room (coord_of c) ≡ true → (k : Cell) → Memᴰ k (near_cells c) → Words k × Step c k
unfolding near_cells
near_step c point room k m =
    let frame : frame_of c < 256 = omega arith in
    let resolution : resolution_of c < 256 = omega arith in
    let r = Memᴰ.of_map (plain_at (frame_of c) (resolution_of c)) (neighbor_places (coord_of c)) m in
    let fits = room_fits (coord_of c) r.0 room r.1 in
    let back = fields-packed (frame_of c) (resolution_of c) r.0 0 0 frame resolution (omega arith) fits in
    subst (λ (b : Cell). Words b × Step c b) r.2 (
      back.words,
      record {
        one-parity = point;
        near = Memᴰ.cast back.coord-back r.1;
        plain = plain-is-plain (frame_of c) (resolution_of c) r.0 frame resolution fits;
        same-frame = back.frame_back;
        same-resolution = back.resolution-back;
      },
    )

raw-beside : (c : ℕ) (k : Cell) → Words k × Step (cell_of c) k → Beside c (raw_of k)
raw-beside c k h =
    let same = sym (cell-raw k h.0) in
    record { words = subst Words same h.0; step = subst (Step (cell_of c)) same h.1 }

each-raw : (c : ℕ) (cells : List Cell) → ((k : Cell) → Memᴰ k cells → Words k × Step (cell_of c) k) → Each (Beside c) (map raw_of cells)
each-raw c [] f = tt
each-raw c (k ∷ cells) f = (raw-beside c k (f k (Memᴰ.head refl)), each-raw c cells (λ b m. f b (Memᴰ.tail m)))

-- the neighbours of a cell, where there are any
pub near-beside : (c : ℕ) (ns : List ℕ) → near_by (neighbors_of (cell_of c)) ≡ is ns → Each (Beside c) ns
unfolding neighbors_of
near-beside c ns e = by-parity (parity_of (coord_of (cell_of c))) refl e
  where
    by-room : (t : Bool) → has_neighbor_room (coord_of (cell_of c)) ≡ t → is_lattice_point (coord_of (cell_of c)) ≡ true → near_by (neighbors_in t (cell_of c)) ≡ is ns → Each (Beside c) ns
    by-room true room point f =
        let these : map raw_of (near_cells (cell_of c)) ≡ ns = cc in
        subst (Each (Beside c)) these (each-raw c (near_cells (cell_of c)) (near_step (cell_of c) point room))
    by-room false room point f = absurd (let z : ◌≡◌ {A = ℕ} 0 1 = cc in omega arith)

    by-parity : (a : Result Parity Refusal) → parity_of (coord_of (cell_of c)) ≡ a → near_by (neighbors_by a (cell_of c)) ≡ is ns → Each (Beside c) ns
    by-parity (Err r) p f = absurd (let z : ◌≡◌ {A = ℕ} 0 1 = cc in omega arith)
    by-parity (Ok p) q f = by-room (has_neighbor_room (coord_of (cell_of c))) refl (parity-point (coord_of (cell_of c)) p q) f
