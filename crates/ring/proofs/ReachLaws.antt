-- What follows of steps to neighbours and of lists in which no cell stands twice.
use Rattle.std.specs.Prelude.{Result, Ok, Err}
use Rattle.lattice.specs.declared.Parity.{Parity}
use Rattle.refusal.specs.declared.Refusal.{Refusal}
use mathlib.Core.Path.{◌≡◌, refl, sym, subst}
use mathlib.Core.Logic.{⊎_elim}
use mathlib.Core.Bool.{Bool, true, false}
use mathlib.Core.List.Memᴰ
use mathlib.Core.List.{List, [], ◌∷◌, ◌++◌, Memᴰ}
use Prim.Native.Nat.{ℕ, ◌<◌}
use native.Mathlib.Omega.{arith}
use Rattle.refusal.specs.declared.Cell.{Cell}
use Rattle.lattice.specs.Lattice.{parity_of, neighbor_places, has_neighbor_room}
use Rattle.lattice.proofs.Laws.{room_fits}
use Rattle.cell.specs.Cell.{frame_of, resolution_of, coord_of, plain_at, near_cells, neighbors_of}
use Rattle.cell.proofs.Split.{neighbors_in, neighbors_by}
use Rattle.cell.specs.Terms.{Words}
use Rattle.cell.proofs.Laws.{fields-packed}
use Rattle.general.proofs.Results.{ok-path, err-is-no-ok}
use Rattle.ring.specs.Reach.{Near, Steps, stay, onward, Distinct, no_cells, one_more}

-- ---- 128 bits

near-cell-words : (a b : Cell) → has_neighbor_room (coord_of a) ≡ true → Memᴰ b (near_cells a) → Words b
unfolding near_cells
near-cell-words a b room m =
    let frame : frame_of a < 256 = omega arith in
    let t = Memᴰ.of_map (plain_at (frame_of a) (resolution_of a)) (neighbor_places (coord_of a)) m in
    subst Words t.2 (fields-packed (frame_of a) (resolution_of a) t.0 0 0 frame (omega arith) (omega arith) (room_fits (coord_of a) t.0 room t.1)).words

words-in : (a b : Cell) (t : Bool) (l : List Cell) → has_neighbor_room (coord_of a) ≡ t → neighbors_in t a ≡ Ok l → Memᴰ b l → Words b
words-in a b true l room e m = near-cell-words a b room (subst (Memᴰ b) (sym (ok-path e)) m)
words-in a b false l room e m = absurd (err-is-no-ok e)

words-by : (a b : Cell) (p : Result Parity Refusal) (l : List Cell) → neighbors_by p a ≡ Ok l → Memᴰ b l → Words b
words-by a b (Err r) l e m = absurd (err-is-no-ok e)
words-by a b (Ok p) l e m = words-in a b (has_neighbor_room (coord_of a)) l refl e m

-- a neighbour is a cell of 128 bits
pub near-words : (a b : Cell) → Near a b → Words b
unfolding neighbors_of
near-words a b near = words-by a b (parity_of (coord_of a)) near.cells near.answered near.among

-- and so is what steps from such a cell reach
pub steps-words : {a b : Cell} {n : ℕ} → Words a → Steps a n b → Words b
steps-words w (stay e) = subst Words (sym e) w
steps-words w (onward {b} {c} steps near) = near-words b c near

-- ---- none twice

pub distinct-last : (cs : List Cell) (c : Cell) → Distinct cs → (Memᴰ c cs → ⊥) → Distinct (cs ++ (c ∷ []))
distinct-last [] c d new = one_more (λ m. Memᴰ.not-nil m) no_cells
distinct-last (b ∷ cs) c (one_more first d) new =
    one_more
    (λ m. ⊎_elim first (λ (m : Memᴰ b (c ∷ [])). new (Memᴰ.head (sym (Memᴰ.eq_of_singleton m)))) (Memᴰ.append_cases cs m))
    (distinct-last cs c d (λ m. new (Memᴰ.tail m)))

pub distinct-right : (bs : List Cell) {cs : List Cell} → Distinct (bs ++ cs) → Distinct cs
distinct-right [] d = d
distinct-right (b ∷ bs) (one_more first d) = distinct-right bs d

-- no cell stands in both parts
pub distinct_apart : (bs : List Cell) {cs : List Cell} {c : Cell} → Distinct (bs ++ cs) → Memᴰ c bs → Memᴰ c cs → ⊥
distinct_apart [] d m later = Memᴰ.not-nil m
distinct_apart (b ∷ bs) {cs} {c} (one_more first d) m later =
    ⊎_elim (λ (e : c ≡ b). first (Memᴰ.append_right bs (subst (λ (c : Cell). Memᴰ c cs) e later))) (λ (m : Memᴰ c bs). distinct_apart bs d m later) (Memᴰ.cases_cons m)
