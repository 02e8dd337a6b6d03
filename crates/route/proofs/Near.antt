-- How the checker finds by numbers that a place is one of the 14 around another: the square of their distance is 3 or 4.
use mathlib.Core.Path.{◌≡◌, refl, sym, ap, ◌∙◌}
use mathlib.Core.Logic.{◌⊎◌, inl, inr, ⊎_elim}
use mathlib.Core.Bool.{true}
use mathlib.Core.List.Memᴰ
use mathlib.Core.List.{Memᴰ}
use Prim.Native.Nat.{ℕ, zero, suc, ◌+◌, ◌*◌, ◌≤◌}
use native.Mathlib.Omega.{arith}
use borrow.Author.Tests.{leb-true}
use lib.Dec.{T, leb}
use lib.IntN.{ℤ, pos, negsuc, nat_abs, ◌+ℤ◌, ◌-ℤ◌, +ℤ_comm, +ℤ-neg_ℤ_cancel, -ℤ-+ℤ_cancel}
use lib.ListN.{get_or}
use Rattle.refusal.specs.declared.Coord.{Coord}
use Rattle.lattice.specs.Lattice.{at, moved, neighbor_steps, neighbor_places}
use Rattle.lattice.proofs.Origin.{origin}
use Rattle.general.proofs.Tests.{both}
use Rattle.general.proofs.Lists.{has, placed, by-test}
use Rattle.distance.specs.Inner.Differences.{difference}
use Rattle.route.specs.Inner.Near.{short_square, square_of, is_short, is_near}

-- ---- a neighbour is near

there : (c s : Coord) → difference (moved c s) c ≡ s
there c s = λ i. at (on-axis c.x s.x i) (on-axis c.y s.y i) (on-axis c.z s.z i)
  where
    on-axis : (a b : ℤ) → a +ℤ b -ℤ a ≡ b
    on-axis a b = ap (λ (z : ℤ). z -ℤ a) (+ℤ_comm a b) ∙ +ℤ-neg_ℤ_cancel b a

pub neighbor-is-near : (c d : Coord) → Memᴰ d (neighbor_places c) → is_near c d ≡ true
unfolding is_near neighbor_places neighbor_steps
neighbor-is-near c d m = by-test (moved c) (λ (d : Coord). is_short (difference d c) ≡ true) is_short neighbor_steps refl (λ (s : Coord) (e : is_short s ≡ true). ap is_short (there c s) ∙ e) m

-- ---- what is near is a neighbour

-- so many forth or back
data Way (n : ℕ) (z : ℤ) : Type 0 where
  forth : z ≡ pos (suc n) → Way n z
  back : z ≡ negsuc n → Way n z

way : (n : ℕ) (z : ℤ) → nat_abs z ≡ suc n → Way n z
way n (pos m) e = forth (ap pos e)
way n (negsuc m) e = back (ap negsuc (omega arith))

still : (z : ℤ) → nat_abs z ≡ 0 → z ≡ pos 0
still (pos m) e = ap pos e
still (negsuc m) e = absurd (omega arith)

-- no square is 2 or 3
split : (n : ℕ) → (short_square n ≤ 1) ⊎ (4 ≤ short_square n)
split zero = inl (omega arith)
split (suc zero) = inl (omega arith)
split (suc (suc zero)) = inr (omega arith)
split (suc (suc (suc n))) = inr (omega arith)

-- what a square of at most 4 says of its side: of 0 it is 0, of 1 it is 1, of 4 it is 2
record Side (n : ℕ) : Type 0 where
  least : short_square n ≤ 2 * n
  most : 3 * n ≤ short_square n + 2

side : (n : ℕ) → short_square n ≤ 4 → Side n
side zero h = record { least = omega arith; most = omega arith }
side (suc zero) h = record { least = omega arith; most = omega arith }
side (suc (suc zero)) h = record { least = omega arith; most = omega arith }
side (suc (suc (suc n))) h = absurd (omega arith)

-- the entry of the table that a step is
entry : (k : ℕ) {s : Coord} → T (has neighbor_steps k) → s ≡ get_or neighbor_steps k origin → Memᴰ s neighbor_steps
entry k t e = Memᴰ.cast e (placed neighbor_steps k origin t)

-- one on each axis
diagonal : {x y z : ℤ} → Way 0 x → Way 0 y → Way 0 z → Memᴰ (at x y z) neighbor_steps
unfolding neighbor_steps
diagonal (forth e) (forth f) (forth g) = entry 0 tt (λ i. at (e i) (f i) (g i))
diagonal (forth e) (forth f) (back g) = entry 1 tt (λ i. at (e i) (f i) (g i))
diagonal (forth e) (back f) (forth g) = entry 2 tt (λ i. at (e i) (f i) (g i))
diagonal (forth e) (back f) (back g) = entry 3 tt (λ i. at (e i) (f i) (g i))
diagonal (back e) (forth f) (forth g) = entry 4 tt (λ i. at (e i) (f i) (g i))
diagonal (back e) (forth f) (back g) = entry 5 tt (λ i. at (e i) (f i) (g i))
diagonal (back e) (back f) (forth g) = entry 6 tt (λ i. at (e i) (f i) (g i))
diagonal (back e) (back f) (back g) = entry 7 tt (λ i. at (e i) (f i) (g i))

-- two on one axis
along-x : {x y z : ℤ} → Way 1 x → y ≡ pos 0 → z ≡ pos 0 → Memᴰ (at x y z) neighbor_steps
unfolding neighbor_steps
along-x (forth e) f g = entry 8 tt (λ i. at (e i) (f i) (g i))
along-x (back e) f g = entry 9 tt (λ i. at (e i) (f i) (g i))

along-y : {x y z : ℤ} → x ≡ pos 0 → Way 1 y → z ≡ pos 0 → Memᴰ (at x y z) neighbor_steps
unfolding neighbor_steps
along-y e (forth f) g = entry 10 tt (λ i. at (e i) (f i) (g i))
along-y e (back f) g = entry 11 tt (λ i. at (e i) (f i) (g i))

along-z : {x y z : ℤ} → x ≡ pos 0 → y ≡ pos 0 → Way 1 z → Memᴰ (at x y z) neighbor_steps
unfolding neighbor_steps
along-z e f (forth g) = entry 12 tt (λ i. at (e i) (f i) (g i))
along-z e f (back g) = entry 13 tt (λ i. at (e i) (f i) (g i))

-- a step whose square is 3 or 4 is one of the table
short-step : (s : Coord) → 3 ≤ square_of s → square_of s ≤ 4 → Memᴰ s neighbor_steps
short-step s low high =
    let x = nat_abs s.x in
    let y = nat_abs s.y in
    let z = nat_abs s.z in
    let in-x = side x (omega arith) in
    let in-y = side y (omega arith) in
    let in-z = side z (omega arith) in
    ⊎_elim
    (λ (a : short_square x ≤ 1). ⊎_elim
    (λ (b : short_square y ≤ 1). ⊎_elim
    (λ (c : short_square z ≤ 1). diagonal (way 0 s.x (omega arith)) (way 0 s.y (omega arith)) (way 0 s.z (omega arith)))
    (λ (c : 4 ≤ short_square z). along-z (still s.x (omega arith)) (still s.y (omega arith)) (way 1 s.z (omega arith)))
    (split z))
    (λ (b : 4 ≤ short_square y). along-y (still s.x (omega arith)) (way 1 s.y (omega arith)) (still s.z (omega arith)))
    (split y))
    (λ (a : 4 ≤ short_square x). along-x (way 1 s.x (omega arith)) (still s.y (omega arith)) (still s.z (omega arith)))
    (split x)

reached : (c d : Coord) → d ≡ moved c (difference d c)
reached c d = λ i. at (on-axis c.x d.x i) (on-axis c.y d.y i) (on-axis c.z d.z i)
  where
    on-axis : (a b : ℤ) → b ≡ a +ℤ (b -ℤ a)
    on-axis a b = sym (+ℤ_comm a (b -ℤ a) ∙ -ℤ-+ℤ_cancel b a)

pub near-is-neighbor : (c d : Coord) → is_near c d ≡ true → Memᴰ d (neighbor_places c)
unfolding is_near neighbor_places
near-is-neighbor c d e =
    let s = difference d c in
    let h = both (leb 3 (square_of s)) (leb (square_of s) 4) e in
    Memᴰ.cast (reached c d) (Memᴰ.map (moved c) (short-step s (leb-true 3 (square_of s) h.0) (leb-true (square_of s) 4 h.1)))
