-- The checker's test of a step says what a step is: `is_step a b` is true exactly where b is a plain cell of a's frame and resolution at one of the 14 places around a lattice point.
use mathlib.Core.Path.{◌≡◌, refl, sym, ap, ap₂, subst, ◌∙◌}
use mathlib.Core.Bool.{Bool, true, false, ◌&&◌, ◌||◌}
use mathlib.Core.List.{List, [], ◌∷◌, Memᴰ}
use Prim.Native.Nat.{ℕ, ◌/◌, ◌%◌, ◌<◌}
use native.Mathlib.Omega.{arith}
use borrow.Author.Tests.{le-leb, eqb-true, eq-eqb}
use lib.Dec.{eqb}
use lib.IntN.{ℤ, pos, negsuc}
use mir.Syntax.{w32}
use mir.Val.{SFits}
use Rattle.refusal.specs.declared.Coord.{Coord}
use Rattle.refusal.specs.declared.Cell.{Cell}
use Rattle.refusal.specs.Refusals.{raw_of}
use Rattle.lattice.specs.Lattice.{Fitting, is_lattice_point, within, neighbor_places}
use Rattle.general.proofs.Tests.{both, three}
use Rattle.lattice.proofs.SignsLaws.{within-mag}
use Rattle.cell.specs.Cell.{frame_of, resolution_of, exponent_of, flags_of, reserved_of, coord_of, is_plain, plain_at, plain_twin, same_cell}
use Rattle.cell.proofs.Bits.{low_word, low-whole, agree}
use Rattle.cell.specs.Terms.{Words}
use Rattle.cell.proofs.Laws.{fields-packed, coord-fits, plain-twin, plain-is-plain, same-cell}
use Rattle.route.specs.Route.{fitting, among_places, is_step}
use Rattle.route.specs.Accepted.{Step}
use Rattle.route.specs.Inner.Near.{is_near}
use Rattle.route.proofs.Near.{neighbor-is-near, near-is-neighbor}

-- ---- coordinates that fit 32 bits

abbrev fits : ℤ → Bool
fits = within (negsuc 2147483647) (pos 2147483647)

fits-small : (z : ℤ) → fits z ≡ true → SFits w32 z
fits-small z e = record { sfits = omega (arith, within-mag 2147483647 z e) }

small-fits : (z : ℤ) → SFits w32 z → fits z ≡ true
small-fits (pos n) f = le-leb n 2147483647 (omega arith)
small-fits (negsuc n) f = rw (le-leb n 2147483647 (omega arith))

-- the test of a place is whether it fits
fitting-fits : (c : Coord) → fitting c ≡ true → Fitting c
fitting-fits c e =
    let h = three (fits c.x) (fits c.y) (fits c.z) e in
    record { in-x = fits-small c.x h.0; in-y = fits-small c.y h.1; in-z = fits-small c.z h.2 }

fits-fitting : (c : Coord) → Fitting c → fitting c ≡ true
fits-fitting c f = rw (small-fits c.x f.in-x, small-fits c.y f.in-y, small-fits c.z f.in-z)

-- ---- a cell among those of the places

-- the test of one place
abbrev stands : Cell → Cell → Coord → Bool
stands a b c = fitting c && same_cell (plain_at (frame_of a) (resolution_of a) c) b

-- a place that passes the test is among them
place-among : (a b : Cell) {c : Coord} {cs : List Coord} → Memᴰ c cs → stands a b c ≡ true → among_places a b cs ≡ true
unfolding among_places
place-among a b {c} (Memᴰ.head {x = d} {xs = cs} m) e = ap (λ (t : Bool). t || among_places a b cs) (subst (λ (p : Coord). stands a b p ≡ true) m e)
place-among a b (Memᴰ.tail {x = d} {xs = cs} m) e = either (stands a b d) (place-among a b m e)
  where
    either : (t : Bool) → among_places a b cs ≡ true → (t || among_places a b cs) ≡ true
    either true f = refl
    either false f = f

-- a place of the list that passes the test
record Among (a b : Cell) (cs : List Coord) : Type 0 where
  place : Coord
  member : Memᴰ place cs
  passed : stands a b place ≡ true

-- and there is no other way
among-place : (a b : Cell) (cs : List Coord) → among_places a b cs ≡ true → Among a b cs
unfolding among_places
among-place a b [] e = absurd (let z : ◌≡◌ {A = ℕ} 0 1 = cc in omega arith)
among-place a b (d ∷ cs) e = here (stands a b d) refl e (λ g. among-place a b cs g)
  where
    here : (t : Bool) → stands a b d ≡ t → (t || among_places a b cs) ≡ true → (among_places a b cs ≡ true → Among a b cs) → Among a b (d ∷ cs)
    here true f g later = record { place = d; member = Memᴰ.head refl; passed = f }
    here false f g later = let r = later g in record { place = r.place; member = Memᴰ.tail r.member; passed = r.passed }

-- ---- the laws

-- a test that is passed is a step
pub step_is : (a b : Cell) → Words b → is_step a b ≡ true → Step a b
unfolding is_step
step_is a b w e =
    let h = both (is_lattice_point (coord_of a)) (among_places a b (neighbor_places (coord_of a))) e in
    let r = among-place a b (neighbor_places (coord_of a)) h.1 in
    let c = r.place in
    let plain = plain_at (frame_of a) (resolution_of a) c in
    let t = both (fitting c) (same_cell plain b) r.passed in
    let f = fitting-fits c t.0 in
    let frame : frame_of a < 256 = omega arith in
    let resolution : resolution_of a < 256 = omega arith in
    let back = fields-packed (frame_of a) (resolution_of a) c 0 0 frame resolution (omega arith) f in
    let same : plain ≡ b = same-cell plain b back.words w t.1 in
    record {
      one-parity = h.0;
      near = subst (λ (p : Coord). Memᴰ p (neighbor_places (coord_of a))) (sym back.coord-back ∙ ap coord_of same) r.member;
      plain = subst (λ (k : Cell). is_plain k ≡ true) same (plain-is-plain (frame_of a) (resolution_of a) c frame resolution f);
      same-frame = ap frame_of (sym same) ∙ back.frame_back;
      same-resolution = ap resolution_of (sym same) ∙ back.resolution-back;
    }

-- a step passes the test
pub is-step : (a b : Cell) → Words b → Step a b → is_step a b ≡ true
unfolding is_step plain_twin
is-step a b w s =
    let twin : plain_at (frame_of a) (resolution_of a) (coord_of b) ≡ b = ap₂ (λ (f r : ℕ). plain_at f r (coord_of b)) (sym s.same-frame) (sym s.same-resolution) ∙ plain-twin b w s.plain in
    let passed : stands a b (coord_of b) ≡ true = rw (fits-fitting (coord_of b) (coord-fits b w)) (eq-eqb (raw_of (plain_at (frame_of a) (resolution_of a) (coord_of b))) (raw_of b) (ap raw_of twin)) in
    rw s.one-parity (place-among a b s.near passed)

-- ---- the tests that decide it quickly

-- the lower 32 bits: those of a's frame and resolution, and nothing else
abbrev pub is_kin : Cell → Cell → Bool
is_kin a b = eqb (b.low % 4294967296) (a.low % 65536)

-- a plain cell of the same frame and resolution
record Kin (a b : Cell) : Type 0 where
  plain : is_plain b ≡ true
  same-frame : frame_of b ≡ frame_of a
  same-resolution : resolution_of b ≡ resolution_of a

kin-is : (a b : Cell) → is_kin a b ≡ true → Kin a b
unfolding is_plain
kin-is a b e =
    let h = eqb-true (b.low % 4294967296) (a.low % 65536) e in
    record {
      plain = rw (eq-eqb (exponent_of b) 0 (omega arith), eq-eqb (flags_of b) 0 (omega arith), eq-eqb (reserved_of b) 0 (omega arith));
      same-frame = omega arith;
      same-resolution = omega arith;
    }

-- a word with nothing between its coordinate and its resolution
low_bits : (x n m : ℕ) → low_word x 0 0 (m / 256 % 256) (m % 256) ≡ n → n % 4294967296 ≡ m % 65536
low_bits x n m e = omega arith

is-kin : (a b : Cell) → Kin a b → is_kin a b ≡ true
unfolding is_plain
is-kin a b k =
    let h = three (eqb (exponent_of b) 0) (eqb (flags_of b) 0) (eqb (reserved_of b) 0) k.plain in
    let exponent = eqb-true (exponent_of b) 0 h.0 in
    let flags = eqb-true (flags_of b) 0 h.1 in
    let word : low_word (b.low / 4294967296) (flags_of b) (exponent_of b) (resolution_of b) (frame_of b) ≡ b.low = low-whole b.low (eqb-true (reserved_of b) 0 h.2) in
    eq-eqb (b.low % 4294967296) (a.low % 65536)
    (low_bits (b.low / 4294967296) b.low a.low (sym (λ i. low_word (b.low / 4294967296) (flags i) (exponent i) (k.same-resolution i) (k.same-frame i)) ∙ word))

abbrev pub step_tests : Cell → Cell → Bool
step_tests a b = is_lattice_point (coord_of a) && (is_kin a b && is_near (coord_of a) (coord_of b))

tests-step : (a b : Cell) → step_tests a b ≡ true → Step a b
tests-step a b e =
    let h = three (is_lattice_point (coord_of a)) (is_kin a b) (is_near (coord_of a) (coord_of b)) e in
    let k = kin-is a b h.1 in
    record { one-parity = h.0; near = near-is-neighbor (coord_of a) (coord_of b) h.2; plain = k.plain; same-frame = k.same-frame; same-resolution = k.same-resolution }

step-tests : (a b : Cell) → Step a b → step_tests a b ≡ true
step-tests a b s =
    let kin = is-kin a b (record { plain = s.plain; same-frame = s.same-frame; same-resolution = s.same-resolution }) in
    rw (s.one-parity, kin, neighbor-is-near (coord_of a) (coord_of b) s.near)

-- the place of a, the lower bits of b, the square of the distance: no neighbour is made
pub step_tested : (a b : Cell) → b.high < 18446744073709551616 → b.low < 18446744073709551616 → is_step a b ≡ step_tests a b
step_tested a b high low =
    let words : Words b = record { high_word = high; low-word = low } in
    agree (is_step a b) (step_tests a b) (λ e. step-tests a b (step_is a b words e)) (λ e. is-step a b words (tests-step a b e))
