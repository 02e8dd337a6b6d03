-- What the search over cells refuses by itself: a mixed parity, a coordinate that overflows, no path. So it is about no room, and about no limit.
use Rattle.std.specs.Prelude.{Result, Ok, Err}
use mathlib.Core.Path.{◌≡◌, refl, sym, ap, subst, ◌∙◌}
use mathlib.Core.Bool.{Bool, true, false}
use mathlib.Core.List.{List}
use Prim.Native.Nat.{ℕ}
use native.Mathlib.Omega.{arith}
use Rattle.refusal.specs.declared.Coord.{Coord}
use Rattle.refusal.specs.declared.Cell.{Cell}
use Rattle.refusal.specs.declared.Refusal.{Refusal}
use Rattle.refusal.specs.declared.Refusal.TheVariants.{InvalidParity, CoordOverflow}
use Rattle.lattice.specs.declared.Parity.{Parity}
use Rattle.lattice.specs.Lattice.{is_lattice_point, parity_of, has_neighbor_room}
use Rattle.distance.specs.Distance.{differences_fit, distance_of}
use Rattle.distance.proofs.Split.{distance_in, distance_by}
use Rattle.distance.proofs.Laws.{distance-tested, distance-answers}
use Rattle.cell.specs.Cell.{coord_of, neighbors_of}
use Rattle.cell.proofs.Split.{neighbors_in, neighbors_by}
use Rattle.table.specs.Records.{Row}
use Rattle.search.specs.Search.{Problem, refused}
use Rattle.search.specs.Plan.{near_by, distance_bits, plan_of, endpoints}
use Rattle.refusal.specs.Refusals.{cell_of}
use Rattle.known.specs.Workspace.{in_rooms}
use Rattle.general.proofs.Tests.{whether}
use Rattle.general.proofs.Results.{err-path, err-is-no-ok}
use Rattle.search.proofs.Shortages.{Other, OtherRefusals}

-- what a cell's parity, its neighbours and its distance are refused with
pub data Own : Refusal → Type 0 where
  mixed : {c : Coord} → Own (InvalidParity c)
  overflow : Own CoordOverflow

own-other : {r : Refusal} → Own r → Other r
own-other mixed room e = let z : ◌≡◌ {A = ℕ} 0 1 = cc in omega arith
own-other overflow room e = let z : ◌≡◌ {A = ℕ} 0 1 = cc in omega arith

pub parity-own : (c : Coord) (r : Refusal) → parity_of c ≡ Err r → Own r
unfolding parity_of
parity-own c r e = whether (is_lattice_point c) (λ t. absurd (err-is-no-ok (sym (rw t at e)))) (λ t. subst Own (err-path (rw t at e)) mixed)

pub parity-other : (c : Coord) (r : Refusal) → parity_of c ≡ Err r → Other r
parity-other c r e = own-other (parity-own c r e)

distance-own : (a b : Coord) (r : Refusal) → distance_bits (distance_of a b) ≡ refused r → Own r
unfolding distance_of
distance-own a b r e = by-parity (parity_of a) (parity_of b) refl refl e
  where
    by-fit : (t : Bool) {p q : Parity} → parity_of a ≡ Ok p → parity_of b ≡ Ok q → differences_fit a b ≡ t → distance_bits (distance_in t a b) ≡ refused r → Own r
    by-fit false first second f g = let same : CoordOverflow ≡ r = cc in subst Own same overflow
    by-fit true first second f g =
        let d = distance-answers a b first second f in
        let number : distance_in true a b ≡ Ok d.0 = sym (distance-tested a b first second f) ∙ d.1 in
        absurd (let z : ◌≡◌ {A = ℕ} 0 1 = cc (ap distance_bits number, g) in omega arith)

    by-parity : (p q : Result Parity Refusal) → parity_of a ≡ p → parity_of b ≡ q → distance_bits (distance_by p q a b) ≡ refused r → Own r
    by-parity (Err w) q first second f = let same : w ≡ r = cc in subst Own same (parity-own a w first)
    by-parity (Ok p) (Err w) first second f = let same : w ≡ r = cc in subst Own same (parity-own b w second)
    by-parity (Ok p) (Ok q) first second f = by-fit (differences_fit a b) first second refl f

neighbours-own : (c : Cell) (r : Refusal) → near_by (neighbors_of c) ≡ refused r → Own r
unfolding neighbors_of
neighbours-own c r e = by-parity (parity_of (coord_of c)) refl e
  where
    by-room : (t : Bool) → near_by (neighbors_in t c) ≡ refused r → Own r
    by-room true f = absurd (let z : ◌≡◌ {A = ℕ} 0 1 = cc in omega arith)
    by-room false f = let same : CoordOverflow ≡ r = cc in subst Own same overflow

    by-parity : (a : Result Parity Refusal) → parity_of (coord_of c) ≡ a → near_by (neighbors_by a c) ≡ refused r → Own r
    by-parity (Err q) p f = let same : q ≡ r = cc in subst Own same (parity-own (coord_of c) q p)
    by-parity (Ok p) q f = by-room (has_neighbor_room (coord_of c)) f

module _ (s e : Cell) (known waiting limit rule : ℕ) (rows : List Row) where
  abbrev plan : Problem
  plan = plan_of (endpoints s e) (in_rooms known waiting) limit rule rows

  pub ahead_own : (n : ℕ) (r : Refusal) → plan.heuristic n ≡ refused r → Own r
  unfolding plan_of
  ahead_own n r f = distance-own (coord_of (cell_of n)) (coord_of e) r f

  pub near-own : (n : ℕ) (r : Refusal) → plan.neighbors n ≡ refused r → Own r
  unfolding plan_of
  near-own n r f = neighbours-own (cell_of n) r f

  pub plan-refusals : OtherRefusals plan
  unfolding plan_of
  plan-refusals =
      record {
        ahead-other = λ n r f. own-other (ahead_own n r f);
        near-other = λ n r f. own-other (near-own n r f);
        nowhere-other = λ room f. let z : ◌≡◌ {A = ℕ} 0 1 = cc in omega arith;
      }
