-- The parent of an even point by its axis, and by lattice.rs's count of odd halves, is the same point.
use Rattle.std.specs.Prelude.{Result, Ok}
use Rattle.lattice.specs.declared.Parity.{Parity}
use Rattle.refusal.specs.declared.Refusal.{Refusal}
use mathlib.Core.Path.{◌≡◌, refl, sym, ap, ◌∙◌}
use mathlib.Core.Bool.{Bool, true, false}
use Prim.Native.Nat.{ℕ, suc, ◌+◌, ◌/◌, ◌%◌}
use native.Mathlib.Omega.{arith}
use lib.IntN.{ℤ, pos, negsuc, neg_ℤ, ◌-ℤ◌, +ℤ_idr}
use lib.Signed.{quot_z}
use contract.Lifetimes.{Lfts}
use denote.Triple.Clauses.{AtExit}
use borrow.Fn.Kinds.{Dens, res_t, ended_of}
use borrow.Author.Tests.{eqb-false}
use Rattle.refusal.specs.declared.Coord.{Coord}
use Rattle.lattice.specs.declared.Parity.TheVariants.{Even}
use Rattle.lattice.specs.Lattice.{at, is_odd, parity_of, half, halves, differing_axis, take_one_off, even_parent, parent_of}
use Rattle.lattice.specs.Terms.{divided_by_two, as_number, by_odd_count, counted_parent}
use Rattle.lattice.proofs.Split.{parent_by}
use Rattle.lattice.proofs.Laws.{parity-point}
use Rattle.lattice.proofs.Odds.{Odds, parity-odds}
use Rattle.lattice.proofs.get_parent.Kinds as get-parent-kinds
use Rattle.lattice.proofs.get_parent.Reads as get-parent

-- nothing taken off
kept : (z : ℤ) → z -ℤ pos 0 ≡ z
kept = +ℤ_idr

by-parities : (a b d : Bool) (q : Coord) → by_odd_count (as_number a + as_number b + as_number d) a b d q ≡ take_one_off (differing_axis a b d) q
by-parities true true true q = refl
by-parities true true false q = λ i. at (kept q.x i) (kept q.y i) (q.z -ℤ pos 1)
by-parities true false true q = λ i. at (kept q.x i) (q.y -ℤ pos 1) (kept q.z i)
by-parities true false false q = λ i. at (q.x -ℤ pos 1) (kept q.y i) (kept q.z i)
by-parities false true true q = λ i. at (q.x -ℤ pos 1) (kept q.y i) (kept q.z i)
by-parities false true false q = λ i. at (kept q.x i) (q.y -ℤ pos 1) (kept q.z i)
by-parities false false true q = λ i. at (kept q.x i) (kept q.y i) (q.z -ℤ pos 1)
by-parities false false false q = refl

pub count-of-odd-halves : (q : Coord) → counted_parent q ≡ even_parent q
count-of-odd-halves q = by-parities (is_odd q.x) (is_odd q.y) (is_odd q.z) q

-- an even number is halved alike towards zero and down
toward_zero : (z : ℤ) → is_odd z ≡ false → quot_z z (pos 2) ≡ half z
toward_zero (pos n) e = refl
toward_zero (negsuc n) e =
    let k : suc n / 2 ≡ suc (n / 2) = omega (arith, eqb-false (suc n % 2) 1 e) in
    ap (λ (m : ℕ). neg_ℤ (pos m)) k

even-halves : (c : Coord) → Odds c false false false → divided_by_two c ≡ halves c
even-halves c o = λ i. at (toward_zero c.x o.odd-x i) (toward_zero c.y o.odd-y i) (toward_zero c.z o.odd-z i)

even-parent : (c : Coord) → parity_of c ≡ Ok Even → parent_of c ≡ Ok (counted_parent (divided_by_two c))
unfolding parent_of
even-parent c e =
    ap (λ (a : Result Parity Refusal). parent_by a c) e
    ∙ ap Ok (sym (ap counted_parent (even-halves c (parity-odds c Even (parity-point c Even e) e)) ∙ count-of-odd-halves (halves c)))

pub told-by-odd-count :
    (κs : Lfts 0) (a : Dens κs get-parent-kinds.ps) (z : (res_t get-parent-kinds.r κs).Denot)
    (e : AtExit (ended_of 0 get-parent-kinds.ps get-parent-kinds.r) κs)
    → get-parent.Post κs a z e → parity_of a.0 ≡ Ok Even → z ≡ Ok (counted_parent (divided_by_two a.0))
told-by-odd-count κs a z e told even = told ∙ even-parent a.0 even
