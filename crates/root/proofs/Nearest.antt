-- No f64 is nearer to the true root than the answer of `square_root`: "correctly rounded, to nearest even", in words of floats.
use Rattle.std.specs.Prelude.{Result, Ok}
use Rattle.std.proofs.Common.{◌≡◌, ℕ, ◌≤◌, false, T, pos, sym, refl, ◌∙◌, subst}
use lib.Ieee.{Float, nan, inf, fin, binary64, fits}
use lib.Ieee.Exact.{HasValue}
use lib.Ieee.Scale.{finite}
use Rattle.refusal.specs.declared.Refusal.{Refusal}
use Rattle.root.specs.Root.{root_of, root_whole}
use Rattle.root.proofs.Answers.{answers, answered}
use Rattle.root.proofs.Halfway.{middle-above, middle-below}
use Rattle.root.specs.Terms.{Nearer}

-- Of every whole number n from 1 to 2 ^ 64, be it an f64 or not, `root_whole n` is the nearest f64 to √n.
pub whole-nearest : (n : ℕ) → 1 ≤ n → n ≤ 18446744073709551616 → (y : Float) → T (fits binary64 y) → T (finite y) → Nearer n (root_whole n) y
whole-nearest n first last nan f p = absurd p
whole-nearest n first last (inf s) f p = absurd p
whole-nearest n first last (fin s m e) f p = record { above = middle-above n first last s m e f; below = middle-below n first last s m e f }

-- THE THEOREM. Where x is the whole number n, at least 1, and the answer is r, then r is nearer to √n than every other finite f64 y. Both comparisons are strict, so no
-- root is a tie, and "to nearest even" needs no case of its own. Of a y below zero, -y is nearer than y, and r is nearer than -y. That x has an answer is `Answers.answers`;
-- that the answer is an f64, `Bounds.root-bounds`.
pub root-nearest : (x r : Float) (n : ℕ) → root_of x ≡ Ok r → HasValue x false n 1 → 1 ≤ n → (y : Float) → T (fits binary64 y) → T (finite y) → Nearer n r y
root-nearest x r n a h first y f p =
    let last = answered x r n a h in
    let e : root_whole n ≡ r = same_answer (sym (answers x n h last) ∙ a) in
    subst (λ (z : Float). Nearer n z y) e (whole-nearest n first last y f p)
  where
    same_answer : {u v : Float} → ◌≡◌ {A = Result Float Refusal} (Ok u) (Ok v) → u ≡ v
    same_answer e = cc

-- The root of +0 is +0.
pub root-zero : root_of (fin false 0 (pos 0)) ≡ Ok (fin false 0 (pos 0))
unfolding root_of
root-zero = refl
