-- What is shown in this crate beside the contracts of src/: the theorems that docs/PROMISES.md names, in words of specs/. The law behind each is the one that its proof names.
use Rattle.std.specs.Prelude.{Ok, Err}
use Rattle.std.proofs.Common.{◌≡◌, ℕ, ◌≤◌, false, T, pos}
use lib.Ieee.{Float, binary64, fits, fin}
use lib.Ieee.Exact.{HasValue}
use lib.Ieee.Scale.{finite}
use Rattle.refusal.specs.declared.Refusal.TheVariants.{OutOfRange}
use Rattle.root.specs.Root.{root_of, root_whole}
use Rattle.root.specs.Terms.{Nearer, Bounded}
use Rattle.root.proofs as laws

-- Where x is the whole number n, at least 1, and its root is answered as r, then r is nearer to √n than every finite f64 y of another size. Both comparisons are strict, so no root is
-- a tie, and "to nearest even" needs no case of its own. A y below zero is further off than -y, and r is nearer than -y. That x has an answer is `answers`; that r is an f64, `root-bounds`.
pub root-nearest :
    (x r : Float) (n : ℕ) → root_of x ≡ Ok r → HasValue x false n 1 → 1 ≤ n → (y : Float) → T (fits binary64 y) → T (finite y) → Nearer n r y
root-nearest = laws.Nearest.root-nearest

-- The root of a whole number from 1 to 2 ^ 64 is an f64, finite and above zero, from 1 to 2 ^ 32.
pub root-bounds : (n : ℕ) → 1 ≤ n → n ≤ 18446744073709551616 → Bounded (root_whole n)
root-bounds = laws.Bounds.root-bounds

-- Where x is a whole number n from 0 to 2 ^ 64, with the sign +, the root of n is answered.
pub answers : (x : Float) (n : ℕ) → HasValue x false n 1 → n ≤ 18446744073709551616 → root_of x ≡ Ok (root_whole n)
answers = laws.Answers.answers

-- What is no whole number from 0 to 2 ^ 64 with the sign + is refused as OutOfRange.
pub refuses : (x : Float) → ((n : ℕ) → HasValue x false n 1 → n ≤ 18446744073709551616 → ⊥) → root_of x ≡ Err OutOfRange
refuses = laws.Answers.refuses

-- The root of +0 is +0.
pub root-zero : root_of (fin false 0 (pos 0)) ≡ Ok (fin false 0 (pos 0))
root-zero = laws.Nearest.root-zero
