-- An answer of `root_of` is a number, so that a caller may take its bits.
use Rattle.std.specs.Prelude.{Ok, Err}
use Rattle.std.proofs.Common.{◌≡◌, ℕ, ◌-◌, ◌*◌, ◌/◌, ◌%◌, ◌^◌, Bool, true, false, cond, not, ◌&&◌, T, eqb, leb, subst, arith}
use lib.Ieee.{Float, nan, inf, fin, binary64, up, down, is_nan}
use Rattle.refusal.specs.declared.Refusal.TheVariants.{OutOfRange}
use Rattle.float.proofs.Laws.{rounded}
use Rattle.root.specs.Root.{root_of, root_whole, significand, shift}

abbrev Number : Float → Type 0
Number x = T (not (is_nan x))

whole-number : (n : ℕ) → Number (root_whole n)
unfolding root_whole is_nan
whole-number n = rounded Number (λ s m e. tt) (λ s. tt) binary64 false (significand n) (2 ^ (shift n - 1))

pub of_number : (x v : Float) → root_of x ≡ Ok v → Number v
unfolding root_of
of_number nan v h = absurd (let z : ◌≡◌ {A = ℕ} 0 1 = cc in omega arith)
of_number (inf s) v h = absurd (let z : ◌≡◌ {A = ℕ} 0 1 = cc in omega arith)
of_number (fin true m e) v h = absurd (let z : ◌≡◌ {A = ℕ} 0 1 = cc in omega arith)
of_number (fin false m e) v h = go (eqb (m * up e % down e) 0 && leb (m * up e / down e) (2 ^ 64)) h
  where
    go : (b : Bool) → cond b (Ok (root_whole (m * up e / down e))) (Err OutOfRange) ≡ Ok v → Number v
    go true h = let k : root_whole (m * up e / down e) ≡ v = cc in subst Number k (whole-number (m * up e / down e))
    go false h = absurd (let z : ◌≡◌ {A = ℕ} 0 1 = cc in omega arith)
