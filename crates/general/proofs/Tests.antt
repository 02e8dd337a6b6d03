-- Laws of tests: what follows where one holds and where it does not, and what several together say of each.
use mathlib.Core.Bool.{Bool, true, ◌&&◌, and-eq-true_iff, false, ◌||◌, cond, false≢true}
use mathlib.Core.Path.{◌≡◌, refl, sym, ◌∙◌}
use Prim.Native.Nat.{ℕ}
use borrow.Author.Tests.{eqb-true, eqb-false}
use lib.Dec.{eqb}

-- tests that all passed
pub both : (a b : Bool) → (a && b) ≡ true → (a ≡ true) × (b ≡ true)
both a b e = (and-eq-true_iff a b).0 e

pub three : (a b d : Bool) → (a && (b && d)) ≡ true → (a ≡ true) × (b ≡ true) × (d ≡ true)
three a b d e = let h = both a (b && d) e in let g = both b d h.1 in (h.0, g.0, g.1)

pub on_test : {A : Type 0} (Q : A → Type 0) (b : Bool) (x y : A) → (b ≡ true → Q x) → (b ≡ false → Q y) → Q (cond b x y)
on_test Q true x y f g = f refl
on_test Q false x y f g = g refl

pub whether : {Q : Type 0} (b : Bool) → (b ≡ true → Q) → (b ≡ false → Q) → Q
whether true f g = f refl
whether false f g = g refl

pub same_or_not : {Q : Type 0} (a b : ℕ) → (a ≡ b → Q) → ((a ≡ b → ⊥) → Q) → Q
same_or_not a b f g = whether (eqb a b) (λ e. f (eqb-true a b e)) (λ e. g (eqb-false a b e))

pub contrary : {Q : Type 0} {b : Bool} → b ≡ true → b ≡ false → Q
contrary e f = absurd (false≢true (sym f ∙ e))

-- where neither of two holds
pub neither : (a b : Bool) → (a || b) ≡ false → (a ≡ false) × (b ≡ false)
neither true b e = contrary refl e
neither false b e = (refl, e)
