-- Laws of what a call says and leaves: an answer in the words of another, and two calls that are one say the same and leave the same bytes.
use mathlib.Core.Path.{◌≡◌, sym, ap, ◌∙◌}
use mathlib.Core.List.{List}
use Prim.Native.Nat.{ℕ}
use Rattle.general.specs.Changed.{Changed, changed, saying}

-- an answer, in the words of another
pub said-as : {A B : Type 0} (f : A → B) {r : A} {q : B} {x : List ℕ} {z : Changed A} → changed r x ≡ z → q ≡ f r → changed q x ≡ saying f z
said-as {B = B} f {x = x} e known = ap (λ (q : B). changed q x) known ∙ ap (saying f) e

module _ {A : Type 0} {a b : A} {l m : List ℕ} {g : Changed A} (p : changed a l ≡ g) (q : changed b m ≡ g) where
  pub same-said : a ≡ b
  same-said = ap (λ (h : Changed A). h.said) (p ∙ sym q)

  pub same_bytes : l ≡ m
  same_bytes = ap (λ (h : Changed A). h.bytes) (p ∙ sym q)
