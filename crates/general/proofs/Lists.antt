-- Laws of lists: what is shown at each entry holds at each member, by a test of all entries too; and the lists made of two lists' entries, joined.
use mathlib.Core.Bool.{Bool, true, false, ◌&&◌}
use mathlib.Core.List.Memᴰ
use mathlib.Core.List.{List, [], ◌∷◌, map, Memᴰ, ◌++◌, flat_map, append_assoc}
use mathlib.Core.Path.{◌≡◌, refl, sym, subst, ap, ◌∙◌}
use Prim.Native.Nat.{ℕ, zero, suc}
use lib.Dec.{T}
use lib.ListN.{get_or}
use Rattle.general.proofs.Tests.{both}
use Rattle.general.specs.Each.{Each}

module _ {A : Type 0} where
  pub at-member : (P : A → Type 0) {a : A} {l : List A} → Memᴰ a l → Each P l → P a
  at-member P (Memᴰ.head e) h = subst P (sym e) h.0
  at-member P (Memᴰ.tail m) h = at-member P m h.1

  -- a test that each entry passes
  abbrev pub passes : (A → Bool) → List A → Bool
  passes t [] = true
  passes t (x ∷ l) = t x && passes t l

  pub each-passes : (t : A → Bool) (P : A → Type 0) (l : List A) → passes t l ≡ true → ((a : A) → t a ≡ true → P a) → Each P l
  each-passes t P [] e f = tt
  each-passes t P (x ∷ l) e f = let h = both (t x) (passes t l) e in (f x h.0, each-passes t P l h.1 f)

  -- the entry at a place is a member
  abbrev pub has : List A → ℕ → Bool
  has [] k = false
  has (x ∷ l) zero = true
  has (x ∷ l) (suc k) = has l k

  pub placed : (l : List A) (k : ℕ) (d : A) → T (has l k) → Memᴰ (get_or l k d) l
  placed [] k d t = absurd t
  placed (x ∷ l) zero d t = Memᴰ.head refl
  placed (x ∷ l) (suc k) d t = Memᴰ.tail (placed l k d t)

-- what holds at the image of each entry holds at each member of the image
pub at-image : {A B : Type 0} (f : A → B) (P : B → Type 0) (l : List A) {b : B} → Memᴰ b (map f l) → Each (λ (a : A). P (f a)) l → P b
at-image {A} f P l m h = let r = Memᴰ.of_map f l m in subst P r.2 (at-member (λ (a : A). P (f a)) r.1 h)

-- and what follows at the image of an entry from a test that all entries pass
pub by-test : {A B : Type 0} (f : A → B) (P : B → Type 0) (t : A → Bool) (l : List A) → passes t l ≡ true → ((a : A) → t a ≡ true → P (f a)) → {b : B} → Memᴰ b (map f l) → P b
by-test {A} f P t l e g m = at-image f P l m (each-passes t (λ (a : A). P (f a)) l e g)

pub flat_map-append {ℓ ℓ'} : {A : Type ℓ} {B : Type ℓ'} (f : A → List B) (l m : List A) → flat_map f (l ++ m) ≡ flat_map f l ++ flat_map f m
unfolding flat_map
flat_map-append f [] m = refl
flat_map-append f (a ∷ l) m = ap (λ r. f a ++ r) (flat_map-append f l m) ∙ sym (append_assoc (f a) (flat_map f l) (flat_map f m))
