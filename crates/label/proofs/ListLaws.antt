-- Laws of lists that are made entry by entry: their parts, and what holds at each entry.
use mathlib.Core.List.{List, [], ◌∷◌, ◌++◌, map}
use mathlib.Core.Path.{◌≡◌, refl, ap, ap₂}
use Prim.Native.Nat.{ℕ, zero, suc}
use lib.ListN.{take, drop}
use Rattle.general.specs.Each.{Each}

pub each_append : {A : Type 0} (P : A → Type 0) (l m : List A) → Each P l → Each P m → Each P (l ++ m)
each_append P [] m h k = k
each_append P (x ∷ l) m h k = (h.0, each_append P l m h.1 k)

pub each_take : {A : Type 0} (P : A → Type 0) (n : ℕ) (l : List A) → Each P l → Each P (take n l)
each_take P zero l h = tt
each_take P (suc n) [] h = tt
each_take P (suc n) (x ∷ l) h = (h.0, each_take P n l h.1)

pub each-drop : {A : Type 0} (P : A → Type 0) (n : ℕ) (l : List A) → Each P l → Each P (drop n l)
each-drop P zero l h = h
each-drop P (suc n) [] h = tt
each-drop P (suc n) (x ∷ l) h = each-drop P n l h.1

module _ {A B : Type 0} (f : A → B) where
  pub map-take : (n : ℕ) (l : List A) → map f (take n l) ≡ take n (map f l)
  map-take zero l = refl
  map-take (suc n) [] = refl
  map-take (suc n) (x ∷ l) = ap (λ (m : List B). f x ∷ m) (map-take n l)

  pub map-drop : (n : ℕ) (l : List A) → map f (drop n l) ≡ drop n (map f l)
  map-drop zero l = refl
  map-drop (suc n) [] = refl
  map-drop (suc n) (x ∷ l) = map-drop n l

  -- two functions that agree where P holds
  pub map-agree : (g : A → B) (P : A → Type 0) → ((a : A) → P a → f a ≡ g a) → (l : List A) → Each P l → map f l ≡ map g l
  map-agree g P same [] h = refl
  map-agree g P same (x ∷ l) h = ap₂ (λ (y : B) (m : List B). y ∷ m) (same x h.0) (map-agree g P same l h.1)

  pub each_map : (P : A → Type 0) (Q : B → Type 0) → ((a : A) → P a → Q (f a)) → (l : List A) → Each P l → Each Q (map f l)
  each_map P Q g [] h = tt
  each_map P Q g (x ∷ l) h = (g x h.0, each_map P Q g l h.1)

  pub each-of-map : (P : A → Type 0) (Q : B → Type 0) → ((a : A) → Q (f a) → P a) → (l : List A) → Each Q (map f l) → Each P l
  each-of-map P Q g [] h = tt
  each-of-map P Q g (x ∷ l) h = (g x h.0, each-of-map P Q g l h.1)
