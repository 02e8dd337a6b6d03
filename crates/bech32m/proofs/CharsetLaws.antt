-- The charset both ways: a value's character has that value, which is computed for the 32 values; a character that is found is the one that stands at its value, in lower case.
use mathlib.Core.Bool.{Bool, true, false, ◌&&◌}
use mathlib.Core.List.{List, [], ◌∷◌}
use mathlib.Core.Path.{◌≡◌, refl, sym, ap, ◌∙◌}
use Prim.Native.Nat.{ℕ, zero, suc, ◌≤◌, ◌<◌}
use native.Mathlib.Omega.{arith}
use borrow.Author.Tests.{eqb-true, eqb-false, ne_eqb}
use lib.Dec.{eqb, leb}
use lib.ListN.{length, get_or}
use Rattle.general.proofs.Tests.{both, on_test, same_or_not}
use Rattle.bech32m.specs.Text.{lowered}
use Rattle.bech32m.specs.Checksum.{charset, character_of, index_of, value_of}
use Rattle.bech32m.specs.Valid.{is_unknown}
use Rattle.bech32m.proofs.Letters.{inside, lowered-lowered}

-- ---- from a value to its character

-- a test that all numbers below n pass
abbrev passes_below : (ℕ → Bool) → ℕ → Bool
passes_below t zero = true
passes_below t (suc n) = t n && passes_below t n

passes_at : (t : ℕ → Bool) (n : ℕ) → passes_below t n ≡ true → (k : ℕ) → k < n → t k ≡ true
passes_at t zero e k h = absurd (omega arith)
passes_at t (suc n) e k h =
    let b = both (t n) (passes_below t n) e in
    same_or_not k n (λ s. ap t s ∙ b.0) (λ d. passes_at t n b.1 k (omega arith))

module _ (v : ℕ) (h : v < 32) where
  -- a value's character has that value
  pub value-character : value_of (character_of v) ≡ v
  unfolding value_of index_of
  value-character = eqb-true _ _ (passes_at (λ (k : ℕ). eqb (value_of (character_of k)) k) 32 refl v h)

  -- it is in lower case
  pub character-lowered : lowered (character_of v) ≡ character_of v
  character-lowered = eqb-true _ _ (passes_at (λ (k : ℕ). eqb (lowered (character_of k)) (character_of k)) 32 refl v h)

  -- and printed
  pub character-printed : (33 ≤ character_of v) × (character_of v ≤ 126)
  character-printed = inside 33 126 (character_of v) (passes_at (λ (k : ℕ). leb 33 (character_of k) && leb (character_of k) 126) 32 refl v h)

-- ---- from a character to its value

index-bound : (b : ℕ) (l : List ℕ) → index_of b l ≤ length l
unfolding index_of
index-bound b [] = omega arith
index-bound b (x ∷ l) = let rest = index-bound b l in on_test (λ (i : ℕ). i ≤ suc (length l)) (eqb b x) 0 (suc (index_of b l)) (λ e. omega arith) (λ e. omega arith)

-- at an index that is found stands the character
index-found : (b : ℕ) (l : List ℕ) → index_of b l < length l → get_or l (index_of b l) 0 ≡ b
unfolding index_of
index-found b [] h = absurd (omega arith)
index-found b (x ∷ l) h =
    on_test (λ (i : ℕ). i < suc (length l) → get_or (x ∷ l) i 0 ≡ b) (eqb b x) 0 (suc (index_of b l)) (λ e k. sym (eqb-true b x e)) (λ e k. index-found b l (omega arith)) h

pub value-lowered : (b : ℕ) → value_of (lowered b) ≡ value_of b
unfolding value_of
value-lowered b = ap (λ (x : ℕ). index_of x charset) (lowered-lowered b)

-- a character with a value is that value's, in lower case
pub character-value : (b : ℕ) → value_of b < 32 → character_of (value_of b) ≡ lowered b
unfolding value_of
character-value b h = index-found (lowered b) charset h

-- a character that is known has a value, and the other way round
pub known-value : (b : ℕ) → is_unknown b ≡ false → value_of b < 32
unfolding value_of
known-value b e = let bound : value_of b ≤ 32 = index-bound (lowered b) charset in let other = eqb-false (value_of b) 32 e in omega arith

pub value-known : (b : ℕ) → value_of b < 32 → is_unknown b ≡ false
value-known b h = ne_eqb (value_of b) 32 (λ e. omega arith)
