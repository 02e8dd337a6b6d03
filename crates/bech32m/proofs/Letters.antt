-- Laws of letters in lower case: a range of characters is two tests, and a lowered character is no upper case letter.
use mathlib.Core.Bool.{true, false, ◌&&◌, cond}
use mathlib.Core.Path.{◌≡◌, ap, ap₂}
use Prim.Native.Nat.{ℕ, ◌+◌, ◌<◌, ◌≤◌}
use native.Mathlib.Omega.{arith}
use borrow.Author.Tests.{leb-true, le-leb}
use lib.Dec.{leb}
use Rattle.general.proofs.Tests.{both, on_test, whether}
use Rattle.bech32m.specs.Text.{is_upper, lowered}

-- ---- ranges

module _ (low high b : ℕ) where
  pub inside : (leb low b && leb b high) ≡ true → (low ≤ b) × (b ≤ high)
  inside e = let h = both (leb low b) (leb b high) e in (leb-true low b h.0, leb-true b high h.1)

  pub is-inside : low ≤ b → b ≤ high → (leb low b && leb b high) ≡ true
  is-inside h k = ap₂ ◌&&◌ (le-leb low b h) (le-leb b high k)

  pub is-outside : (low ≤ b → b ≤ high → ⊥) → (leb low b && leb b high) ≡ false
  is-outside f = whether (leb low b && leb b high) (λ e. absurd (f (inside e).0 (inside e).1)) (λ e. e)

-- ---- lower case

pub not-upper : (b : ℕ) → is_upper b ≡ false → lowered b ≡ b
not-upper b e = ap (λ t. cond t (b + 32) b) e

pub lowered-not-upper : (b : ℕ) → is_upper (lowered b) ≡ false
lowered-not-upper b =
    on_test (λ (x : ℕ). is_upper x ≡ false) (is_upper b) (b + 32) b (λ e. is-outside 65 90 (b + 32) (λ h k. let r = inside 65 90 b e in omega arith)) (λ e. e)

pub lowered-lowered : (b : ℕ) → lowered (lowered b) ≡ lowered b
lowered-lowered b = not-upper (lowered b) (lowered-not-upper b)

-- what is below the letters of lower case is itself
pub lowered-digit : (b d : ℕ) → d < 97 → lowered b ≡ d → b ≡ d
lowered-digit b d h = on_test (λ (x : ℕ). x ≡ d → b ≡ d) (is_upper b) (b + 32) b (λ u e. let r = inside 65 90 b u in absurd (omega arith)) (λ u e. e)
