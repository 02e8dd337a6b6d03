-- Laws of xor that the library lacks: it associates, and what is put in twice is gone.
use mathlib.Core.Path.{◌≡◌, refl, sym, ap, ap₂, ◌∙◌}
use Prim.Native.Nat.{ℕ, zero, suc, ◌+◌, ◌*◌, ◌/◌, ◌%◌, ◌<◌}
use native.Mathlib.Nat.{mod-lt}
use native.Mathlib.Omega.{arith}
use lib.Dec.{lit<}
use lib.Arith.{bin_ind}
use lib.Bits.{bit_xor, differ, xor_step, xor_self, xor_zero_r}

-- of two digits
differ-lt : (x y : ℕ) → x < 2 → y < 2 → differ x y < 2
differ-lt zero y h k = k
differ-lt (suc x) zero h k = h
differ-lt (suc zero) (suc y) h k = omega arith
differ-lt (suc (suc x)) (suc y) h k = absurd (omega arith)

differ-assoc : (x y z : ℕ) → x < 2 → y < 2 → z < 2 → differ (differ x y) z ≡ differ x (differ y z)
differ-assoc zero y z h k l = refl
differ-assoc (suc zero) zero z h k l = refl
differ-assoc (suc zero) (suc zero) zero h k l = refl
differ-assoc (suc zero) (suc zero) (suc zero) h k l = refl
differ-assoc (suc zero) (suc zero) (suc (suc z)) h k l = absurd (omega arith)
differ-assoc (suc zero) (suc (suc y)) z h k l = absurd (omega arith)
differ-assoc (suc (suc x)) y z h k l = absurd (omega arith)

-- the lowest digit of an xor, and the others
low : (a b : ℕ) → bit_xor a b % 2 ≡ differ (a % 2) (b % 2)
low a b = ap (λ (x : ℕ). x % 2) (xor_step a b) ∙ omega (arith, differ-lt (a % 2) (b % 2) (mod-lt a (lit< tt)) (mod-lt b (lit< tt)))

rest : (a b : ℕ) → bit_xor a b / 2 ≡ bit_xor (a / 2) (b / 2)
rest a b = ap (λ (x : ℕ). x / 2) (xor_step a b) ∙ omega (arith, differ-lt (a % 2) (b % 2) (mod-lt a (lit< tt)) (mod-lt b (lit< tt)))

pub xor_assoc : (a b c : ℕ) → bit_xor (bit_xor a b) c ≡ bit_xor a (bit_xor b c)
xor_assoc =
    bin_ind (λ (n : ℕ). (b c : ℕ) → bit_xor (bit_xor n b) c ≡ bit_xor n (bit_xor b c)) (λ b c. refl)
    (λ n ih b c.
    xor_step (bit_xor n b) c
    ∙ ap₂ (λ (x y : ℕ). bit_xor x (c / 2) * 2 + differ y (c % 2)) (rest n b) (low n b)
    ∙ ap₂ (λ (x y : ℕ). x * 2 + y) (ih (b / 2) (c / 2)) (differ-assoc (n % 2) (b % 2) (c % 2) (mod-lt n (lit< tt)) (mod-lt b (lit< tt)) (mod-lt c (lit< tt)))
    ∙ sym (xor_step n (bit_xor b c) ∙ ap₂ (λ (x y : ℕ). bit_xor (n / 2) x * 2 + differ (n % 2) y) (rest b c) (low b c)))

-- what is put in twice is gone
pub xor-cancel : (a b : ℕ) → bit_xor (bit_xor a b) b ≡ a
xor-cancel a b = xor_assoc a b b ∙ ap (bit_xor a) (xor_self b) ∙ xor_zero_r a
