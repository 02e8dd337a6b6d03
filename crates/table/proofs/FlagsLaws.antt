-- Only bit 0 blocks.
use mathlib.Core.Path.{◌≡◌, sym, ap, ◌∙◌}
use mathlib.Core.Bool.{not}
use Prim.Native.Nat.{ℕ, ◌%◌}
use native.Mathlib.Nat.{mod-lt}
use native.Mathlib.Omega.{arith}
use lib.Bits.{bit_or, and_mask, or_mod, or_zero_r}
use lib.Dec.{eqb}
use Rattle.lattice.proofs.SignsLaws.{odd-digit}
use Rattle.table.specs.Flags.{has_flag, with_flag, is_blocked}

abbrev pub blocked : ℕ
blocked = 1

-- a cell is blocked exactly where it has the flag `blocked`
pub blocked-is-flag : (bits : ℕ) → is_blocked bits ≡ has_flag bits blocked
blocked-is-flag bits = sym (odd-digit (bits % 2) (mod-lt bits (omega arith))) ∙ ap (λ (b : ℕ). not (eqb b 0)) (sym (and_mask bits 1))

-- a flag without bit 0 blocks no cell
pub only-bit-0-blocks : (bits flag : ℕ) → flag % 2 ≡ 0 → is_blocked (with_flag bits flag) ≡ is_blocked bits
only-bit-0-blocks bits flag e = ap (λ (b : ℕ). eqb b 1) (or_mod bits flag 1 ∙ ap (bit_or (bits % 2)) e ∙ or_zero_r (bits % 2))
