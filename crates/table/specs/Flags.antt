-- The flags of a cell: bits of a 32-bit word, as the Rust's `CellFlags` has them. "Only bit 0 blocks." Definitions only.
use Rattle.std.specs.Prelude.{Bool, not, ℕ, ◌-◌, ◌^◌, ◌%◌, eqb}
use Rattle.std.specs.Int.Bits.{bit_and, bit_or}

-- whether any of a flag's bits is set
abbrev pub has_flag : ℕ → ℕ → Bool
has_flag bits flag = not (eqb (bit_and bits flag) 0)

-- the bits with all of a flag's bits set
abbrev pub with_flag : ℕ → ℕ → ℕ
with_flag bits flag = bit_or bits flag

-- the bits with none of a flag's bits set
abbrev pub without_flag : ℕ → ℕ → ℕ
without_flag bits flag = bit_and bits (2 ^ 32 - 1 - flag)

-- whether a cell with these flags may not be entered: "Only bit 0 blocks"
abbrev pub is_blocked : ℕ → Bool
is_blocked bits = eqb (bits % 2) 1
