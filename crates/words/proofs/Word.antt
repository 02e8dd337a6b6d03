-- When two words of a list of bytes do not overlap.
use Prim.Native.Nat.{ℕ, ◌+◌, ◌-◌, ◌<◌}

-- n bytes at p and m bytes at q do not overlap: p is not before q + m, or q is not before p + n. A difference that would be negative is 0
abbrev pub Apart : ℕ → ℕ → ℕ → ℕ → Type 0
Apart p n q m = 0 < (p + 1 - (q + m)) + (q + 1 - (p + n))
