-- What is shown in this crate beside the contracts of src/: the theorems that docs/PROMISES.md names, in words of specs/. The law behind each is the one that its proof names.
use Rattle.std.proofs.Common.{◌≡◌, ℕ, ◌^◌, ◌<◌, leb}
use Rattle.float.specs.TotalOrder.{total_order, total_key}
use Rattle.float.proofs as laws

-- Two patterns of 64 bits are in IEEE 754's total order exactly where their keys are in order as numbers.
pub key-is-total-order : (a b : ℕ) → a < 2 ^ 64 → b < 2 ^ 64 → total_order a b ≡ leb (total_key a) (total_key b)
key-is-total-order = laws.KeyOrder.key-is-total-order
