-- What is shown in this crate beside the contracts of src/: the theorems that docs/PROMISES.md names, in words of specs/. The law behind each is the one that its proof names.
use mathlib.Core.Path.{◌≡◌}
use mathlib.Core.List.{List, ◌++◌}
use mathlib.Core.Bool.{true}
use mathlib.Core.Logic.{◌↔◌}
use Prim.Native.Nat.{ℕ, ◌<◌}
use lib.ListN.{length}
use Rattle.general.specs.Each.{Each}
use Rattle.bech32m.specs.Checksum.{verified, created}
use Rattle.bech32m.proofs as laws

-- Six values of five bits behind a prefix and data are a right checksum exactly where they are the six that BIP 350 creates: the checksum that is written is read as right, and no other is.
pub created-exactly :
    (hrp values six : List ℕ) → length six ≡ 6 → Each (λ v. v < 32) six → (verified hrp (values ++ six) ≡ true) ↔ (six ≡ created hrp values)
created-exactly = laws.Created.created-exactly
