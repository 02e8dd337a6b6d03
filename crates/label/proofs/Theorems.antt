-- What is shown in this crate beside the contracts of src/: the theorems that docs/PROMISES.md names, in words of specs/. The law behind each is the one that its proof names.
use mathlib.Core.Path.{◌≡◌}
use mathlib.Core.List.{List, map, reverse}
use mathlib.Core.Logic.{◌↔◌, ◌⊎◌}
use Prim.Native.Nat.{ℕ}
use Rattle.std.specs.Prelude.{Ok}
use Rattle.refusal.specs.declared.Cell.{Cell}
use Rattle.refusal.specs.Refusals.{raw_of}
use Rattle.words.specs.Word.{number}
use Rattle.cell.specs.Bytes.{cell_bytes}
use Rattle.cell.specs.Terms.{Words}
use Rattle.cell.proofs.BytesLaws as bytes
use Rattle.label.specs.Label.{label_of, read_of}
use Rattle.label.specs.Terms.{uppered, IsPast, IsLabel}
use Rattle.label.proofs as laws

-- A cell's label is read as that cell.
pub read-written : (c : Cell) → Words c → read_of (label_of c) ≡ Ok c
read-written = laws.Labels.read-written

-- A string is read as a cell exactly where it is that cell's label, all of it in lower case or all of it in upper case.
pub one_label : (s : List ℕ) (c : Cell) → Words c → (read_of s ≡ Ok c) ↔ ((s ≡ label_of c) ⊎ (s ≡ map uppered (label_of c)))
one_label = laws.Labels.one_label

-- A string goes past all tests but that of the padding, which is not BIP 350's, exactly where it is 37 characters that BIP 350 calls valid, with the prefix cx3d in either case and the
-- separator behind it.
pub label-is-bech32m : (s : List ℕ) → IsPast (read_of s) ↔ IsLabel s
label-is-bech32m = laws.Bech32m.label-is-bech32m

-- The 128 bits that a label has are those of the cell's 16 big-endian bytes.
pub raw-bytes : (c : Cell) → Words c → number (reverse (cell_bytes c)) ≡ raw_of c
raw-bytes = bytes.raw-bytes
