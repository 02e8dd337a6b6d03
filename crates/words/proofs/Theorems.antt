-- What is shown in this crate beside the contracts of src/: the theorems that docs/PROMISES.md names, in words of specs/. The law behind each is the one that its proof names.
use mathlib.Core.List.{List}
use Prim.Native.Nat.{ℕ}
use Rattle.words.specs.Word.{Order, stored, Bytes}
use Rattle.words.proofs as laws

-- A list of bytes in which the n bytes of a number are stored is a list of bytes again.
pub bytes-stored : (o : Order) (n : ℕ) (l : List ℕ) (p v : ℕ) → Bytes l → Bytes (stored o n l p v)
bytes-stored = laws.Laws.bytes-stored
