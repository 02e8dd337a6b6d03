-- Words of n bytes in a list of bytes, in both byte orders. Document 01 writes the survey file, the layers and the ids "Big-endian";
-- workspaces are little-endian, which is our own decision. Definitions only.
use Rattle.std.specs.Prelude.{ℕ, zero, suc, ◌+◌, ◌*◌, ◌/◌, ◌%◌, ◌<◌, List, [], ◌∷◌, reverse, take, drop, get_or}
use Rattle.std.proofs.lemmas.List.Edits.{sets}

-- which byte of a word stands first: the highest or the lowest
pub data Order : Type 0 where
  big : Order
  little : Order

-- the n lowest digits of v in base 256, the lowest first
unfoldable pub low_digits : ℕ → ℕ → List ℕ
low_digits zero v = []
low_digits (suc n) v = v % 256 ∷ low_digits n (v / 256)

-- the number that digits in base 256 make, the lowest first
unfoldable pub number : List ℕ → ℕ
number [] = 0
number (d ∷ ds) = d + 256 * number ds

-- digits, the lowest first, as they stand in memory; and back
unfoldable pub ordered : Order → List ℕ → List ℕ
ordered big l = reverse l
ordered little l = l

-- the n bytes of v
unfoldable pub bytes_of : Order → ℕ → ℕ → List ℕ
bytes_of o n v = ordered o (low_digits n v)

-- the number that the n bytes at p make
unfoldable pub word : Order → ℕ → List ℕ → ℕ → ℕ
word o n l p = number (ordered o (take n (drop p l)))

-- the list after the n bytes of v are stored at p
unfoldable pub stored : Order → ℕ → List ℕ → ℕ → ℕ → List ℕ
stored o n l p v = sets l p (bytes_of o n v)

-- every element is a byte (past the end stands 0)
abbrev pub Bytes : List ℕ → Type 0
Bytes l = (i : ℕ) → get_or l i 0 < 256
