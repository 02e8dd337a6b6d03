-- Known points of the report on an input: the scope document's file and its three lines in a text of 28 bytes; a read that failed; and two answers on one call that the contract lets through.
use mathlib.Core.Path.{refl}
use mathlib.Core.List.{List, [], ◌∷◌, ◌++◌}
use Prim.Native.Nat.{ℕ}
use native.Mathlib.Omega.{arith}
use lib.ListN.{replicate}
use Rattle.words.specs.Word.{number, ordered}
use Rattle.report_text.specs.Summary.{report_of}
use Rattle.std.specs.Prelude.{Ok, Err}
use Rattle.input.specs.Input.{Reports}

-- hex 0001 0000 0000 0000 00000010 00000010
abbrev document : List ℕ
document = 0 ∷ 1 ∷ 0 ∷ 0 ∷ 0 ∷ 0 ∷ 0 ∷ 0 ∷ 0 ∷ 0 ∷ 0 ∷ 16 ∷ 0 ∷ 0 ∷ 0 ∷ 16 ∷ []

-- "flags 0", "blocked 0", "values 0"
abbrev lines : List ℕ
lines =
    102 ∷ 108 ∷ 97 ∷ 103 ∷ 115 ∷ 32 ∷ 48 ∷ 10 ∷
    98 ∷ 108 ∷ 111 ∷ 99 ∷ 107 ∷ 101 ∷ 100 ∷ 32 ∷ 48 ∷ 10 ∷
    118 ∷ 97 ∷ 108 ∷ 117 ∷ 101 ∷ 115 ∷ 32 ∷ 48 ∷ 10 ∷ []

-- the contract lets through the report on the document's file
three-lines : (E : Type 0) → Reports {E = E} (Ok (Ok 27)) (replicate 28 255) (lines ++ (255 ∷ []))
unfolding report_of number ordered
three-lines E = (document, (omega arith, refl))

-- and of the same call that a read failed: what is read is not in the contract
read-failed : {E : Type 0} (why : E) → Reports (Err why) (replicate 28 255) (replicate 28 255)
read-failed why = refl
