-- Known points: the number 16909060 is 1 * 256^3 + 2 * 256^2 + 3 * 256 + 4.
use mathlib.Core.Path.{◌≡◌, refl}
use mathlib.Core.List.{List, [], ◌∷◌}
use Prim.Native.Nat.{ℕ}
use Rattle.words.specs.Word.{big, little, low_digits, number, ordered, bytes_of, word, stored}

bytes : List ℕ
bytes = 9 ∷ 1 ∷ 2 ∷ 3 ∷ 4 ∷ 9 ∷ []

read-big : word big 4 bytes 1 ≡ 16909060
unfolding bytes word ordered number
read-big = refl

read-little : word little 4 bytes 1 ≡ 67305985
unfolding bytes word ordered number
read-little = refl

bytes-big : bytes_of big 4 16909060 ≡ 1 ∷ 2 ∷ 3 ∷ 4 ∷ []
unfolding bytes_of ordered low_digits
bytes-big = refl

stored-little : stored little 4 bytes 1 16909060 ≡ 9 ∷ 4 ∷ 3 ∷ 2 ∷ 1 ∷ 9 ∷ []
unfolding bytes stored bytes_of ordered low_digits
stored-little = refl
