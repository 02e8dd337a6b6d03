-- Lists: what stands from a place on is the part that ends where the list ends; a table of a function's values has at each place the value there.
use mathlib.Core.Path.{◌≡◌, sym, ap, ◌∙◌}
use mathlib.Core.List.{List, [], ◌∷◌}
use Prim.Native.Nat.{ℕ, zero, suc, ◌+◌, ◌-◌, ◌<◌}
use native.Mathlib.Nat.{add-zero, zero-add, add-suc, suc-add, le_of_suc-le-suc, not-suc-le-zero}
use native.Mathlib.Omega.{arith}
use lib.ListN.{length, get_or, take, drop, length-drop}
use lib.Seq.{take_all}

-- a part that ends where the whole ends
pub part-rest : (s : List ℕ) (i : ℕ) → take (length s - i) (drop i s) ≡ drop i s
part-rest s i = take_all (length s - i) (drop i s) (omega (arith, length-drop i s))

-- n values, the first at i
abbrev pub listed : (ℕ → ℕ) → ℕ → ℕ → List ℕ
listed f zero i = []
listed f (suc n) i = f i ∷ listed f n (suc i)

from : (f : ℕ → ℕ) (n i k : ℕ) → k < n → get_or (listed f n i) k 0 ≡ f (i + k)
from f zero i k h = absurd (not-suc-le-zero h)
from f (suc n) i zero h = ap f (sym (add-zero i))
from f (suc n) i (suc k) h = from f n (suc i) k (le_of_suc-le-suc h) ∙ ap f (suc-add i k ∙ sym (add-suc i k))

pub listed_at : (f : ℕ → ℕ) (n k : ℕ) → k < n → get_or (listed f n 0) k 0 ≡ f k
listed_at f n k h = from f n 0 k h ∙ ap f (zero-add k)
