-- Records keep their cells while neighbours are looked at, so the cell that they are neighbours of stands where it stood.
use mathlib.Core.Path.{◌≡◌, refl, ap, subst, ◌∙◌}
use mathlib.Core.Bool.{Bool, true, false, cond}
use mathlib.Core.List.{List, [], ◌∷◌}
use Prim.Native.Nat.{ℕ, zero, suc, ◌+◌, ◌<◌}
use native.Mathlib.Omega.{arith}
use lib.Dec.{eqb}
use borrow.Author.Tests.{eqb-true}
use Rattle.refusal.specs.Refusals.{raw_of}
use Rattle.known.specs.Inner.Known.{cell_in}
use Rattle.search.specs.Search.{Problem, KnownRow, State, row, put, plus, relax}
use Rattle.search.proofs.Invariants.{Holding, Unfound, relax-keeps}
use Rattle.search_rows.specs.Inner.Rows.{row_in, rows_from, rows_in}

-- ---- where a cell stands

-- row i has the cell c
abbrev pub Stands : ℕ → ℕ → List KnownRow → Type 0
Stands c i [] = ⊥
Stands c zero (e ∷ es) = e.cell ≡ c
Stands c (suc i) (e ∷ es) = Stands c i es

stands-put : (c d g b i : ℕ) (k : List KnownRow) → Stands c i k → Stands c i (put d g b k)
unfolding put
stands-put c d g b i [] h = absurd h
stands-put c d g b zero (e ∷ es) h = go (eqb d e.cell) (eqb-true d e.cell)
  where
    go : (t : Bool) → (t ≡ true → d ≡ e.cell) → Stands c zero (cond t (row d g b false ∷ es) (e ∷ put d g b es))
    go true same = same refl ∙ h
    go false same = h
stands-put c d g b (suc i) (e ∷ es) h = go (eqb d e.cell) (stands-put c d g b i es h)
  where
    go : (t : Bool) → Stands c i (put d g b es) → Stands c (suc i) (cond t (row d g b false ∷ es) (e ∷ put d g b es))
    go true later = h
    go false later = later

from-stands : (r : ℕ → KnownRow) (j n i : ℕ) → i < n → Stands (r (j + i)).cell i (rows_from r j n)
unfolding rows_from
from-stands r j zero i below = absurd (omega arith)
from-stands r j (suc n) zero below = let place : j ≡ j + 0 = omega arith in ap (λ (k : ℕ). (r k).cell) place
from-stands r j (suc n) (suc i) below =
    let place : suc j + i ≡ j + suc i = omega arith in
    subst (λ (k : ℕ). Stands (r k).cell i (rows_from r (suc j) n)) place (from-stands r (suc j) n i (omega arith))

stands_from : (c : ℕ) (r : ℕ → KnownRow) (j n i : ℕ) → Stands c i (rows_from r j n) → (i < n) × ((r (j + i)).cell ≡ c)
unfolding rows_from
stands_from c r j zero i h = absurd h
stands_from c r j (suc n) zero h = let place : j + 0 ≡ j = omega arith in (omega arith, ap (λ (k : ℕ). (r k).cell) place ∙ h)
stands_from c r j (suc n) (suc i) h =
    let place : j + suc i ≡ suc j + i = omega arith in
    let later = stands_from c r (suc j) n i h in
    (omega (arith, later.0), ap (λ (k : ℕ). (r k).cell) place ∙ later.1)

pub rows-stand : (w : List ℕ) (room n i : ℕ) → i < n → Stands (raw_of (cell_in w room i)) i (rows_in w room n)
unfolding rows_in row_in
rows-stand w room n i below = let place : 0 + i ≡ i = omega arith in subst (λ (k : ℕ). Stands (raw_of (cell_in w room k)) i (rows_in w room n)) place (from-stands (row_in w room) 0 n i below)

pub stand-rows : (c : ℕ) (w : List ℕ) (room n i : ℕ) → Stands c i (rows_in w room n) → (i < n) × (raw_of (cell_in w room i) ≡ c)
unfolding rows_in row_in
stand-rows c w room n i h = let place : i ≡ 0 + i = omega arith in let r = stands_from c (row_in w room) 0 n i h in (r.0, ap (λ (k : ℕ). raw_of (cell_in w room k)) place ∙ r.1)

pub relax-stands : (P : Problem) (at c g n : ℕ) (s : State) → Stands c at s.known → Holding (λ (t : State). Stands c at t.known) Unfound (relax P c g n s)
relax-stands P at c g n s h =
    relax-keeps P c g (λ (m : ℕ). Unit {0}) (λ (t : State). Stands c at t.known)
    (λ m x t estimate near i lowered room. stands-put c m (plus g (P.cost c m)) c at t.known i) n s tt h
