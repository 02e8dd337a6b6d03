-- How many cells are known and how many of them are closed, after a cell was put or closed.
use mathlib.Core.Path.{◌≡◌, refl, ap}
use mathlib.Core.Bool.{true, false, ◌||◌}
use mathlib.Core.List.{List, [], ◌∷◌}
use Prim.Native.Nat.{ℕ, suc, ◌≤◌}
use native.Mathlib.Omega.{arith}
use lib.Dec.{eqb, ltb}
use lib.ListN.{length}
use borrow.Author.Tests.{ltb-true}
use Rattle.search.specs.Search.{KnownRow, find, row, put, close, is_closed, is_known}
use Rattle.general.proofs.Tests.{on_test, whether, contrary}
use Rattle.search.specs.Inner.Counted.{closed_in}

pub length-put-known : (c g b : ℕ) (k : List KnownRow) → is_known (find c k) ≡ true → length (put c g b k) ≡ length k
unfolding find put
length-put-known c g b [] h = contrary h refl
length-put-known c g b (e ∷ es) h = whether (eqb c e.cell) (λ q. rw q) (λ q. rw q (ap suc (length-put-known c g b es (rw q at h))))

pub length-put-new : (c g b : ℕ) (k : List KnownRow) → is_known (find c k) ≡ false → length (put c g b k) ≡ suc (length k)
unfolding find put
length-put-new c g b [] h = refl
length-put-new c g b (e ∷ es) h = whether (eqb c e.cell) (λ q. contrary refl (rw q at h)) (λ q. rw q (ap suc (length-put-new c g b es (rw q at h))))

-- a cell that is known, or for which there is room, fits
pub length-put : (c g b : ℕ) (k : List KnownRow) (room : ℕ) → length k ≤ room → (is_known (find c k) || ltb (length k) room) ≡ true → length (put c g b k) ≤ room
length-put c g b k room l h =
    whether (is_known (find c k))
    (λ q. omega (arith, length-put-known c g b k q))
    (λ q. omega (arith, length-put-new c g b k q, ltb-true (length k) room (rw q at h)))

pub length-close : (c : ℕ) (k : List KnownRow) → length (close c k) ≡ length k
unfolding close
length-close c [] = refl
length-close c (e ∷ es) =
    on_test (λ (l : List KnownRow). length l ≡ suc (length es)) (eqb c e.cell) (row e.cell e.g e.before true ∷ es) (e ∷ close c es) (λ h. refl) (λ h. ap suc (length-close c es))

pub closed-at-most : (k : List KnownRow) → closed_in k ≤ length k
unfolding closed_in
closed-at-most [] = omega arith
closed-at-most (e ∷ es) =
    let h = closed-at-most es in
    on_test (λ (n : ℕ). n ≤ suc (length es)) e.closed (suc (closed_in es)) (closed_in es) (λ q. omega arith) (λ q. omega arith)

-- a cell that is put is not closed
pub closed-put : (c g b : ℕ) (k : List KnownRow) → is_closed (find c k) ≡ false → closed_in (put c g b k) ≡ closed_in k
unfolding closed_in find put
closed-put c g b [] o = refl
closed-put c g b (e ∷ es) o =
    whether (eqb c e.cell)
    (λ h. let unclosed : e.closed ≡ false = rw h at o in rw (h, unclosed))
    (λ h. rw (h, closed-put c g b es (rw h at o)))

-- a cell that is closed is one more
pub closed-close : (c : ℕ) (k : List KnownRow) → is_known (find c k) ≡ true → is_closed (find c k) ≡ false → closed_in (close c k) ≡ suc (closed_in k)
unfolding closed_in find close
closed-close c [] n o = contrary n refl
closed-close c (e ∷ es) n o =
    whether (eqb c e.cell)
    (λ h. let unclosed : e.closed ≡ false = rw h at o in rw (h, unclosed))
    (λ h. rw (h, closed-close c es (rw h at n) (rw h at o)) (whether e.closed (λ q. rw q) (λ q. rw q)))
