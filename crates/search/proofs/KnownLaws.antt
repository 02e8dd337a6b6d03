-- What is found of a cell after that cell or another one was put or closed.
use mathlib.Core.Path.{◌≡◌, refl, ap}
use mathlib.Core.Bool.{true, false}
use mathlib.Core.List.{List, [], ◌∷◌}
use mathlib.Core.Option.{Option, none, some}
use Prim.Native.Nat.{ℕ}
use lib.Dec.{eqb}
use borrow.Author.Tests.{eq-eqb, ne_eqb, eqb-true}
use Rattle.search.specs.Search.{KnownRow, find, row, put, close, is_closed, is_known, g_of, before_of}
use Rattle.general.proofs.Tests.{on_test, whether, same_or_not, contrary}

-- ---- put

pub find-put : (c g b : ℕ) (k : List KnownRow) → find c (put c g b k) ≡ some (row c g b false)
unfolding find put
find-put c g b [] = rw (eq-eqb c c refl)
find-put c g b (e ∷ es) =
    on_test (λ (l : List KnownRow). find c l ≡ some (row c g b false)) (eqb c e.cell) (row c g b false ∷ es) (e ∷ put c g b es) (λ h. rw (eq-eqb c c refl)) (λ h. rw h (find-put c g b es))

pub find-put-other : (d c g b : ℕ) (k : List KnownRow) → (d ≡ c → ⊥) → find d (put c g b k) ≡ find d k
unfolding find put
find-put-other d c g b [] o = rw (ne_eqb d c o)
find-put-other d c g b (e ∷ es) o =
    on_test (λ (l : List KnownRow). find d l ≡ find d (e ∷ es)) (eqb c e.cell) (row c g b false ∷ es) (e ∷ put c g b es)
    (λ h. let other : eqb d e.cell ≡ false = rw (← (eqb-true c e.cell h)) (ne_eqb d c o) in rw (ne_eqb d c o, other))
    (λ h. rw (find-put-other d c g b es o))

-- ---- close

abbrev shut : KnownRow → KnownRow
shut e = row e.cell e.g e.before true

abbrev shut_in : Option KnownRow → Option KnownRow
shut_in none = none
shut_in (some e) = some (shut e)

find-close : (c : ℕ) (k : List KnownRow) → find c (close c k) ≡ shut_in (find c k)
unfolding find close
find-close c [] = refl
find-close c (e ∷ es) = whether (eqb c e.cell) (λ h. rw (h, h)) (λ h. rw (h, h) (find-close c es))

pub find-close-other : (d c : ℕ) (k : List KnownRow) → (d ≡ c → ⊥) → find d (close c k) ≡ find d k
unfolding find close
find-close-other d c [] o = refl
find-close-other d c (e ∷ es) o =
    on_test (λ (l : List KnownRow). find d l ≡ find d (e ∷ es)) (eqb c e.cell) (shut e ∷ es) (e ∷ close c es)
    (λ h. let other : eqb d e.cell ≡ false = rw (← (eqb-true c e.cell h)) (ne_eqb d c o) in rw other)
    (λ h. rw (find-close-other d c es o))

-- closing a cell changes nothing that is read of a cell but whether it is closed
close-keeps : {A : Type 0} (F : Option KnownRow → A) → ((o : Option KnownRow) → F (shut_in o) ≡ F o) → (d c : ℕ) (k : List KnownRow) → F (find d (close c k)) ≡ F (find d k)
close-keeps F l d c k = same_or_not d c (λ e. rw (e, find-close) (l (find c k))) (λ e. ap F (find-close-other d c k e))

g-shut : (o : Option KnownRow) → g_of (shut_in o) ≡ g_of o
g-shut none = refl
g-shut (some e) = refl

before-shut : (o : Option KnownRow) → before_of (shut_in o) ≡ before_of o
before-shut none = refl
before-shut (some e) = refl

known-shut : (o : Option KnownRow) → is_known (shut_in o) ≡ is_known o
known-shut none = refl
known-shut (some e) = refl

closed-shut : (o : Option KnownRow) → is_closed (shut_in o) ≡ is_known o
closed-shut none = refl
closed-shut (some e) = refl

pub g-close : (d c : ℕ) (k : List KnownRow) → g_of (find d (close c k)) ≡ g_of (find d k)
g-close = close-keeps g_of g-shut

pub before-close : (d c : ℕ) (k : List KnownRow) → before_of (find d (close c k)) ≡ before_of (find d k)
before-close = close-keeps before_of before-shut

pub known-close : (d c : ℕ) (k : List KnownRow) → is_known (find d (close c k)) ≡ is_known (find d k)
known-close = close-keeps is_known known-shut

-- ---- which cells are closed

pub closed-known : (o : Option KnownRow) → is_closed o ≡ true → is_known o ≡ true
closed-known none h = contrary h refl
closed-known (some e) h = refl

pub closed-close : (d c : ℕ) (k : List KnownRow) → is_closed (find d k) ≡ true → is_closed (find d (close c k)) ≡ true
closed-close d c k h =
    same_or_not d c (λ e. rw (e, find-close, closed-shut) (closed-known (find c k) (rw e at h))) (λ e. rw (find-close-other d c k e) h)

pub closed-now : (c : ℕ) (k : List KnownRow) → is_known (find c k) ≡ true → is_closed (find c (close c k)) ≡ true
closed-now c k h = rw (find-close, closed-shut) h

-- a closed cell is not one that is not closed
pub closed-apart : (d c : ℕ) (k : List KnownRow) → is_closed (find d k) ≡ true → is_closed (find c k) ≡ false → d ≡ c → ⊥
closed-apart d c k h o e = contrary (rw e at h) o

pub known-put : (d c g b : ℕ) (k : List KnownRow) → is_known (find d k) ≡ true → is_known (find d (put c g b k)) ≡ true
known-put d c g b k h = same_or_not d c (λ e. rw (e, find-put)) (λ e. rw (find-put-other d c g b k e) h)
