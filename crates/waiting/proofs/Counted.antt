-- Two ascending lists that have each key as often are one list: so it is enough to count the keys of a heap before and after.
use mathlib.Core.Path.{◌≡◌, refl, sym, ap, ap₂, ◌∙◌}
use mathlib.Core.Logic.{◌≢◌}
use mathlib.Core.List.{List, [], ◌∷◌}
use Prim.Native.Nat.{ℕ, zero, suc, ◌+◌, ◌≤◌, ◌<◌}
use native.Mathlib.Omega.{arith}
use borrow.Author.Tests.{eq-eqb, ne_eqb, le-leb, lt-leb}
use Rattle.waiting.proofs.Heap.{single, count}
use Rattle.waiting.specs.Inner.Sorted.{insert_key, ascending_keys}
use Rattle.waiting.proofs.Cases.{by_less, by_equal}

-- x is at most each of the list
abbrev AtMost : ℕ → List ℕ → Type 0
AtMost x [] = Unit
AtMost x (z ∷ q) = (x ≤ z) × AtMost x q

abbrev Ascends : List ℕ → Type 0
Ascends [] = Unit
Ascends (x ∷ q) = AtMost x q × Ascends q

-- how many of the list are y
abbrev count_in : List ℕ → ℕ → ℕ
count_in [] y = 0
count_in (x ∷ q) y = count_in q y + single x y

single-same : (x : ℕ) → single x x ≡ 1
unfolding single
single-same x = rw (eq-eqb x x refl)

single-other : (x y : ℕ) → x ≢ y → single x y ≡ 0
unfolding single
single-other x y h = rw (ne_eqb x y h)

none : 0 < 0 → ⊥
none h = omega arith

-- ---- one list

counted-above : (x y : ℕ) (q : List ℕ) → AtMost x q → 0 < count_in q y → x ≤ y
counted-above x y [] a h = absurd (none h)
counted-above x y (z ∷ q) a h =
    by_equal z y
    (λ e. omega (arith, a.0))
    (λ ne. let other = single-other z y ne in counted-above x y q a.1 (omega arith))

first-at-most : (x y : ℕ) (p q : List ℕ) → Ascends (x ∷ p) → ((v : ℕ) → count_in (x ∷ p) v ≡ count_in (y ∷ q) v) → x ≤ y
first-at-most x y p q s e =
    by_equal x y
    (λ same. omega arith)
    (λ ne.
    let both = e y in
    let one = single-same y in
    let other = single-other x y ne in
    counted-above x y p s.0 (omega arith))

one_list : (p q : List ℕ) → Ascends p → Ascends q → ((v : ℕ) → count_in p v ≡ count_in q v) → p ≡ q
one_list [] [] sp sq e = refl
one_list [] (y ∷ q) sp sq e = let both = e y in let one = single-same y in absurd (omega arith)
one_list (x ∷ p) [] sp sq e = let both = e x in let one = single-same x in absurd (omega arith)
one_list (x ∷ p) (y ∷ q) sp sq e =
    let up = first-at-most x y p q sp e in
    let down = first-at-most y x q p sq (λ v. sym (e v)) in
    let same : x ≡ y = omega arith in
    let rest = one_list p q sp.1 sq.1 (λ v. let both = e v in let one : single x v ≡ single y v = ap (λ (t : ℕ). single t v) same in omega arith) in
    ap₂ ◌∷◌ same rest

-- ---- a key put in its place

at-most-inserted : (x y : ℕ) (q : List ℕ) → x ≤ y → AtMost x q → AtMost x (insert_key y q)
unfolding insert_key
at-most-inserted x y [] h a = (h, tt)
at-most-inserted x y (z ∷ q) h a =
    by_less z y
    (λ lt. rw (lt-leb y z lt) (a.0, at-most-inserted x y q h a.1))
    (λ le. rw (le-leb y z le) (h, a))

at-most-less : (x y : ℕ) (q : List ℕ) → x ≤ y → AtMost y q → AtMost x q
at-most-less x y [] h a = tt
at-most-less x y (z ∷ q) h a = (omega (arith, a.0), at-most-less x y q h a.1)

inserted-ascends : (y : ℕ) (q : List ℕ) → Ascends q → Ascends (insert_key y q)
unfolding insert_key
inserted-ascends y [] s = (tt, tt)
inserted-ascends y (z ∷ q) s =
    by_less z y
    (λ lt. rw (lt-leb y z lt) (at-most-inserted z y q (omega arith) s.0, inserted-ascends y q s.1))
    (λ le. rw (le-leb y z le) ((le, at-most-less y z q le s.0), s))

count-inserted : (y : ℕ) (q : List ℕ) (v : ℕ) → count_in (insert_key y q) v ≡ count_in q v + single y v
unfolding insert_key
count-inserted y [] v = refl
count-inserted y (z ∷ q) v =
    by_less z y
    (λ lt. rw (lt-leb y z lt) (let rest = count-inserted y q v in omega arith))
    (λ le. rw (le-leb y z le) refl)

-- ---- the keys of a heap

module _ (key : ℕ → ℕ) where
  ascending-ascends : (n : ℕ) → Ascends (ascending_keys key n)
  unfolding ascending_keys
  ascending-ascends zero = tt
  ascending-ascends (suc n) = inserted-ascends (key n) (ascending_keys key n) (ascending-ascends n)

  count-ascending : (n v : ℕ) → count_in (ascending_keys key n) v ≡ count key n v
  unfolding ascending_keys
  count-ascending zero v = refl
  count-ascending (suc n) v = count-inserted (key n) (ascending_keys key n) v ∙ ap (λ (t : ℕ). t + single (key n) v) (count-ascending n v)

  -- a key that is counted stands somewhere
  somewhere : (n y : ℕ) → 0 < count key n y → (i : ℕ) × ((i < n) × (key i ≡ y))
  somewhere zero y h = absurd (none h)
  somewhere (suc n) y h =
      by_equal (key n) y
      (λ q. (n, (omega arith, q)))
      (λ ne.
      let other = single-other (key n) y ne in
      let place = somewhere n y (omega arith) in
      (place.0, (omega (arith, place.1.0), place.1.1)))

counted-at-most : (x : ℕ) (q : List ℕ) → ((v : ℕ) → 0 < count_in q v → x ≤ v) → AtMost x q
counted-at-most x [] h = tt
counted-at-most x (z ∷ q) h = ((let one = single-same z in h z (omega arith)), counted-at-most x q (λ v pos. h v (omega arith)))

module _ (key after : ℕ → ℕ) (n m x : ℕ) where
  -- with one key more, it is put in its place
  pub one-more-ascending : ((v : ℕ) → count after m v ≡ count key n v + single x v) → ascending_keys after m ≡ insert_key x (ascending_keys key n)
  one-more-ascending has =
      one_list (ascending_keys after m) (insert_key x (ascending_keys key n)) (ascending-ascends after m) (inserted-ascends x (ascending_keys key n) (ascending-ascends key n))
      (λ v. count-ascending after m v ∙ has v ∙ ap (λ (t : ℕ). t + single x v) (sym (count-ascending key n v)) ∙ sym (count-inserted x (ascending_keys key n) v))

  -- without the least key, the rest is left
  pub least-ascending : ((v : ℕ) → count key n v ≡ count after m v + single x v) → ((j : ℕ) → j < n → x ≤ key j) → ascending_keys key n ≡ x ∷ ascending_keys after m
  least-ascending has least =
      let first : AtMost x (ascending_keys after m) =
      counted-at-most x (ascending_keys after m)
      (λ v pos.
      let both = has v in
      let rest = count-ascending after m v in
      let place = somewhere key n v (omega arith) in
      let h = least place.0 place.1.0 in
      omega (arith, place.1.1)) in
      one_list (ascending_keys key n) (x ∷ ascending_keys after m) (ascending-ascends key n) (first, ascending-ascends after m)
      (λ v. count-ascending key n v ∙ has v ∙ ap (λ (t : ℕ). t + single x v) (sym (count-ascending after m v)))
