-- What the bytes become when an entry is pushed or popped, whatever they hold, a heap or not: the laws of each step.
use mathlib.Core.Path.{◌≡◌, refl, ap, ◌∙◌}
use mathlib.Core.Bool.{Bool, true, false, cond}
use mathlib.Core.List.{List}
use Prim.Native.Nat.{ℕ, zero, suc, ◌+◌, ◌-◌, ◌*◌, ◌/◌, ◌≤◌, ◌<◌}
use native.Mathlib.Omega.{arith}
use lib.Dec.{ltb, eqb}
use lib.ListN.{length}
use borrow.Author.Tests.{eq-eqb, ne_eqb, lt-ltb, le-ltb}
use Rattle.words.specs.Word.{little}
use Rattle.words.proofs.Laws.{length-stored}
use Rattle.waiting.specs.declared.Entry.{Entry}
use Rattle.waiting.specs.Inner.Entries.{entry_key, entry_at, key_in, entry_stored}
use Rattle.waiting.specs.Inner.Sift.{risen_in, child_in, dug_in}

pub length-entry-stored : (l : List ℕ) (i : ℕ) (e : Entry) → length (entry_stored l i e) ≡ length l
unfolding entry_stored
length-entry-stored l i e =
    length-stored little 8 _ (32 * i + 24) e.g ∙ length-stored little 8 _ (32 * i + 16) e.cell.low ∙ length-stored little 8 _ (32 * i + 8) e.cell.high ∙ length-stored little 8 l (32 * i) e.f

-- at the top it stays
pub risen-top : (m : ℕ) (l : List ℕ) (hole : ℕ) (e : Entry) → hole ≡ 0 → risen_in m l hole e ≡ entry_stored l hole e
unfolding risen_in
risen-top zero l hole e h = refl
risen-top (suc m) l hole e h = rw (eq-eqb hole 0 h) refl

-- and where its parent is not greater
pub risen-fits : (m : ℕ) (l : List ℕ) (hole : ℕ) (e : Entry) → ltb (entry_key e) (key_in l ((hole - 1) / 4)) ≡ false → risen_in m l hole e ≡ entry_stored l hole e
unfolding risen_in
risen-fits zero l hole e h = refl
risen-fits (suc m) l hole e h = rw h (same (eqb hole 0) (entry_stored l hole e))
  where
    same : (b : Bool) (x : List ℕ) → cond b x x ≡ x
    same true x = refl
    same false x = refl

-- else it goes on from there
pub risen-on : (m : ℕ) (l : List ℕ) (hole : ℕ) (e : Entry) → 0 < hole → ltb (entry_key e) (key_in l ((hole - 1) / 4)) ≡ true
    → risen_in (suc m) l hole e ≡ risen_in m (entry_stored l hole (entry_at l ((hole - 1) / 4))) ((hole - 1) / 4) e
unfolding risen_in
risen-on m l hole e inner h =
    let inside : eqb hole 0 ≡ false = ne_eqb hole 0 (λ z. omega arith) in
    λ i. cond (inside i) (entry_stored l hole e) (cond (h i) (risen_in m (entry_stored l hole (entry_at l ((hole - 1) / 4))) ((hole - 1) / 4) e) (entry_stored l hole e))

-- in the words of a loop
pub risen-next : (m : ℕ) (l : List ℕ) (hole : ℕ) (e : Entry) → 0 < hole → hole ≤ m → ltb (entry_key e) (key_in l ((hole - 1) / 4)) ≡ true
    → risen_in m l hole e ≡ risen_in (m - 1) (entry_stored l hole (entry_at l ((hole - 1) / 4))) ((hole - 1) / 4) e
risen-next m l hole e inner enough h =
    let more : m ≡ suc (m - 1) = omega arith in
    ap (λ (k : ℕ). risen_in k l hole e) more ∙ risen-on (m - 1) l hole e inner h

-- a hole without a child stays
pub dug-end : (m : ℕ) (l : List ℕ) (size hole : ℕ) → size ≤ 4 * hole + 1 → dug_in m l size hole ≡ (l, hole)
unfolding dug_in
dug-end zero l size hole h = refl
dug-end (suc m) l size hole h = rw (le-ltb (4 * hole + 1) size h) refl

-- else the child comes up
pub dug-on : (m : ℕ) (l : List ℕ) (size hole : ℕ) → 4 * hole + 1 < size
    → dug_in (suc m) l size hole ≡ dug_in m (entry_stored l hole (entry_at l (child_in l size hole))) size (child_in l size hole)
unfolding dug_in
dug-on m l size hole h = rw (lt-ltb (4 * hole + 1) size h) refl

pub dug-next : (m : ℕ) (l : List ℕ) (size hole : ℕ) → 4 * hole + 1 < size → size - hole ≤ m
    → dug_in m l size hole ≡ dug_in (m - 1) (entry_stored l hole (entry_at l (child_in l size hole))) size (child_in l size hole)
dug-next m l size hole h enough =
    let more : m ≡ suc (m - 1) = omega arith in
    ap (λ (k : ℕ). dug_in k l size hole) more ∙ dug-on (m - 1) l size hole h
