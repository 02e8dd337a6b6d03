-- A hole that goes up or down in a heap, and is filled.
use mathlib.Core.Path.{◌≡◌, refl, ap, ap₂, ◌∙◌}
use mathlib.Core.Logic.{◌≢◌}
use Prim.Native.Nat.{ℕ, zero, suc, ◌+◌, ◌-◌, ◌*◌, ◌/◌, ◌≤◌, ◌<◌}
use native.Mathlib.Omega.{arith}
use native.Mathlib.Numerals.{add-one}
use Rattle.waiting.specs.Inner.Heap.{Heap}
use Rattle.waiting.proofs.Heap.{Hole, Below, Above, Replaced, single, count, Moved}
use Rattle.waiting.proofs.Steps.{LeastChild}
use Rattle.waiting.proofs.Cases.{by_less, by_equal}

-- ---- how often a key stands there

same_count : (key after : ℕ → ℕ) (n y : ℕ) → ((j : ℕ) → j < n → after j ≡ key j) → count after n y ≡ count key n y
same_count key after zero y e = refl
same_count key after (suc n) y e =
    ap₂ ◌+◌ (same_count key after n y (λ j h. e j (omega arith))) (ap (λ (x : ℕ). single x y) (e n (omega arith)))

nowhere : {i : ℕ} → i < 0 → ⊥
nowhere h = omega arith

count-replaced : (key after : ℕ → ℕ) (n i x y : ℕ) → Replaced key after i x → i < n → count after n y + single (key i) y ≡ count key n y + single x y
count-replaced key after zero i x y u h = absurd (nowhere h)
count-replaced key after (suc n) i x y u h =
    by_equal n i
    (λ q.
    let rest = same_count key after n y (λ j hj. u.others j (omega arith)) in
    let new : single (after n) y ≡ single x y = ap (λ (k : ℕ). single k y) (ap after q ∙ u.new) in
    let old : single (key n) y ≡ single (key i) y = ap (λ (k : ℕ). single (key k) y) q in
    omega arith)
    (λ ne.
    let rest = count-replaced key after n i x y u (omega arith) in
    let last : single (after n) y ≡ single (key n) y = ap (λ (k : ℕ). single k y) (u.others n ne) in
    omega arith)

-- the key at c goes to the hole at i, and the hole to c
pub moved_on : (start key after : ℕ → ℕ) (n a i c : ℕ) → Moved start key n a i → Replaced key after i (key c) → c ≢ i → i < n → Moved start after n a c
moved_on start key after n a i c m u ne h y =
    let now = count-replaced key after n i (key c) y u h in
    let then = m y in
    let there : single (after c) y ≡ single (key c) y = ap (λ (k : ℕ). single k y) (u.others c ne) in
    omega arith

-- x fills the hole
pub moved-end : (start key after : ℕ → ℕ) (n a i x : ℕ) → Moved start key n a i → Replaced key after i x → i < n → (y : ℕ) → count after n y + single (start a) y ≡ count start n y + single x y
moved-end start key after n a i x m u h y =
    let now = count-replaced key after n i x y u h in
    let then = m y in
    omega arith

pub count-one-more : (key : ℕ → ℕ) (n y : ℕ) → count key (n + 1) y ≡ count key n y + single (key n) y
count-one-more key n y = rw add-one

-- ---- the order

pub filled : (key after : ℕ → ℕ) (n i x : ℕ) → Hole key n i → Below key n i x → Above key i x → Replaced key after i x → Heap after n
filled key after n i x t below above u =
    record {
      order = λ j pos lt.
          by_equal j i
          (λ q. rw (q, u.new, u.others ((i - 1) / 4) (omega arith)) (above (omega arith)))
          (λ ne.
          by_equal ((j - 1) / 4) i
          (λ q. rw (q, u.new, u.others j ne) (below j pos lt q))
          (λ apart. rw (u.others j ne, u.others ((j - 1) / 4) apart) (t.order j pos lt ne apart)));
    }

module _ (key after : ℕ → ℕ) (n i : ℕ) (t : Hole key n i) where
  -- the parent comes down into the hole
  module _ (inner : 0 < i) (within : i < n) (u : Replaced key after i (key ((i - 1) / 4))) where
    pub hole-up : Hole after n ((i - 1) / 4)
    hole-up =
        record {
          order = λ j pos lt ne apart.
              by_equal ((j - 1) / 4) i
              (λ q. rw (q, u.new, u.others j (omega arith)) (t.across j pos lt q inner))
              (λ other. by_equal j i (λ q. absurd (apart (ap (λ (x : ℕ). (x - 1) / 4) q))) (λ differs. rw (u.others j differs, u.others ((j - 1) / 4) other) (t.order j pos lt differs other)));
          across = λ j pos lt q inner-parent.
              let above : key (((i - 1) / 4 - 1) / 4) ≤ key ((i - 1) / 4) = t.order ((i - 1) / 4) inner-parent (omega arith) (omega arith) (omega arith) in
              rw (u.others (((i - 1) / 4 - 1) / 4) (omega arith))
              (by_equal j i
              (λ same. rw (same, u.new) above)
              (λ ne.
              let ordered : key ((j - 1) / 4) ≤ key j = t.order j pos lt ne (omega arith) in
              let beside : key ((i - 1) / 4) ≤ key j = rw q at ordered in
              rw (u.others j ne) (omega arith)));
        }

    pub below_up : (x : ℕ) → x < key ((i - 1) / 4) → Below after n ((i - 1) / 4) x
    below_up x less j pos lt q =
        by_equal j i
        (λ same. rw (same, u.new) (omega arith))
        (λ ne.
        let ordered : key ((j - 1) / 4) ≤ key j = t.order j pos lt ne (omega arith) in
        let beside : key ((i - 1) / 4) ≤ key j = rw q at ordered in
        rw (u.others j ne) (omega arith))

  -- the least child comes up into the hole
  pub hole-down : (c : ℕ) → LeastChild key n i c → Replaced key after i (key c) → Hole after n c
  hole-down c child u =
      record {
        order = λ j pos lt ne apart.
            by_equal j i
            (λ same. rw (same, u.new, u.others ((i - 1) / 4) (omega arith)) (t.across c (omega (arith, child.from)) child.within (omega (arith, child.from, child.to)) (omega arith)))
            (λ other.
            by_equal ((j - 1) / 4) i
            (λ q. rw (q, u.new, u.others j other) (child.least j pos lt q))
            (λ differs. rw (u.others j other, u.others ((j - 1) / 4) differs) (t.order j pos lt other differs)));
        across = λ j pos lt q inner.
            let parent : (c - 1) / 4 ≡ i = omega (arith, child.from, child.to) in
            let low = child.from in
            let ordered : key ((j - 1) / 4) ≤ key j = t.order j pos lt (omega arith) (omega arith) in
            let beside : key c ≤ key j = rw q at ordered in
            rw (parent, u.new, u.others j (omega arith)) beside;
      }

-- ---- the ends of the heap

pub hole-last : (key : ℕ → ℕ) (n : ℕ) → Heap key n → Hole key (n + 1) n
hole-last key n t = record { order = λ j pos lt ne apart. t.order j pos (omega arith); across = λ j pos lt q inner. absurd (no-child q pos lt) }
  where
    no-child : {j n : ℕ} → (j - 1) / 4 ≡ n → 0 < j → j < n + 1 → ⊥
    no-child q pos lt = omega arith

pub hole-first : (key : ℕ → ℕ) (n m : ℕ) → Heap key n → m ≤ n → Hole key m 0
hole-first key n m t h = record { order = λ j pos lt ne apart. t.order j pos (omega arith); across = λ j pos lt q inner. absurd (nowhere inner) }

pub below-childless : (key : ℕ → ℕ) (n i x : ℕ) → n ≤ 4 * i + 1 → Below key n i x
below-childless key n i x h j pos lt q = absurd (no-child h pos lt q)
  where
    no-child : {n i j : ℕ} → n ≤ 4 * i + 1 → 0 < j → j < n → (j - 1) / 4 ≡ i → ⊥
    no-child h pos lt q = omega arith

pub fewer : (key : ℕ → ℕ) (n m : ℕ) → Heap key n → m ≤ n → Heap key m
fewer key n m t h = record { order = λ j pos lt. t.order j pos (omega arith) }

-- the root has the least key: from any place the parents lead to it, in d steps at most
root-within : (key : ℕ → ℕ) (n d i : ℕ) → Heap key n → i ≤ d → i < n → key 0 ≤ key i
root-within key n zero i t h lt = let root : i ≡ 0 = omega arith in rw root (omega arith)
root-within key n (suc d) i t h lt =
    by_less 0 i
    (λ pos.
    let parent = root-within key n d ((i - 1) / 4) t (omega arith) (omega arith) in
    let ordered = t.order i pos lt in
    omega arith)
    (λ none. let root : i ≡ 0 = omega arith in rw root (omega arith))

pub root-least : (key : ℕ → ℕ) (n i : ℕ) → Heap key n → i < n → key 0 ≤ key i
root-least key n i t lt = root-within key n i i t (omega arith) lt
