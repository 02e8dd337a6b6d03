-- Cells are compared word by word, the higher first: that is the order of their 128 bits as one number.
use Rattle.std.proofs.Common.{◌≡◌, ℕ, ◌+◌, ◌*◌, ◌^◌, ◌<◌, Bool, true, false, cond, ◌&&◌, Some, refl, sym, eqb, ltb, arith}
use Rattle.std.specs.declared.cmp.Ordering.{Ordering}
use Rattle.std.specs.declared.cmp.Ordering.TheVariants.{Less, Equal, Greater}
use Rattle.std.specs.Ordering.{nat_cmp, ordering_then, partial_ordering_then, is_lt, is_some_and, MatchOrdering}
use Rattle.std.specs.Cmp.{ranks}
use borrow.Author.Tests.{lt-ltb, le-ltb, eq-eqb, ne_eqb, eqb-true, eqb-false}

-- a and b are the words of one cell, c and d those of the other
module _ (a b c d : ℕ) (first : b < 2 ^ 64) (second : d < 2 ^ 64) where
  abbrev n : ℕ
  n = a * 2 ^ 64 + b

  abbrev m : ℕ
  m = c * 2 ^ 64 + d

  same-by : (t u : Bool) → eqb a c ≡ t → eqb b d ≡ u → (t && u) ≡ eqb n m
  same-by true true e f = sym (eq-eqb n m (omega (arith, eqb-true a c e, eqb-true b d f)))
  same-by true false e f = sym (ne_eqb n m (λ h. eqb-false b d f (omega (arith, eqb-true a c e))))
  same-by false u e f = sym (ne_eqb n m (λ h. eqb-false a c e (omega arith)))

  -- equal words are equal numbers
  pub same-words : (eqb a c && eqb b d) ≡ eqb n m
  same-words = same-by (eqb a c) (eqb b d) refl refl

  abbrev ordered : Ordering
  ordered = cond (ltb n m) Less (cond (eqb n m) Equal Greater)

  below : n < m → Less ≡ ordered
  below h = rw (lt-ltb n m h)

  equal : n ≡ m → Equal ≡ ordered
  equal h = rw (le-ltb n m (omega arith), eq-eqb n m h)

  above : m < n → Greater ≡ ordered
  above h = rw (le-ltb n m (omega arith), ne_eqb n m (λ e. omega arith))

  order-by : (r s : Ordering) → MatchOrdering r (a < c) (a ≡ c) (c < a) → MatchOrdering s (b < d) (b ≡ d) (d < b) → ordering_then r s ≡ ordered
  order-by Less s e f = below (omega arith)
  order-by Greater s e f = above (omega arith)
  order-by Equal Less e f = below (omega arith)
  order-by Equal Equal e f = equal (omega arith)
  order-by Equal Greater e f = above (omega arith)

  -- the order of the words is that of the numbers
  pub order-words : ordering_then (nat_cmp a c) (nat_cmp b d) ≡ ordered
  order-words = order-by (nat_cmp a c) (nat_cmp b d) (ranks a c) (ranks b d)

  less-by : (r s : Ordering) → MatchOrdering r (a < c) (a ≡ c) (c < a) → MatchOrdering s (b < d) (b ≡ d) (d < b)
      → is_some_and is_lt (partial_ordering_then (Some r) (Some s)) ≡ ltb n m
  less-by Less s e f = sym (lt-ltb n m (omega arith))
  less-by Greater s e f = sym (le-ltb n m (omega arith))
  less-by Equal Less e f = sym (lt-ltb n m (omega arith))
  less-by Equal Equal e f = sym (le-ltb n m (omega arith))
  less-by Equal Greater e f = sym (le-ltb n m (omega arith))

  -- and so is which of them is below
  pub less-words : is_some_and is_lt (partial_ordering_then (Some (nat_cmp a c)) (Some (nat_cmp b d))) ≡ ltb n m
  less-words = less-by (nat_cmp a c) (nat_cmp b d) (ranks a c) (ranks b d)
