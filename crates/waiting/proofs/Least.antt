-- The first of the least keys among places that stand together: of one, of two runs of places, of four, of the few children that the last parent has.
use mathlib.Core.Path.{◌≡◌, refl, sym, ap, subst, ◌∙◌}
use mathlib.Core.Bool.{Bool, true, false, cond}
use mathlib.Core.List.{List}
use Prim.Native.Nat.{ℕ, zero, suc, ◌+◌, ◌-◌, ◌*◌, ◌≤◌, ◌<◌}
use native.Mathlib.Omega.{arith}
use lib.Dec.{ltb}
use mir.Val.{bool_byte}
use borrow.Author.Tests.{ltb-true, ltb-false, lt-ltb, le-ltb}
use Rattle.waiting.specs.Inner.Entries.{key_in}
use Rattle.waiting.proofs.Steps.{LeastChild}
use Rattle.waiting.specs.Inner.Sift.{first_least, child_in}
use Rattle.waiting.proofs.Cases.{by_less, by_equal}

-- of the places from a up to j, c is the first that has the least key
pub record FirstOf (key : ℕ → ℕ) (a j c : ℕ) : Type 0 where
  pub from : a ≤ c
  pub to : c < j
  pub least : (t : ℕ) → a ≤ t → t < j → key c ≤ key t
  pub first : (t : ℕ) → a ≤ t → t < c → key c < key t

module _ (key : ℕ → ℕ) where
  pub first-of-one : (a : ℕ) → FirstOf key a (a + 1) a
  first-of-one a =
      record { from = omega arith; to = omega arith; least = λ t after before. let q : t ≡ a = omega arith in rw q (omega arith); first = λ t after before. absurd (omega arith) }

  -- there is but one
  pub one-first : (a j b c : ℕ) → FirstOf key a j b → FirstOf key a j c → b ≡ c
  one-first a j b c u v =
      by_equal b c (λ q. q)
      (λ ne.
      by_less b c
      (λ h. let more = v.first b u.from h in let less = u.least c v.from v.to in absurd (omega arith))
      (λ h. let more = u.first c v.from (omega arith) in let less = v.least b u.from u.to in absurd (omega arith)))

  -- of two runs, one behind the other
  module _ (a m j b c : ℕ) (u : FirstOf key a m b) (v : FirstOf key m j c) where
    pub second-less : key c < key b → FirstOf key a j c
    second-less h =
        record {
          from = omega (arith, u.from, u.to, v.from);
          to = v.to;
          least = λ t after before. by_less t m (λ early. let g = u.least t after early in omega arith) (λ late. v.least t late before);
          first = λ t after before. by_less t m (λ early. let g = u.least t after early in omega arith) (λ late. v.first t late before);
        }

    pub second-not-less : key b ≤ key c → FirstOf key a j b
    second-not-less h =
        record {
          from = u.from;
          to = omega (arith, u.to, v.from, v.to);
          least = λ t after before. by_less t m (λ early. u.least t after early) (λ late. let g = v.least t late before in omega arith);
          first = u.first;
        }

    pub joined : (t : Bool) → ltb (key c) (key b) ≡ t → FirstOf key a j (cond t c b)
    joined true e = second-less (ltb-true _ _ e)
    joined false e = second-not-less (ltb-false _ _ e)

  pub first-least : (a n : ℕ) → FirstOf key a (a + suc n) (first_least key a n)
  unfolding first_least
  first-least a zero = first-of-one a
  first-least a (suc n) =
      let end : a + suc n + 1 ≡ a + suc (suc n) = omega arith in
      let last : FirstOf key (a + suc n) (a + suc (suc n)) (a + suc n) = subst (λ (j : ℕ). FirstOf key (a + suc n) j (a + suc n)) end (first-of-one (a + suc n)) in
      joined a (a + suc n) (a + suc (suc n)) (first_least key a n) (a + suc n) (first-least a n) last (ltb (key (a + suc n)) (key (first_least key a n))) refl

  -- a test is 0 or 1
  pub lesser-of-two : (a : ℕ) (t : Bool) → t ≡ ltb (key (a + 1)) (key a) → a + bool_byte t ≡ first_least key a 1
  unfolding first_least
  lesser-of-two a true e = sym (ap (λ (t : Bool). cond t (a + 1) a) (sym e))
  lesser-of-two a false e = let here : a + 0 ≡ a = omega arith in here ∙ sym (ap (λ (t : Bool). cond t (a + 1) a) (sym e))

  module _ (a b c : ℕ) (u : b ≡ first_least key a 1) (v : c ≡ first_least key (a + 2) 1) where
    first_two : FirstOf key a (a + 2) b
    first_two = subst (FirstOf key a (a + 2)) (sym u) (first-least a 1)

    last-two : FirstOf key (a + 2) (a + 4) c
    last-two =
        let end : a + 2 + 2 ≡ a + 4 = omega arith in
        subst (λ (j : ℕ). FirstOf key (a + 2) j c) end (subst (FirstOf key (a + 2) (a + 2 + 2)) (sym v) (first-least (a + 2) 1))

    by-test : (t : Bool) → t ≡ ltb (key c) (key b) → FirstOf key a (a + 4) (b + (c - b) * bool_byte t)
    by-test true e =
        let there : b + (c - b) * 1 ≡ c = omega (arith, first_two.to, last-two.from) in
        rw there (second-less a (a + 2) (a + 4) b c first_two last-two (ltb-true _ _ (sym e)))
    by-test false e =
        let here : b + (c - b) * 0 ≡ b = omega arith in
        rw here (second-not-less a (a + 2) (a + 4) b c first_two last-two (ltb-false _ _ (sym e)))

    pub least-of-four : (t : Bool) → t ≡ ltb (key c) (key b) → b + (c - b) * bool_byte t ≡ first_least key a 3
    least-of-four t e = one-first a (a + 4) _ _ (by-test t e) (first-least a 3)

  pub one-alone : (a n : ℕ) → n ≡ 0 → first_least key a n ≡ a
  unfolding first_least
  one-alone a n e = rw e

  pub least-to : (a n : ℕ) → first_least key a n ≤ a + n
  least-to a n = omega (arith, (first-least a n).to)

  -- one place more
  pub next-least : (a j : ℕ) → a < j → first_least key a (j + 1 - (a + 1)) ≡ cond (ltb (key j) (key (first_least key a (j - (a + 1))))) j (first_least key a (j - (a + 1)))
  unfolding first_least
  next-least a j h =
      let more : j + 1 - (a + 1) ≡ suc (j - (a + 1)) = omega arith in
      let there : a + suc (j - (a + 1)) ≡ j = omega arith in
      rw (more, there)

  children : (size i n : ℕ) → 4 * i + 1 + n < size → n ≤ 3 → ((j : ℕ) → j < size → j ≤ 4 * i + 4 → j ≤ 4 * i + 1 + n) → LeastChild key size i (first_least key (4 * i + 1) n)
  children size i n room few all =
      let f = first-least (4 * i + 1) n in
      record {
        from = f.from;
        to = omega (arith, f.to);
        within = omega (arith, f.to);
        least = λ j after within q. let last = all j within (omega arith) in f.least j (omega arith) (omega arith);
      }

-- of four children, and of fewer
pub four-children : (l : List ℕ) (size i : ℕ) → 4 * i + 4 < size → child_in l size i ≡ first_least (key_in l) (4 * i + 1) 3
unfolding child_in
four-children l size i h = rw (lt-ltb (4 * i + 4) size h) refl

pub few-children : (l : List ℕ) (size i : ℕ) → size ≤ 4 * i + 4 → child_in l size i ≡ first_least (key_in l) (4 * i + 1) (size - (4 * i + 2))
unfolding child_in
few-children l size i h = rw (le-ltb (4 * i + 4) size h) refl

pub least-child : (l : List ℕ) (size i : ℕ) → 4 * i + 1 < size → LeastChild (key_in l) size i (child_in l size i)
least-child l size i some =
    by_less (4 * i + 4) size
    (λ h. subst (LeastChild (key_in l) size i) (sym (four-children l size i h)) (children (key_in l) size i 3 (omega arith) (omega arith) (λ j within last. omega arith)))
    (λ h. subst (LeastChild (key_in l) size i) (sym (few-children l size i h)) (children (key_in l) size i (size - (4 * i + 2)) (omega arith) (omega arith) (λ j within last. omega arith)))
