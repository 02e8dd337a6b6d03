-- Costs as the numbers that their bits stand for, and document 01's order of waiting entries said in these numbers. `waiting_key` of Search.antt orders entries by bits: that it is the
-- same order in every state of a search is `keys-in-order` of proofs/Theorems.antt. Definitions only.
use Rattle.std.specs.Prelude.{◌≡◌, Bool, false, ◌&&◌, ◌||◌, ℕ, ◌^◌, ◌<◌, ltb, eqb}
use Rattle.std.specs.Float.{binary64}
use Rattle.std.specs.Float.Ieee.{eq, of_bits, nan_bits}
use Rattle.general.specs.Each.{Each}
use Rattle.search.specs.Search.{KnownRow, Entry, State, less}

-- the bits of a cost: no NaN and nothing negative
pub record Cost (bits : ℕ) : Type 0 where
  pub positive : bits < 2 ^ 63
  pub number : nan_bits binary64 bits ≡ false

-- the same number: IEEE 754's test for equality
unfoldable pub equal : ℕ → ℕ → Bool
unfolding eq of_bits
equal a b = eq (of_bits binary64 a) (of_bits binary64 b)

-- "equal f_score is decided by the cell, smaller raw 128-bit value first out; two entries of one cell by the g each was pushed with, smaller first out"
unfoldable pub first_out : Entry → Entry → Bool
unfolding less equal
first_out a b = less a.f b.f || (equal a.f b.f && (ltb a.cell b.cell || (eqb a.cell b.cell && less a.g b.g)))

-- ---- a state whose costs are costs

-- the g of a known cell is a cost
abbrev pub CostRow : KnownRow → Type 0
CostRow r = Cost r.g

-- f and g of a waiting entry are costs, and its cell is a number of 128 bits
pub record CostEntry (e : Entry) : Type 0 where
  pub f-cost : Cost e.f
  pub g-cost : Cost e.g
  pub cell-word : e.cell < 2 ^ 128

-- every g of a known cell and every f and g that waits is a cost
pub record CostState (s : State) : Type 0 where
  pub of-known : Each CostRow s.known
  pub of-waiting : Each CostEntry s.waiting
