-- What the functions between two pops ask of their callers: lengths, bounds and costs, never what the bytes hold. Definitions only.
use Rattle.std.specs.Prelude.{◌≡◌, true, false, List, ℕ, ◌<◌}
use Rattle.table.specs.Records.{is_sound, flag_width}
use Rattle.search.specs.Costs.{Cost}
use Rattle.expansion.specs.declared.Plan.{Plan}
use Rattle.expansion.specs.declared.Sizes.{Sizes}
use Rattle.expansion.specs.Inner.Bytes.{Fits, paused_in}

-- a known cell, that of record `at`, is left at the cost g, in buffers that the sizes fit and a flag layer that is sound
pub record Entered (p : Plan) (w h : List ℕ) (z : Sizes) (flags : List ℕ) (n at g : ℕ) : Type 0 where
  pub fits : Fits p w h z
  pub sound : is_sound flag_width flags n ≡ true
  pub cost : Cost g
  pub row : at < z.known

-- the same, and the cell that it is left for is known as well, in record i
pub record EnteredTo (p : Plan) (w h : List ℕ) (z : Sizes) (flags : List ℕ) (n at i g : ℕ) : Type 0 where
  pub fits : Fits p w h z
  pub sound : is_sound flag_width flags n ≡ true
  pub cost : Cost g
  pub row : at < z.known
  pub target : i < z.known

-- a way of cost g from the cell of record `at` to that of record i: both are known
pub record ToKnown (p : Plan) (w h : List ℕ) (z : Sizes) (at i g : ℕ) : Type 0 where
  pub fits : Fits p w h z
  pub cost : Cost g
  pub row : at < z.known
  pub target : i < z.known

-- a way of cost g from the cell of record `at`, which is known, to one more cell: there is room to know it
pub record ToNew (p : Plan) (w h : List ℕ) (z : Sizes) (at g : ℕ) : Type 0 where
  pub fits : Fits p w h z
  pub cost : Cost g
  pub row : at < z.known
  pub room : z.known < p.known

-- a search that is not paused yet, in buffers that the sizes fit and a flag layer that is sound
pub record Unpaused (p : Plan) (w h : List ℕ) (z : Sizes) (flags : List ℕ) (n until : ℕ) : Type 0 where
  pub fits : Fits p w h z
  pub sound : is_sound flag_width flags n ≡ true
  pub goes : paused_in p until w h z ≡ false
