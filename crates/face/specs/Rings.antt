-- Rings for C: a ring and a shell are the definition of `ring`, told. Where the call refuses, the count is 0. Definitions only.
use Rattle.std.specs.Prelude.{List, ℕ}
use Rattle.ring.specs.Ring.{Ringed}
use Rattle.face.specs.declared.CountTold.{CountTold}
use Rattle.face.specs.Layers.{of_count}

-- what C is told, and what stands in the two lent buffers when the call returns
pub record RingTold : Type 0 where
  pub told : CountTold
  pub workspace : List ℕ
  pub output : List ℕ

-- this told, with these bytes in the two buffers
abbrev pub ring_told : CountTold → List ℕ → List ℕ → RingTold
ring_told t w l = record { told = t; workspace = w; output = l }

-- what a ring or a shell says, told
abbrev pub of_ring : Ringed → RingTold
of_ring g = ring_told (of_count 0 g.said) g.workspace g.output
