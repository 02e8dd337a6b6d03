-- What `ring` says and leaves, told.
use Rattle.std.specs.Prelude.{Result}
use Rattle.refusal.specs.declared.Refusal.{Refusal}
use mathlib.Core.Path.{◌≡◌, ap, ◌∙◌}
use mathlib.Core.List.{List}
use Prim.Native.Nat.{ℕ}
use Rattle.ring.specs.Ring.{Ringed, ringed}
use Rattle.face.specs.declared.CountTold.{CountTold}
use Rattle.face.specs.Layers.{of_count}
use Rattle.face.specs.Rings.{ring_told, of_ring}

pub ring-said : {a : Result ℕ Refusal} {t : CountTold} {w l : List ℕ} {g : Ringed} → ringed a w l ≡ g → t ≡ of_count 0 a → ring_told t w l ≡ of_ring g
ring-said {w = w} {l = l} e told = ap (λ (t : CountTold). ring_told t w l) told ∙ ap of_ring e
