-- After any history get answers what the last step that touched the cell left of it: "after any sequence of sets, removes, clears, loads and rollups into it, refused ones among them, from a sound
-- layer, get answers what the last unrefused set or remove of that cell, clear, load or rollup left." The one induction over the steps is `history-keeps`.
use mathlib.Core.Path.{◌≡◌, refl, ap, ◌∙◌}
use mathlib.Core.List.{List, [], ◌∷◌}
use Prim.Native.Nat.{ℕ}
use Rattle.std.specs.Prelude.{Option, Ok}
use Rattle.refusal.specs.declared.Cell.{Cell}
use Rattle.cell.specs.Bytes.{from_bytes_of}
use Rattle.table.specs.Records.{rows_of, held_of, Layer}
use Rattle.layer.specs.Calls.{held_in}
use Rattle.layer.proofs.Holding.{get-of-rows}
use Rattle.history.specs.History.{Kind, width_of, Step, OfBytes, AllOfBytes, no_steps, one-step, IsLayer, after, after_all, left, left_then, along, last_left}
use Rattle.history.proofs.Steps.{Shows, step-shows}

-- what each step keeps of a layer and of what is told along the steps holds after all of them
pub history-keeps : {A : Type 0} {kind : Kind} (f : Step kind → Layer → A → A) (P : Layer → A → Type 0)
    → ((s : Step kind) (l : Layer) (a : A) → OfBytes s → P l a → P (after s l) (f s l a))
    → (steps : List (Step kind)) → AllOfBytes steps → (l : Layer) (a : A) → P l a → P (after_all steps l) (along f steps l a)
unfolding after_all along
history-keeps f P keeps [] no_steps l a start = start
history-keeps f P keeps (s ∷ steps) (one-step given more) l a start = history-keeps f P keeps steps more (after s l) (f s l a) (keeps s l a given start)

module _ {kind : Kind} (l : Layer) (steps : List (Step kind)) (start : IsLayer kind l) (given : AllOfBytes steps) where
  shows-after : (c : Cell) → Shows kind c (after_all steps l) (last_left c steps l)
  unfolding last_left
  shows-after c =
      history-keeps (λ (s : Step kind) (l : Layer) (h : Option ℕ). left_then (left c s l) h) (Shows kind c) (step-shows c) steps given l (held_of c (rows_of (width_of kind) l.table l.count))
      (record { bytes = start.bytes; sound = start.sound; holds = refl })

  -- a sound layer of bytes is one after any history
  pub layer-after-history : IsLayer kind (after_all steps l)
  layer-after-history = let last = shows-after (record { high = 0; low = 0 }) in record { bytes = last.bytes; sound = last.sound }

  -- and get answers of each cell what the last step that touched it left of it
  pub get-after-history : (id : List ℕ) (c : Cell) → from_bytes_of id ≡ Ok c → held_in (width_of kind) (after_all steps l).table (after_all steps l).count id ≡ Ok (last_left c steps l)
  get-after-history id c read =
      let last = shows-after c in
      let w = width_of kind in
      let t = (after_all steps l).table in
      let n = (after_all steps l).count in
      get-of-rows w t n (rows_of w t n) id c (record { bytes = last.bytes; sound = last.sound; rows = refl }) read ∙ ap Ok last.holds
