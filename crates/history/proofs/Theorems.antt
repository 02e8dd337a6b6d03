-- What is shown in this crate beside the contracts of src/: the theorems that docs/PROMISES.md names, in words of specs/. The law behind each is the one that its proof names.
use mathlib.Core.List.{List}
use mathlib.Core.Path.{◌≡◌}
use Prim.Native.Nat.{ℕ}
use Rattle.std.specs.Prelude.{Ok}
use Rattle.refusal.specs.declared.Cell.{Cell}
use Rattle.cell.specs.Bytes.{from_bytes_of}
use Rattle.layer.specs.Calls.{held_in}
use Rattle.history.specs.History.{Kind, Step, OfBytes, AllOfBytes, after, after_all, along, IsLayer, width_of, last_left}
use Rattle.history.proofs as laws
use Rattle.table.specs.Records.{Layer}

-- What holds at first of a layer and of what is told along the steps, and is kept by each step, holds after all of them.
pub history-keeps :
    {A : Type 0} {kind : Kind} (f : Step kind → Layer → A → A) (P : Layer → A → Type 0)
    → ((s : Step kind) (l : Layer) (a : A) → OfBytes s → P l a → P (after s l) (f s l a)) → (steps : List (Step kind)) → AllOfBytes steps
    → (l : Layer) (a : A) → P l a → P (after_all steps l) (along f steps l a)
history-keeps = laws.History.history-keeps

-- A sound layer of bytes is a sound layer of bytes after any history.
pub layer-after-history :
    {kind : Kind} (l : Layer) (steps : List (Step kind)) (start : IsLayer kind l) (given : AllOfBytes steps) → IsLayer kind (after_all steps l)
layer-after-history = laws.History.layer-after-history

-- After any history of a sound layer, `get` answers of each cell what the last step that touched it left of it, or what the layer held at first where none did.
pub get-after-history :
    {kind : Kind} (l : Layer) (steps : List (Step kind)) (start : IsLayer kind l) (given : AllOfBytes steps) (id : List ℕ) (c : Cell)
    → from_bytes_of id ≡ Ok c → held_in (width_of kind) (after_all steps l).table (after_all steps l).count id ≡ Ok (last_left c steps l)
get-after-history = laws.History.get-after-history
