-- What is shown in this crate beside the contracts of src/: the theorems that docs/PROMISES.md names, in words of specs/. The law behind each is the one that its proof names.
use mathlib.Core.Path.{◌≡◌}
use mathlib.Core.Logic.{◌↔◌}
use mathlib.Core.List.{List}
use Prim.Native.Nat.{ℕ, ◌*◌, ◌/◌, ◌<◌}
use lib.ListN.{length}
use Rattle.words.specs.Word.{Bytes}
use Rattle.cell.specs.Bytes.{cell_at, cell_width}
use Rattle.cell.specs.Cell.{frame_of, resolution_of}
use Rattle.table.specs.Records.{rows_of, layer, flag_width}
use Rattle.route.specs.Accepted.{Demand3, Blocked}
use Rattle.route.specs.Route.{verdict_of, claim}
use Rattle.route.proofs as laws

-- Demand 3: the verdict is 0 exactly where the list is of whole cells, each end is one cell, the layer is sound, the rule is 0 or 1, and the list is an accepted route.
pub accepted-exactly :
    (route start goal : List ℕ) (cost : ℕ) (flags : List ℕ) (n rule : ℕ) (in-route : Bytes route) (in_start : Bytes start) (in-goal : Bytes goal)
    → verdict_of (claim route start goal cost) (layer flags n) rule ≡ 0 ↔ Demand3 (claim route start goal cost) (layer flags n) rule
accepted-exactly = laws.DemandLaws.accepted-exactly

-- Under rule 1, no cell after the first of a list with verdict 0 is blocked.
pub enters-no-blocked-cell :
    (route start goal : List ℕ) (cost : ℕ) (flags : List ℕ) (n rule : ℕ) (in-route : Bytes route) (in_start : Bytes start) (in-goal : Bytes goal)
    → verdict_of (claim route start goal cost) (layer flags n) rule ≡ 0 → rule ≡ 1 → (i : ℕ) → 0 < i → i < length route / cell_width
    → Blocked (rows_of flag_width flags n) (cell_at route (cell_width * i)) → ⊥
enters-no-blocked-cell = laws.DemandLaws.enters-no-blocked-cell

-- Every cell of a list with verdict 0 has the frame and the resolution of the start.
pub keeps-frame-and-resolution :
    (route start goal : List ℕ) (cost : ℕ) (flags : List ℕ) (n rule : ℕ) (in-route : Bytes route) (in_start : Bytes start) (in-goal : Bytes goal)
    → verdict_of (claim route start goal cost) (layer flags n) rule ≡ 0 → (i : ℕ) → i < length route / cell_width
    → (frame_of (cell_at route (cell_width * i)) ≡ frame_of (cell_at start 0)) × (resolution_of (cell_at route (cell_width * i)) ≡ resolution_of (cell_at start 0))
keeps-frame-and-resolution = laws.DemandLaws.keeps-frame-and-resolution
