-- The bytes before a cell, its own, and those behind it.
use mathlib.Core.Path.{◌≡◌, ap, ◌∙◌}
use mathlib.Core.List.{List, ◌++◌}
use Prim.Native.Nat.{ℕ, ◌+◌, ◌*◌, ◌≤◌}
use native.Mathlib.Omega.{arith}
use lib.ListN.{length, take, drop}
use Rattle.refusal.specs.declared.Cell.{Cell}
use Rattle.cell.specs.Bytes.{cell_bytes}
use Rattle.cell.specs.Inner.Bytes.{cell_stored}
use Rattle.cell.proofs.BytesLaws.{cell-stored-parts}
use Rattle.cell_list.specs.Inner.Listing.{cell_put}
use Rattle.cell_list.proofs.put.Goals as goal

parts : (l : List ℕ) (i : ℕ) (c : Cell) → 16 * (i + 1) ≤ length l → cell_stored l (16 * i) c ≡ cell_put l i c
unfolding cell_put
parts l i c h =
    let end : 16 * i + 16 ≡ 16 * (i + 1) = omega arith in
    cell-stored-parts l (16 * i) c (omega arith) ∙ ap (λ (k : ℕ). take (16 * i) l ++ (cell_bytes c ++ drop k l)) end

pub returns : goal.returns
returns c =
    let a = c.args in
    let e = parts a.output.now a.i a.c c.requires in
    cc
