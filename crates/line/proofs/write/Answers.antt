-- The cells that are laid and those still to come are the whole list, from sample to sample.
use Rattle.std.specs.Prelude.{Some, None}
use mathlib.Core.Path.{◌≡◌, refl, sym, ◌∙◌}
use mathlib.Core.List.{List, [], ◌∷◌}
use mathlib.Core.Bool.{false}
use Prim.Native.Nat.{ℕ, ◌+◌, ◌≤◌}
use native.Mathlib.Omega.{arith}
use Rattle.cell.specs.Cell.{same_cell}
use Rattle.refusal.specs.declared.Cell.{Cell}
use Rattle.cell_list.specs.Inner.Listing.{cell_put}
use Rattle.cell_list.proofs.Writing.{Written, nothing_written, rest-same, next-written, next-within, all-counted, all_laid}
use Rattle.line.specs.declared.Line.{Line}
use Rattle.line.specs.Line.{sampled, ending, cells_along}
use Rattle.line.proofs.Laws.{cells_from, along-from, after-dropped, after-new, after-samples}
use Rattle.line.proofs.write.Goals as goal
use Rattle.line.proofs.write.Goals.{After-same, else-loop-i-test, then-loop-i-test+else-i-i-end, in-Some, in_default}

module _ (line : Line) (entry now : List ℕ) (last : Cell) (count i : ℕ) {now' : List ℕ} {last' : Cell} {count' : ℕ} (within : i ≤ line.steps) (before : Written (cells_along line) entry now (cells_from line last i) count) where
  dropped-written : sampled line last i ≡ None → now' ≡ now → last' ≡ last → count' ≡ count → Written (cells_along line) entry now' (cells_from line last' (i + 1)) count'
  dropped-written e p q r = rw (p, q, r) (rest-same (cells_along line) entry now (cells_from line last i) count before (after-dropped line last i within e))

  new-written : {c : Cell} → sampled line last i ≡ Some c → now' ≡ cell_put now count c → last' ≡ c → count' ≡ count + 1 → Written (cells_along line) entry now' (cells_from line last' (i + 1)) count'
  new-written e p q r = rw (p, q, r) (next-written (cells_along line) entry now (cells_from line last i) count before (after-new line last i within e))

pub put-requires : goal.put-requires
put-requires c = let a = c.args in next-within (cells_along a.line) a.output.now a.output.now (cells_along a.line) 0 (nothing_written (cells_along a.line) a.output.now) c.requires.line_len_bound (along-from a.line)

pub loop-i-init : goal.loop-i-init
loop-i-init c =
    let a = c.args in
    rw c.put.ensures (next-written (cells_along a.line) a.output.now a.output.now (cells_along a.line) 0 (nothing_written (cells_along a.line) a.output.now) (along-from a.line))

pub put-requires-in-Some : goal.put-requires-in-Some
put-requires-in-Some c =
    let a = c.args in
    let here = c.loop-i in
    next-within (cells_along a.line) a.output.now here.output (cells_from a.line here.last here.i) here.count here.invariant c.requires.line_len_bound (after-new a.line here.last here.i (omega arith) (sym c.in-Some.ensures))

pub loop-i-preserved : goal.loop-i-preserved
loop-i-preserved c =
    let a = c.args in
    let here = c.loop-i in
    elim c.match-sampled.branch [
      | in-Some w ↦ new-written a.line a.output.now here.output here.last here.count here.i (omega arith) here.invariant (sym w.in-Some.ensures) (w.output-is ∙ w.put-in-Some.ensures) w.last-is w.count-is
      | in_default w ↦ dropped-written a.line a.output.now here.output here.last here.count here.i (omega arith) here.invariant (sym w.in_default.ensures) w.output-is w.last-is w.count-is
    ]

-- behind the last sample the end is left, if not last
written : (c : After-same) → Written (cells_along c.args.line) c.args.output.now c.loop-i-test.output (ending c.args.line c.loop-i-test.last) c.loop-i-test.count
written c =
    let a = c.args in
    let here = c.loop-i in
    elim c.loop-i-test.branch [
      | else-loop-i-test w ↦ rw (w.output-is, w.last-is, w.count-is) (rest-same (cells_along a.line) a.output.now here.output (cells_from a.line here.last here.i) here.count here.invariant (after-samples a.line here.last here.i (omega arith)))
      | then-loop-i-test+else-i-i-end w ↦
          let at = w.match-sampled in
          let more : Written (cells_along a.line) a.output.now at.output (cells_from a.line at.last (here.i + 1)) at.count =
          elim w.match-sampled.branch [
            | in-Some v ↦ new-written a.line a.output.now here.output here.last here.count here.i (omega arith) here.invariant (sym v.in-Some.ensures) (v.output-is ∙ v.put-in-Some.ensures) v.last-is v.count-is
            | in_default v ↦ dropped-written a.line a.output.now here.output here.last here.count here.i (omega arith) here.invariant (sym v.in_default.ensures) v.output-is v.last-is v.count-is
          ] in
          rw (w.output-is, w.last-is, w.count-is) (rest-same (cells_along a.line) a.output.now at.output (cells_from a.line at.last (here.i + 1)) at.count more (after-samples a.line at.last (here.i + 1) (omega arith)))
    ]

-- the end is left
not_same : (c : After-same) → false ≡ same_cell c.loop-i-test.last c.args.line.end → Written (cells_along c.args.line) c.args.output.now c.loop-i-test.output (c.args.line.end ∷ []) c.loop-i-test.count
not_same c e = rw (← e) at (written c)

pub put-requires-then-not-same : goal.put-requires-then-not-same
put-requires-then-not-same c =
    let a = c.args in
    let here = c.loop-i-test in
    next-within (cells_along a.line) a.output.now here.output (a.line.end ∷ []) here.count (not_same (goal.at.put-requires-then-not-same c).After-same c.if-not-same.ensures) c.requires.line_len_bound refl

pub returns-then-not-same : goal.returns-then-not-same
returns-then-not-same c =
    let a = c.args in
    let here = c.loop-i-test in
    let all = next-written (cells_along a.line) a.output.now here.output (a.line.end ∷ []) here.count (not_same (goal.at.returns-then-not-same c).After-same c.if-not-same.ensures) refl in
    record { value = all-counted _ _ _ _ _ all refl; output_after = c.put-then-not-same.ensures ∙ all_laid _ _ _ _ _ all refl }

pub returns-else-not-same : goal.returns-else-not-same
returns-else-not-same c =
    let all = rw (← c.if-not-same.ensures) at (written (goal.at.returns-else-not-same c).After-same) in
    record { value = all-counted _ _ _ _ _ all refl; output_after = all_laid _ _ _ _ _ all refl }
