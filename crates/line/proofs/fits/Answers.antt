-- What is left of the room and the cells of the whole list are as many as the room, the last cell and those still to come: each sample keeps that.
use Rattle.std.specs.Prelude.{Some, None}
use mathlib.Core.Path.{◌≡◌, sym, ap}
use Prim.Native.Nat.{ℕ, ◌+◌, ◌-◌, ◌≤◌}
use native.Mathlib.Omega.{arith}
use lib.ListN.{length}
use Rattle.std.proofs.lemmas.Grind.{common_steps}
use Rattle.refusal.specs.declared.Cell.{Cell}
use Rattle.line.specs.declared.Line.{Line}
use Rattle.line.specs.Line.{sampled, ending, cells_along}
use Rattle.line.proofs.Laws.{cells_from, along-from, after-dropped, after-new, after-samples}
use Rattle.line.proofs.fits.Goals as goal
use Rattle.line.proofs.fits.Goals.{After-same, else-loop-i-test, then-loop-i-test+else-left-eq0+else-i-i-end, in-Some, in_default}

abbrev Counted : Line → ℕ → Cell → ℕ → ℕ → Type 0
Counted line room last left i = left + length (cells_along line) ≡ room + (1 + length (cells_from line last i))

module _ (line : Line) (room : ℕ) (last : Cell) (left i : ℕ) {last' : Cell} {left' : ℕ} (within : i ≤ line.steps) (before : Counted line room last left i) where
  dropped-counted : sampled line last i ≡ None → last' ≡ last → left' ≡ left → Counted line room last' left' (i + 1)
  dropped-counted e p q = rw (p, q) (omega (arith, ap length (after-dropped line last i within e)))

  new-counted : {c : Cell} → sampled line last i ≡ Some c → last' ≡ c → left' ≡ left - 1 → 1 ≤ left → Counted line room last' left' (i + 1)
  new-counted e p q some = rw (p, q) (omega (arith, ap length (after-new line last i within e)))

pub loop-i-init : goal.loop-i-init
loop-i-init c = omega (arith, ap length (along-from c.args.line))

pub loop-i-preserved : goal.loop-i-preserved
loop-i-preserved c =
    let a = c.args in
    let here = c.loop-i in
    elim c.match-sampled.branch [
      | in-Some w ↦ new-counted a.line a.room here.last here.left here.i (omega arith) here.invariant (sym w.in-Some.ensures) w.last-is w.left-is (omega arith)
      | in_default w ↦ dropped-counted a.line a.room here.last here.left here.i (omega arith) here.invariant (sym w.in_default.ensures) w.last-is w.left-is
    ]

-- behind the last sample the end is left, if not last
counted : (c : After-same) → c.loop-i-test.left + length (cells_along c.args.line) ≡ c.args.room + (1 + length (ending c.args.line c.loop-i-test.last))
counted c =
    let a = c.args in
    let here = c.loop-i in
    elim c.loop-i-test.branch [
      | else-loop-i-test w ↦ rw (w.left-is, w.last-is) (omega (arith, ap length (after-samples a.line here.last here.i (omega arith))))
      | then-loop-i-test+else-left-eq0+else-i-i-end w ↦
          let at = w.match-sampled in
          let more : Counted a.line a.room at.last at.left (here.i + 1) =
          elim w.match-sampled.branch [
            | in-Some v ↦ new-counted a.line a.room here.last here.left here.i (omega arith) here.invariant (sym v.in-Some.ensures) v.last-is v.left-is (omega arith)
            | in_default v ↦ dropped-counted a.line a.room here.last here.left here.i (omega arith) here.invariant (sym v.in_default.ensures) v.last-is v.left-is
          ] in
          rw (w.left-is, w.last-is) (omega (arith, ap length (after-samples a.line at.last (here.i + 1) (omega arith))))
    ]

pub returns-then-same : goal.returns-then-same
returns-then-same c = let all = rw (← c.same.ensures, c.if-same.true) at (counted (goal.at.returns-then-same c).After-same) in grind (arith, common_steps)

pub returns-else-same : goal.returns-else-same
returns-else-same c = let all = rw (← c.same.ensures, c.if-same.false) at (counted (goal.at.returns-else-same c).After-same) in grind (arith, common_steps)
