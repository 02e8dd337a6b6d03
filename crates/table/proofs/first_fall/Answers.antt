-- `last` is the cell of the record before i, and up to there each record is below the next one.
use Rattle.std.proofs.Common.{◌≡◌, sym, ℕ, suc, ◌+◌, ◌-◌, ◌*◌, ◌≤◌, Bool, List, true, false, arith, rules}
use Rattle.std.proofs.lemmas.Bool.Decides.{nat_tests}
use borrow.Author.Count.{below_more}
use Rattle.refusal.specs.declared.Cell.{Cell}
use Rattle.cell.specs.Cell.{less_cell}
use Rattle.cell.specs.Bytes.{cell_at}
use Rattle.table.specs.Records.{row_at}
use Rattle.table.proofs.Laws.{Rises, row-cell, all-rise, falls}
use Rattle.table.proofs.first_fall.Goals as goal

-- a cell that was read behind another one is compared with it as their records' are
compared : (w : ℕ) (l : List ℕ) (i : ℕ) {a b : Cell} {t : Bool} → 1 ≤ i → a ≡ (row_at w l (i - 1)).cell → b ≡ cell_at l (w * i) → less_cell a b ≡ t → less_cell (row_at w l (i - 1)).cell (row_at w l (suc (i - 1))).cell ≡ t
compared w l i {a} {b} some d e h = let next : suc (i - 1) ≡ i = omega arith in cc (next, row-cell w l i)

pub returns-then-count-eq0 : goal.returns-then-count-eq0
returns-then-count-eq0 c = omega (arith, all-rise c.args.width c.args.table.now c.args.count (λ k h. absurd (omega arith)))

pub loop-i-init : goal.loop-i-init
loop-i-init c = record {
  read = rw row-cell (search rules);
  rising = λ k h. absurd (omega arith);
}

pub returns-then-not-less : goal.returns-then-not-less
returns-then-not-less c =
    let args = c.args in
    let here = c.loop-i in
    omega (
      arith,
      falls args.width args.table.now args.count (here.i - 1) (omega arith) (λ k h. here.invariant.rising k (omega arith))
          (compared args.width args.table.now here.i {t = false} here.auto.i here.invariant.read c.read_at-next.ensures (grind (arith, nat_tests))),
    )

pub loop-i-preserved : goal.loop-i-preserved
loop-i-preserved c =
    let args = c.args in
    let here = c.loop-i in
    let rise = compared args.width args.table.now here.i {t = true} here.auto.i here.invariant.read c.read_at-next.ensures (grind (arith, nat_tests)) in
    record {
      read = let same : here.i + 1 - 1 ≡ here.i = omega arith in rw (same, row-cell) (search rules);
      rising = λ k h. below_more (Rises args.width args.table.now) (here.i - 1) (λ j b. here.invariant.rising j (omega arith)) rise k (omega arith);
    }

pub returns : goal.returns
returns c = sym (all-rise c.args.width c.args.table.now c.args.count (λ k h. c.loop-i.invariant.rising k (omega arith)))
