-- What is left of the records becomes less by the half that cannot hold the cell.
use native.Mathlib.Omega.{arith}
use Rattle.refusal.specs.declared.Cell.{Cell}
use Rattle.cell.specs.Cell.{same_cell, less_cell}
use Rattle.table.specs.Inner.Places.{Stands}
use Rattle.table.proofs.Halves.{middle, middle-within, tested, none_left, upper-left, lower-left}
use Rattle.table.proofs.find.Goals as goal

pub overflow_mul-width : goal.overflow_mul-width
overflow_mul-width c =
    let here = c.loop-low in
    omega (arith, middle-within c.args.width c.args.table.now c.args.count c.args.c here.low here.high c.requires.count_value here.invariant c.loop-low-test.true)

pub read_at-here-requires : goal.read_at-here-requires
read_at-here-requires c =
    let here = c.loop-low in
    omega (arith, middle-within c.args.width c.args.table.now c.args.count c.args.c here.low here.high c.requires.count_value here.invariant c.loop-low-test.true)

pub returns-then-same : goal.returns-then-same
unfolding Stands
returns-then-same c =
    let args = c.args in
    let here = c.loop-low in
    record {
      within = omega arith;
      same = tested args.width args.table.now (middle here.low here.high) (λ (d : Cell). same_cell d args.c) c.read_at-here.ensures c.same.ensures c.if-same.true;
    }

pub loop-low-preserved-then-less : goal.loop-low-preserved-then-less
loop-low-preserved-then-less c =
    let args = c.args in
    let here = c.loop-low in
    let at = middle here.low here.high in
    let read = c.read_at-here.ensures in
    upper-left args.width args.table.now args.count args.c c.requires.count_value here.low here.high at here.invariant (omega arith) (omega arith)
    (tested args.width args.table.now at (λ (d : Cell). less_cell d args.c) read c.less.ensures c.if-less.true)

pub loop-low-preserved : goal.loop-low-preserved
loop-low-preserved c =
    let args = c.args in
    let here = c.loop-low in
    let at = middle here.low here.high in
    let read = c.read_at-here.ensures in
    lower-left args.width args.table.now args.count args.c c.requires.count_value here.low here.high at here.invariant (omega arith) (omega arith)
    (tested args.width args.table.now at (λ (d : Cell). same_cell d args.c) read c.same.ensures c.if-same.false)
    (tested args.width args.table.now at (λ (d : Cell). less_cell d args.c) read c.less.ensures c.if-less.false)

pub returns : goal.returns
unfolding Stands
returns c =
    let args = c.args in
    let here = c.loop-low in
    none_left args.width args.table.now args.count args.c here.low here.high here.invariant (omega arith)
