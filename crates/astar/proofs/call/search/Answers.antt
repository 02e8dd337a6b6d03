-- Two ends of one parity each: the search between them.
use mathlib.Core.Path.{sym, ap, ◌∙◌}
use Rattle.std.proofs.Common.{rules}
use Rattle.lattice.specs.Lattice.{parity_of}
use Rattle.cell.specs.Terms.{Words}
use Rattle.astar.proofs.CallLaws.{answers, search-between}
use Rattle.astar.proofs.call.search.Goals as goal

pub returns-clause-output_after : goal.returns-clause-output_after
returns-clause-output_after c =
    let plan = c.args.plan in
    let words : Words plan.start = search rules in
    let found =
    search-between plan.start plan.goal plan.known plan.waiting plan.limit plan.rule _ (sym c.same.ensures ∙ c.if-same.false) words _ _
    (ap parity_of (sym c.coord.ensures) ∙ sym c.in_ok-parity_of.ensures)
    (ap parity_of (sym c.coord-2.ensures) ∙ sym c.in_ok-parity_of-2.ensures) in
    c.between.ensures.output_after ∙ answers c.args.output.now found
