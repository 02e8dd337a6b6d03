-- What the last step shows is the result of the definition, whether it was refused or has come to an end.
use Rattle.std.proofs.Common.{rules}
use Rattle.std.specs.Prelude.{◌≡◌, List, ℕ, Result}
use mathlib.Core.Path.{◌∙◌}
use Rattle.std.proofs.lemmas.Result.{err_from_is_err_and}
use Rattle.refusal.specs.declared.Refusal.{Refusal}
use Rattle.words.specs.Word.{Bytes}
use Rattle.cell.specs.Cell.{distance_cells}
use Rattle.cell.specs.Terms.{Words}
use Rattle.table.specs.Records.{rows_of}
use Rattle.search.specs.Search.{begin, run}
use Rattle.search.specs.Plan.{distance_bits, at_end, pops_for}
use Rattle.expansion.specs.declared.Plan.{Plan}
use Rattle.expansion.specs.declared.Step.{Step}
use Rattle.expansion.specs.Inner.Bytes.{Rooms}
use Rattle.expansion.specs.Inner.State.{problem_of}
use Rattle.astar.specs.Answer.{answered_in}
use Rattle.astar.specs.Inner.Bytes.{whole_in, end_in}
use Rattle.astar.proofs.WholeLaws.{whole-sized, whole-ran}
use Rattle.astar.proofs.EndLaws.{ran-answered}
use Rattle.astar.proofs.call.between.Goals as goal

module _ (p : Plan) (flags : List ℕ) (count : ℕ) {w h w' h' : List ℕ} {r : Result Step Refusal} (ran : (w', h', r) ≡ whole_in p (rows_of 20 flags count) w h)
    (rooms : Rooms p.known p.waiting w h) (bytes : Bytes w) (heap-bytes : Bytes h) (left : Bytes w') (words : Words p.start) (goal-words : Words p.goal) where
  shows : (l : List ℕ) → let P = problem_of p flags count in end_in p w' r l ≡ answered_in (at_end (run P (pops_for p.known p.waiting) (begin P (distance_bits (distance_cells p.start p.goal))))) l
  shows l = ran-answered p flags count words rooms.roomy.least rooms.waits.least (whole-ran p flags count w h rooms bytes heap-bytes words _ _ _ ran) l left goal-words

pub end-requires : goal.end-requires
end-requires c =
    let args = c.args in
    whole-sized args.plan (rows_of 20 args.flags.now args.count) args.workspace.now args.heap.now _ _ _ c.requires.rooms c.in_ok-last.ensures

pub returns-in_err-last-clause-output_after : goal.returns-in_err-last-clause-output_after
returns-in_err-last-clause-output_after c =
    let args = c.args in
    let p = err_from_is_err_and c.from_residual.result c.from_residual.ensures.1 in
    rw (p.1, p.2)
    (shows args.plan args.flags.now args.count c.in_err-last.ensures c.requires.rooms (search rules) (search rules) (search rules) (search rules) (search rules) args.output.now)

pub returns-clause-output_after : goal.returns-clause-output_after
returns-clause-output_after c =
    let args = c.args in
    c.end.ensures
    ∙ shows args.plan args.flags.now args.count c.in_ok-last.ensures c.requires.rooms (search rules) (search rules) (search rules) (search rules) (search rules) args.output.now
