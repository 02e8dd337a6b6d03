-- Two verdicts that meet the contract agree, and so do two choices: what is handed to this very call decides them, and nothing else.
use mathlib.Core.Path.{sym, ◌∙◌}
use Rattle.general.specs.OneAnswer.{OneAnswer}
use Rattle.tishkolan.proofs as here

pub route-verdict-one : OneAnswer 4 here.routes.tishkolan_route_verdict.Kinds.ps here.routes.tishkolan_route_verdict.Kinds.r here.routes.tishkolan_route_verdict.Reads.Post
route-verdict-one κs a z z' e e' p q = p ∙ sym q

pub route-choice-one : OneAnswer 7 here.routes.tishkolan_route_choice.Kinds.ps here.routes.tishkolan_route_choice.Kinds.r here.routes.tishkolan_route_choice.Reads.Post
route-choice-one κs a z z' e e' p q = p ∙ sym q
