-- Two answers that meet a contract of the rows agree, and so do the bytes that they leave, whatever the bytes were.
use mathlib.Core.Path.{sym, ◌∙◌}
use denote.Ref.{at_last}
use Rattle.general.specs.OneAnswer.{OneAnswer, OneExit}
use Rattle.search_rows.proofs as here

pub look_one : OneAnswer 1 here.look.Kinds.ps here.look.Kinds.r here.look.Reads.Post
look_one κs a z z' e e' p q = p ∙ sym q

pub is-closed-one : OneAnswer 1 here.is_closed.Kinds.ps here.is_closed.Kinds.r here.is_closed.Reads.Post
is-closed-one κs a z z' e e' p q = p ∙ sym q

pub g-at-one : OneAnswer 1 here.g_at.Kinds.ps here.g_at.Kinds.r here.g_at.Reads.Post
g-at-one κs a z z' e e' p q = p ∙ sym q

pub before-at-one : OneAnswer 1 here.before_at.Kinds.ps here.before_at.Kinds.r here.before_at.Reads.Post
before-at-one κs a z z' e e' p q = p ∙ sym q

pub close-at-exit : OneExit 1 here.close_at.Kinds.ps here.close_at.Kinds.r here.close_at.Reads.Post
close-at-exit κs a z z' last last' p q = let same = p ∙ sym q in λ i. (at_last a.0 (same i), a.1)

pub lower_exit : OneExit 1 here.lower.Kinds.ps here.lower.Kinds.r here.lower.Reads.Post
lower_exit κs a z z' last last' p q = let same = p ∙ sym q in λ i. (at_last a.0 (same i), a.1)

pub append-exit : OneExit 1 here.append.Kinds.ps here.append.Kinds.r here.append.Reads.Post
append-exit κs a z z' last last' p q = let same = p ∙ sym q in λ i. (at_last a.0 (same i), a.1)

pub clear-exit : OneExit 1 here.clear.Kinds.ps here.clear.Kinds.r here.clear.Reads.Post
clear-exit κs a z z' last last' p q = let same = p ∙ sym q in λ i. (at_last a.0 (same i), a.1)
