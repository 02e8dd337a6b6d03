-- Two answers that meet a call's contract agree, and so does what they leave in the memory that was lent to them: the calls on layers, on the flags of a cell and on survey files.
use mathlib.Core.Path.{sym, ap, ◌∙◌}
use denote.Ref.{at_last}
use Rattle.tishkolan.proofs as here
use Rattle.general.specs.OneAnswer.{OneAnswer, OneExit}
use Rattle.general.proofs.ChangedLaws.{same-said, same_bytes}
use Rattle.face.specs.Surveys.{LoadingTold}

-- ---- the flags of a cell

pub has-flag-one : OneAnswer 0 here.flags.tishkolan_has_flag.Kinds.ps here.flags.tishkolan_has_flag.Kinds.r here.flags.tishkolan_has_flag.Reads.Post
has-flag-one κs a z z' e e' p q = p ∙ sym q

pub set-flag-one : OneAnswer 0 here.flags.tishkolan_set_flag.Kinds.ps here.flags.tishkolan_set_flag.Kinds.r here.flags.tishkolan_set_flag.Reads.Post
set-flag-one κs a z z' e e' p q = p ∙ sym q

pub clear-flag-one : OneAnswer 0 here.flags.tishkolan_clear_flag.Kinds.ps here.flags.tishkolan_clear_flag.Kinds.r here.flags.tishkolan_clear_flag.Reads.Post
clear-flag-one κs a z z' e e' p q = p ∙ sym q

pub is-blocked-one : OneAnswer 0 here.flags.tishkolan_is_blocked.Kinds.ps here.flags.tishkolan_is_blocked.Kinds.r here.flags.tishkolan_is_blocked.Reads.Post
is-blocked-one κs a z z' e e' p q = p ∙ sym q

-- ---- flag layers

pub flags-set-one : OneAnswer 2 here.layers.tishkolan_flags_set.Kinds.ps here.layers.tishkolan_flags_set.Kinds.r here.layers.tishkolan_flags_set.Reads.Post
flags-set-one κs a z z' e e' p q = same-said p q

pub flags-set-exit : OneExit 2 here.layers.tishkolan_flags_set.Kinds.ps here.layers.tishkolan_flags_set.Kinds.r here.layers.tishkolan_flags_set.Reads.Post
flags-set-exit κs a z z' last last' p q = λ i. (at_last a.0 (same_bytes p q i), a.1)

pub flags-get-one : OneAnswer 2 here.layers.tishkolan_flags_get.Kinds.ps here.layers.tishkolan_flags_get.Kinds.r here.layers.tishkolan_flags_get.Reads.Post
flags-get-one κs a z z' e e' p q = p ∙ sym q

pub flags-remove-one : OneAnswer 2 here.layers.tishkolan_flags_remove.Kinds.ps here.layers.tishkolan_flags_remove.Kinds.r here.layers.tishkolan_flags_remove.Reads.Post
flags-remove-one κs a z z' e e' p q = same-said p q

pub flags-remove-exit : OneExit 2 here.layers.tishkolan_flags_remove.Kinds.ps here.layers.tishkolan_flags_remove.Kinds.r here.layers.tishkolan_flags_remove.Reads.Post
flags-remove-exit κs a z z' last last' p q = λ i. (at_last a.0 (same_bytes p q i), a.1)

pub flags-contains-one : OneAnswer 2 here.layers.tishkolan_flags_contains.Kinds.ps here.layers.tishkolan_flags_contains.Kinds.r here.layers.tishkolan_flags_contains.Reads.Post
flags-contains-one κs a z z' e e' p q = p ∙ sym q

pub flags-count-one : OneAnswer 1 here.layers.tishkolan_flags_count.Kinds.ps here.layers.tishkolan_flags_count.Kinds.r here.layers.tishkolan_flags_count.Reads.Post
flags-count-one κs a z z' e e' p q = p ∙ sym q

pub flags-is-empty-one : OneAnswer 1 here.layers.tishkolan_flags_is_empty.Kinds.ps here.layers.tishkolan_flags_is_empty.Kinds.r here.layers.tishkolan_flags_is_empty.Reads.Post
flags-is-empty-one κs a z z' e e' p q = p ∙ sym q

pub flags-clear-exit : OneExit 1 here.layers.tishkolan_flags_clear.Kinds.ps here.layers.tishkolan_flags_clear.Kinds.r here.layers.tishkolan_flags_clear.Reads.Post
flags-clear-exit κs a z z' last last' p q = λ i. (at_last a.0 ((p ∙ sym q) i), tt)

pub flags-list-one : OneAnswer 2 here.layers.tishkolan_flags_list.Kinds.ps here.layers.tishkolan_flags_list.Kinds.r here.layers.tishkolan_flags_list.Reads.Post
flags-list-one κs a z z' e e' p q = same-said p q

pub flags-list-exit : OneExit 2 here.layers.tishkolan_flags_list.Kinds.ps here.layers.tishkolan_flags_list.Kinds.r here.layers.tishkolan_flags_list.Reads.Post
flags-list-exit κs a z z' last last' p q = λ i. (a.0, (a.1.0, (at_last a.1.1.0 (same_bytes p q i), tt)))

-- ---- value layers

pub values-set-one : OneAnswer 2 here.layers.tishkolan_values_set.Kinds.ps here.layers.tishkolan_values_set.Kinds.r here.layers.tishkolan_values_set.Reads.Post
values-set-one κs a z z' e e' p q = same-said p q

pub values-set-exit : OneExit 2 here.layers.tishkolan_values_set.Kinds.ps here.layers.tishkolan_values_set.Kinds.r here.layers.tishkolan_values_set.Reads.Post
values-set-exit κs a z z' last last' p q = λ i. (at_last a.0 (same_bytes p q i), a.1)

pub values-get-one : OneAnswer 2 here.layers.tishkolan_values_get.Kinds.ps here.layers.tishkolan_values_get.Kinds.r here.layers.tishkolan_values_get.Reads.Post
values-get-one κs a z z' e e' p q = p ∙ sym q

pub values-remove-one : OneAnswer 2 here.layers.tishkolan_values_remove.Kinds.ps here.layers.tishkolan_values_remove.Kinds.r here.layers.tishkolan_values_remove.Reads.Post
values-remove-one κs a z z' e e' p q = same-said p q

pub values-remove-exit : OneExit 2 here.layers.tishkolan_values_remove.Kinds.ps here.layers.tishkolan_values_remove.Kinds.r here.layers.tishkolan_values_remove.Reads.Post
values-remove-exit κs a z z' last last' p q = λ i. (at_last a.0 (same_bytes p q i), a.1)

pub values-contains-one : OneAnswer 2 here.layers.tishkolan_values_contains.Kinds.ps here.layers.tishkolan_values_contains.Kinds.r here.layers.tishkolan_values_contains.Reads.Post
values-contains-one κs a z z' e e' p q = p ∙ sym q

pub values-count-one : OneAnswer 1 here.layers.tishkolan_values_count.Kinds.ps here.layers.tishkolan_values_count.Kinds.r here.layers.tishkolan_values_count.Reads.Post
values-count-one κs a z z' e e' p q = p ∙ sym q

pub values-is-empty-one : OneAnswer 1 here.layers.tishkolan_values_is_empty.Kinds.ps here.layers.tishkolan_values_is_empty.Kinds.r here.layers.tishkolan_values_is_empty.Reads.Post
values-is-empty-one κs a z z' e e' p q = p ∙ sym q

pub values-clear-exit : OneExit 1 here.layers.tishkolan_values_clear.Kinds.ps here.layers.tishkolan_values_clear.Kinds.r here.layers.tishkolan_values_clear.Reads.Post
values-clear-exit κs a z z' last last' p q = λ i. (at_last a.0 ((p ∙ sym q) i), tt)

pub values-list-one : OneAnswer 2 here.layers.tishkolan_values_list.Kinds.ps here.layers.tishkolan_values_list.Kinds.r here.layers.tishkolan_values_list.Reads.Post
values-list-one κs a z z' e e' p q = same-said p q

pub values-list-exit : OneExit 2 here.layers.tishkolan_values_list.Kinds.ps here.layers.tishkolan_values_list.Kinds.r here.layers.tishkolan_values_list.Reads.Post
values-list-exit κs a z z' last last' p q = λ i. (a.0, (a.1.0, (at_last a.1.1.0 (same_bytes p q i), tt)))

pub values-aggregate-one : OneAnswer 2 here.aggregates.tishkolan_values_aggregate.Kinds.ps here.aggregates.tishkolan_values_aggregate.Kinds.r here.aggregates.tishkolan_values_aggregate.Reads.Post
values-aggregate-one κs a z z' e e' p q = p ∙ sym q

pub values-rollup-one : OneAnswer 2 here.aggregates.tishkolan_values_rollup.Kinds.ps here.aggregates.tishkolan_values_rollup.Kinds.r here.aggregates.tishkolan_values_rollup.Reads.Post
values-rollup-one κs a z z' e e' p q = same-said p q

pub values-rollup-exit : OneExit 2 here.aggregates.tishkolan_values_rollup.Kinds.ps here.aggregates.tishkolan_values_rollup.Kinds.r here.aggregates.tishkolan_values_rollup.Reads.Post
values-rollup-exit κs a z z' last last' p q = λ i. (a.0, (a.1.0, (a.1.1.0, (at_last a.1.1.1.0 (same_bytes p q i), (a.1.1.1.1.0, tt)))))

-- ---- survey files

pub survey-load-one : OneAnswer 3 here.surveys.tishkolan_survey_load.Kinds.ps here.surveys.tishkolan_survey_load.Kinds.r here.surveys.tishkolan_survey_load.Reads.Post
survey-load-one κs a z z' e e' p q = ap (λ (g : LoadingTold). g.told) (p ∙ sym q)

pub survey-load-exit : OneExit 3 here.surveys.tishkolan_survey_load.Kinds.ps here.surveys.tishkolan_survey_load.Kinds.r here.surveys.tishkolan_survey_load.Reads.Post
survey-load-exit κs a z z' last last' p q =
    λ i. (a.0, (at_last a.1.0 (ap (λ (g : LoadingTold). g.flags) (p ∙ sym q) i), (a.1.1.0, (at_last a.1.1.1.0 (ap (λ (g : LoadingTold). g.values) (p ∙ sym q) i), (a.1.1.1.1.0, tt)))))

pub survey-write-one : OneAnswer 3 here.surveys.tishkolan_survey_write.Kinds.ps here.surveys.tishkolan_survey_write.Kinds.r here.surveys.tishkolan_survey_write.Reads.Post
survey-write-one κs a z z' e e' p q = same-said p q

pub survey-write-exit : OneExit 3 here.surveys.tishkolan_survey_write.Kinds.ps here.surveys.tishkolan_survey_write.Kinds.r here.surveys.tishkolan_survey_write.Reads.Post
survey-write-exit κs a z z' last last' p q = λ i. (a.0, (a.1.0, (a.1.1.0, (a.1.1.1.0, (at_last a.1.1.1.1.0 (same_bytes p q i), tt)))))
