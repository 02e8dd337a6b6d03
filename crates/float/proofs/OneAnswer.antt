-- Two answers that meet a public function's contract agree.
use Rattle.std.proofs.Common.{sym, ◌∙◌}
use Rattle.general.specs.OneAnswer.{OneAnswer}
use Rattle.float.proofs as here

pub is-nan-one : OneAnswer 0 here.is_nan.Kinds.ps here.is_nan.Kinds.r here.is_nan.Reads.Post
is-nan-one κs a z z' e e' p q = p ∙ sym q

pub value-one : OneAnswer 0 here.value.Kinds.ps here.value.Kinds.r here.value.Reads.Post
value-one κs a z z' e e' p q = p ∙ sym q

pub number-one : OneAnswer 0 here.number.Kinds.ps here.number.Kinds.r here.number.Reads.Post
number-one κs a z z' e e' p q = p ∙ sym q

pub bits-one : OneAnswer 0 here.bits.Kinds.ps here.bits.Kinds.r here.bits.Reads.Post
bits-one κs a z z' e e' p q = p ∙ sym q

pub power-of-two-one : OneAnswer 0 here.power_of_two.Kinds.ps here.power_of_two.Kinds.r here.power_of_two.Reads.Post
power-of-two-one κs a z z' e e' p q = p ∙ sym q

pub nearest-whole-one : OneAnswer 0 here.nearest_whole.Kinds.ps here.nearest_whole.Kinds.r here.nearest_whole.Reads.Post
nearest-whole-one κs a z z' e e' p q = p ∙ sym q

pub total-order-key-one : OneAnswer 0 here.total_order_key.Kinds.ps here.total_order_key.Kinds.r here.total_order_key.Reads.Post
total-order-key-one κs a z z' e e' p q = p ∙ sym q

pub key-bits-one : OneAnswer 0 here.key_bits.Kinds.ps here.key_bits.Kinds.r here.key_bits.Reads.Post
key-bits-one κs a z z' e e' p q = p ∙ sym q
