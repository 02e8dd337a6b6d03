-- The sum of two costs is a cost.
use Rattle.search.proofs.Costs.{plus-is}
use Rattle.expansion.proofs.plus.Goals as goal

pub returns-clause-value : goal.returns-clause-value
returns-clause-value c = (plus-is _ _ _ _ _ c.requires.cost c.requires.cost_2 c.value.ensures c.value-2.ensures c.bits.ensures).0

pub returns-clause-cost_3 : goal.returns-clause-cost_3
returns-clause-cost_3 c = (plus-is _ _ _ _ _ c.requires.cost c.requires.cost_2 c.value.ensures c.value-2.ensures c.bits.ensures).1
