-- Four children are compared at once; of fewer, those before j are compared.
use Rattle.std.proofs.Common.{◌≡◌, ◌+◌, ◌-◌, ◌<◌}
use Rattle.waiting.specs.Inner.Entries.{key_in}
use Rattle.waiting.specs.Inner.Sift.{first_least}
use Rattle.waiting.proofs.least_child.Given as goal

abbrev pub invariant-loop-j : goal.invariant-loop-j
invariant-loop-j l = record {
  is : l.least ≡ first_least (key_in l.heap) l.first (l.j - (l.first + 1));
  within : l.least < l.j;
}
