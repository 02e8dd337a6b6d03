-- `last` is the cell of the record before i, and up to there each record is below the next one.
use Rattle.std.proofs.Common.{◌≡◌, ℕ, suc, ◌-◌, ◌<◌}
use Rattle.table.specs.Records.{row_at}
use Rattle.table.proofs.Laws.{Rises}
use Rattle.table.proofs.first_fall.Given as goal

abbrev pub invariant-loop-i : goal.invariant-loop-i
invariant-loop-i l = record {
  read : l.last ≡ (row_at l.width l.table (l.i - 1)).cell;
  rising : (k : ℕ) → suc k < l.i → Rises l.width l.table k;
}
