-- What holds after a row is written into a record: its own fields are those, and nothing else has changed. Definitions only.
use mathlib.Core.Path.{◌≡◌}
use mathlib.Core.Logic.{◌≢◌}
use mathlib.Core.List.{List}
use Prim.Native.Nat.{ℕ, ◌+◌, ◌*◌, ◌≤◌}
use lib.ListN.{length, drop}
use Rattle.words.specs.Word.{little, word}
use Rattle.known.specs.Inner.Known.{record_offset, cell_in, Known}
use Rattle.search_rows.specs.Inner.Rows.{mark_in, g_in, before_in}

-- record i has this mark, g and record before; all else stays
pub record Written (l l' : List ℕ) (room i mark g before : ℕ) : Type 0 where
  pub known : (n : ℕ) → Known l room n → Known l' room n
  pub cells : (j : ℕ) → cell_in l' room j ≡ cell_in l room j
  pub others : (j p k : ℕ) → j ≢ i → 20 ≤ p → p + k ≤ 40 → word little k l' (record_offset room j + p) ≡ word little k l (record_offset room j + p)
  pub mark-is : mark_in l' room i ≡ mark
  pub g-is : g_in l' room i ≡ g
  pub before-is : before_in l' room i ≡ before
  pub rest : drop (44 * room) l' ≡ drop (44 * room) l
  pub length-kept : length l' ≡ length l
