-- First the count, then the order.
use Rattle.std.proofs.Common.{◌≡◌, ap, ◌∙◌, ℕ, List, Bool, ◌&&◌, eqb, leb, arith}
use Rattle.std.proofs.lemmas.Bool.Decides.{nat_tests}
use Rattle.table.specs.Records.{room_for, rows_of, first_fall, is_sound}
use Rattle.table.proofs.Laws.{ascending-by-fall}
use Rattle.table.proofs.Bytes.{length-rows_from}
use Rattle.table.proofs.is_sound.Goals as goal

by_fall : (w : ℕ) (l : List ℕ) (n : ℕ) → is_sound w l n ≡ (leb n (room_for w l) && eqb (first_fall (rows_of w l n)) n)
unfolding is_sound rows_of
by_fall w l n = ap (λ (t : Bool). leb n (room_for w l) && t) (ascending-by-fall (rows_of w l n) ∙ ap (eqb (first_fall (rows_of w l n))) (length-rows_from w l 0 n))

pub returns-then-count-room_for : goal.returns-then-count-room_for
returns-then-count-room_for c = rw by_fall (grind (arith, nat_tests))

pub returns-else-count-room_for : goal.returns-else-count-room_for
returns-else-count-room_for c = rw by_fall (grind (arith, nat_tests))
