-- A workspace whose heads are zeros has no known cell.
use Rattle.std.proofs.Common.{◌≡◌, ℕ, ◌*◌, ◌≤◌, List, length, drop, replicate, sym, ◌∙◌, subst, arith, length-append, length-drop, drop_at}
use lib.ListN.{length-replicate}
use Rattle.words.specs.Word.{little}
use Rattle.words.proofs.Laws.{word-zeros}
use Rattle.known.proofs.ChainLaws.{chain-none}
use Rattle.known.specs.Inner.Known.{Roomy, Emptied, bucket_of, cell_in, head_in, link_in, clear_in}

pub length-clear : (l : List ℕ) (room : ℕ) → 4 * room ≤ length l → length (clear_in l room) ≡ length l
length-clear l room within =
    length-append (replicate (4 * room) 0) (drop (4 * room) l)
    ∙ omega (arith, length-replicate {A = ℕ} (4 * room) 0, length-drop (4 * room) l)

pub emptied : (l : List ℕ) (room : ℕ) → Roomy l room → Emptied l (clear_in l room) room
emptied l room roomy =
    let after = clear_in l room in
    let long = length-clear l room (omega arith) in
    record {
      known = record {
        roomy = record { size = omega arith; small = roomy.small; least = roomy.least };
        count = omega arith;
        chain = chain-none (λ i. bucket_of (cell_in after room i) room) (head_in after) (link_in after room) room (λ b below. word-zeros little 4 (4 * room) (4 * b) (drop (4 * room) l) (omega arith));
      };
      rest = drop_at (replicate (4 * room) 0) (drop (4 * room) l) (4 * room) (length-replicate (4 * room) 0);
      length-kept = long;
    }

pub emptied-by : (l l' : List ℕ) (room : ℕ) → Roomy l room → l' ≡ clear_in l room → Emptied l l' room
emptied-by l l' room roomy e = subst (λ (m : List ℕ). Emptied l m room) (sym e) (emptied l room roomy)
