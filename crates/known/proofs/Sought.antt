-- Where the bytes hold chains, what is sought is found exactly where it is.
use Rattle.std.specs.Prelude.{Option}
use Rattle.std.proofs.Common.{◌≡◌, ℕ, zero, suc, ◌-◌, ◌<◌, ◌≤◌, Bool, true, false, List, sym, refl, subst, arith}
use native.Mathlib.Decide.{ℕ_discrete}
use Rattle.refusal.specs.declared.Cell.{Cell}
use Rattle.words.specs.Word.{Bytes}
use Rattle.cell.specs.Cell.{same_cell}
use Rattle.cell.specs.Terms.{Words}
use Rattle.known.specs.Inner.Known.{Known, bucket_of, cell_in, head_in, link_in}
use Rattle.known.specs.Inner.Found.{Right}
use Rattle.known.specs.Inner.Seek.{seek_in, find_in}
use Rattle.known.proofs.Seek.{seek-end, seek-here, seek-on}
use Rattle.known.proofs.Walked.{Walked, walked_none, walked_more, link-less, tested-same, tested-other}

module _ (l : List ℕ) (room n : ℕ) (c : Cell) (known : Known l room n) (bytes : Bytes l) (words : Words c) where
  module _ (bound v : ℕ) (below : bound ≤ n) (falls : v ≤ bound) (walked : Walked l room n c v) where
    by_end : (m : ℕ) → v ≡ 0 → Right l room n c (seek_in m l room c bound v)
    by_end m e = subst (Right l room n c) (sym (seek-end l room c bound v m e)) (λ j under. walked.passed j (omega arith) under)

    by-cell : (m : ℕ) → 0 < v → (Walked l room n c (link_in l room (v - 1)) → link_in l room (v - 1) < v → Right l room n c (seek_in m l room c (v - 1) (link_in l room (v - 1))))
        → (t : Bool) → same_cell (cell_in l room (v - 1)) c ≡ t → Right l room n c (seek_in (suc m) l room c bound v)
    by-cell m some more true e =
        subst (Right l room n c) (sym (seek-here l room c bound v m some falls e)) (omega arith, tested-same l room (v - 1) c bytes words refl refl e)
    by-cell m some more false e =
        subst (Right l room n c) (sym (seek-on l room c bound v m some falls e))
        (more (walked_more l room n c known v (link_in l room (v - 1)) walked some refl (tested-other l room (v - 1) c refl refl e)) (link-less l room n c known v (link_in l room (v - 1)) walked some refl))

  seek-right : (m bound v : ℕ) → bound < m → bound ≤ n → v ≤ bound → Walked l room n c v → Right l room n c (seek_in m l room c bound v)
  seek-right zero bound v enough below falls walked = absurd (omega arith)
  seek-right (suc m) bound v enough below falls walked =
      go (ℕ_discrete v 0) (λ next less. seek-right m (v - 1) (link_in l room (v - 1)) (omega arith) (omega arith) (omega arith) next)
    where
      go : Dec (v ≡ 0) → (Walked l room n c (link_in l room (v - 1)) → link_in l room (v - 1) < v → Right l room n c (seek_in m l room c (v - 1) (link_in l room (v - 1)))) → Right l room n c (seek_in (suc m) l room c bound v)
      go (yes e) more = by_end bound v below falls walked (suc m) e
      go (no some) more = by-cell bound v below falls walked m (omega arith) more (same_cell (cell_in l room (v - 1)) c) refl

  pub found_right : Right l room n c (find_in l room n c)
  unfolding find_in
  found_right =
      let walked = walked_none l room n c known (bucket_of c room) (head_in l (bucket_of c room)) refl refl in
      seek-right (suc n) n (head_in l (bucket_of c room)) (omega arith) (omega arith) walked.bound walked

  pub found-by : (r : Option ℕ) → r ≡ find_in l room n c → Right l room n c r
  found-by r e = subst (Right l room n c) (sym e) found_right
