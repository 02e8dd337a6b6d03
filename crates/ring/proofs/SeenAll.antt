-- Neighbours one after the other: what is left of them, seen from what was seen so far, is what all of them are from the start.
use Rattle.std.specs.Prelude.{Ok, Err}
use mathlib.Core.Path.{◌≡◌, sym, ap, ◌∙◌}
use mathlib.Core.Bool.{Bool, true}
use mathlib.Core.List.{List, []}
use Prim.Native.Nat.{ℕ, suc, ◌+◌, ◌-◌, ◌≤◌, ◌<◌}
use native.Mathlib.Numerals.{add-one}
use native.Mathlib.Omega.{arith}
use lib.ListN.{length, get_or, drop, drop_of_length-le}
use lib.Seq.{drop-cons}
use Rattle.refusal.specs.declared.Cell.{Cell}
use Rattle.refusal.specs.declared.Refusal.{Refusal}
use Rattle.ring.specs.declared.Rooms.{Rooms}
use Rattle.ring.specs.Ring.{Sight, Walk, and_then, see, see_all}
use Rattle.ring.specs.Inner.State.{sight_in, Grown, Sees}
use Rattle.ring.proofs.StateLaws.{grown-twice}

-- what all waiting cells see does not depend on which: the workspace's part of it
module _ (rooms : Rooms) (next n : ℕ) (l l' : List ℕ) (f : ℕ → Sight → Walk) (before : next ≤ n) where
  pub sees-grown : {m : ℕ} → Sees rooms next n l l' (Ok m) f → Grown l l' rooms.known n m
  sees-grown sees = (sees true n 0 before (omega arith) (omega arith)).0

-- the first i cells were seen
pub record SeenTo (rooms : Rooms) (next count : ℕ) (l₀ : List ℕ) (cells : List Cell) (l : List ℕ) (n i : ℕ) : Type 0 where
  pub waiting : next ≤ count
  pub grown : Grown l₀ l rooms.known count n
  pub rest : (every : Bool) (to k : ℕ) → next ≤ to → to ≤ count → k ≤ to → see_all rooms (to - next) cells (sight_in every l₀ rooms.known count to k) ≡ see_all rooms (to - next) (drop i cells) (sight_in every l rooms.known n to k)

module _ {rooms : Rooms} {next count : ℕ} {l₀ : List ℕ} {cells : List Cell} {l : List ℕ} {n i : ℕ} (seen : SeenTo rooms next count l₀ cells l n i) where
  -- the next cell, then the others
  next-seen : (others : ℕ) (d : Cell) (s : Sight) → i < length cells → see_all rooms others (drop i cells) s ≡ and_then (see rooms others (get_or cells i d) s) (see_all rooms others (drop (suc i) cells))
  unfolding see_all
  next-seen others d s less = ap (λ (cs : List Cell). see_all rooms others cs s) (drop-cons cells i d less)

  pub seen_more : (l' : List ℕ) {m : ℕ} (d : Cell) → i < length cells → Sees rooms next n l l' (Ok m) (λ others. see rooms others (get_or cells i d)) → SeenTo rooms next count l₀ cells l' m (i + 1)
  seen_more l' {m = m} d less sees =
      let waiting = seen.waiting in
      let more = seen.grown.more in
      record {
        waiting = seen.waiting;
        grown = grown-twice seen.grown (sees-grown rooms next n l l' (λ others. see rooms others (get_or cells i d)) (omega arith) sees);
        rest = λ every to k from within early.
            seen.rest every to k from within early
            ∙ next-seen (to - next) d (sight_in every l rooms.known n to k) less
            ∙ ap (λ (w : Walk). and_then w (see_all rooms (to - next) (drop (suc i) cells))) (sees every to k from (omega arith) early).1
            ∙ ap (λ (j : ℕ). see_all rooms (to - next) (drop j cells) (sight_in every l' rooms.known m to k)) (sym (add-one i));
      }

  pub seen-stopped : (l' : List ℕ) {r : Refusal} (d : Cell) → i < length cells → Sees rooms next n l l' (Err r) (λ others. see rooms others (get_or cells i d)) → Sees rooms next count l₀ l' (Err r) (λ others. see_all rooms others cells)
  seen-stopped l' d less sees every to k from within early =
      let waiting = seen.waiting in
      let more = seen.grown.more in
      let now = sees every to k from (omega arith) early in (
        now.0 ∙ seen.grown.length-kept,
        seen.rest every to k from within early
            ∙ next-seen (to - next) d (sight_in every l rooms.known n to k) less
            ∙ ap (λ (w : Walk). and_then w (see_all rooms (to - next) (drop (suc i) cells))) now.1,
      )

  pub seen_all : length cells ≤ i → Sees rooms next count l₀ l (Ok n) (λ others. see_all rooms others cells)
  unfolding see_all
  seen_all all every to k from within early =
      let none : drop i cells ≡ [] = drop_of_length-le cells {i = i} all in
      (seen.grown, seen.rest every to k from within early ∙ ap (λ (cs : List Cell). see_all rooms (to - next) cs (sight_in every l rooms.known n to k)) none)
