-- One level after the other, down to the last cells.
use Rattle.std.specs.Prelude.{Ok, Err}
use mathlib.Core.Path.{◌≡◌, refl, sym, ap, ap₂, ◌∙◌}
use mathlib.Core.Bool.{Bool, true}
use mathlib.Core.List.{List, []}
use Prim.Native.Nat.{ℕ, zero, suc, ◌+◌, ◌-◌, ◌≤◌, ◌<◌}
use native.Mathlib.Omega.{arith}
use lib.ListN.{length}
use Rattle.refusal.specs.declared.Cell.{Cell}
use Rattle.refusal.specs.declared.Refusal.{Refusal}
use Rattle.known.specs.Inner.Known.{Known}
use Rattle.ring.specs.declared.Rooms.{Rooms}
use Rattle.ring.specs.Ring.{sight, Walk, going, stopped, and_then, level, list_all, further, levels}
use Rattle.ring.specs.Inner.State.{cells_between, sight_in, Shows, Lists, Last}
use Rattle.ring.proofs.StateLaws.{none_between, sight-further}

-- where no cell is left, the other steps change nothing
levels-empty : (every : Bool) (rooms : Rooms) (k : ℕ) (known listed : List Cell) → levels every rooms k [] (sight known [] listed) ≡ going (sight known [] listed)
unfolding levels
levels-empty every rooms zero known listed = refl
levels-empty every rooms (suc k) known listed = levels-empty every rooms k known listed

levels-end : (every : Bool) (rooms : Rooms) (k : ℕ) (known found listed cells : List Cell) → cells ≡ [] → found ≡ [] → levels every rooms k cells (sight known found listed) ≡ list_all rooms cells (sight known found listed)
unfolding list_all
levels-end every rooms k known found listed cells none end =
    ap₂ (λ (cs f : List Cell). levels every rooms k cs (sight known f listed)) none end
    ∙ levels-empty every rooms k known listed
    ∙ sym (ap₂ (λ (cs f : List Cell). list_all rooms cs (sight known f listed)) none end)

-- so many steps are done, and the cells at hand are the records from `from` up to `to`
pub record SteppedTo (every : Bool) (rooms : Rooms) (k : ℕ) (l₀ l : List ℕ) (from to done : ℕ) : Type 0 where
  pub known : Known l rooms.known to
  pub ordered : from ≤ to
  pub length-kept : length l ≡ length l₀
  pub listed : every ≡ true → from ≤ rooms.output
  pub rest : levels every rooms k (cells_between l₀ rooms.known 0 1) (sight_in every l₀ rooms.known 1 1 0) ≡ levels every rooms (k - done) (cells_between l rooms.known from to) (sight_in every l rooms.known to to from)

module _ {every : Bool} {rooms : Rooms} {k : ℕ} {l₀ l : List ℕ} {from to done : ℕ} (here : SteppedTo every rooms k l₀ l from to done) where
  -- a level, then the others
  next_level : done < k → levels every rooms k (cells_between l₀ rooms.known 0 1) (sight_in every l₀ rooms.known 1 1 0) ≡ and_then (level every rooms (cells_between l rooms.known from to) (sight_in every l rooms.known to to from)) (λ t. levels every rooms (k - (done + 1)) t.found (further t))
  unfolding levels
  next_level some =
      let one : k - done ≡ suc (k - (done + 1)) = omega arith in
      here.rest ∙ ap (λ (m : ℕ). levels every rooms m (cells_between l rooms.known from to) (sight_in every l rooms.known to to from)) one

  module _ (l' : List ℕ) (some : done < k) where
    pub stepped-stopped : {r : Refusal} → Shows every l l' rooms.known to to to (Err r) (level every rooms (cells_between l rooms.known from to) (sight_in every l rooms.known to to from)) → (length l' ≡ length l₀) × (levels every rooms k (cells_between l₀ rooms.known 0 1) (sight_in every l₀ rooms.known 1 1 0) ≡ stopped r)
    stepped-stopped now =
        (now.0 ∙ here.length-kept, next_level some ∙ ap (λ (v : Walk). and_then v (λ t. levels every rooms (k - (done + 1)) t.found (further t))) now.1)

    pub stepped-more : {n : ℕ} → Shows every l l' rooms.known to to to (Ok n) (level every rooms (cells_between l rooms.known from to) (sight_in every l rooms.known to to from)) → Lists every rooms from to (Ok n) → SteppedTo every rooms k l₀ l' to n (done + 1)
    stepped-more {n = n} now lists =
        let more = now.0.more in
        record {
          known = now.0.known;
          ordered = more;
          length-kept = now.0.length-kept ∙ here.length-kept;
          listed = λ ring. lists ring (here.listed ring);
          rest =
              next_level some
              ∙ ap (λ (v : Walk). and_then v (λ t. levels every rooms (k - (done + 1)) t.found (further t))) now.1
              ∙ ap (levels every rooms (k - (done + 1)) (cells_between l' rooms.known to n)) (sight-further every l' rooms.known n to to);
        }

  -- no cell is left, or no step
  pub stepped-empty : from ≡ to → Last every l₀ l rooms from to (levels every rooms k (cells_between l₀ rooms.known 0 1) (sight_in every l₀ rooms.known 1 1 0))
  stepped-empty none =
      record {
        known = here.known;
        ordered = here.ordered;
        length-kept = here.length-kept;
        listed = here.listed;
        rest =
            here.rest
            ∙ levels-end every rooms (k - done) (sight_in every l rooms.known to to from).known (sight_in every l rooms.known to to from).found (sight_in every l rooms.known to to from).listed (cells_between l rooms.known from to)
            (ap (λ (j : ℕ). cells_between l rooms.known j to) none ∙ none_between l rooms.known to)
            (none_between l rooms.known to);
      }

  pub stepped-all : k ≤ done → Last every l₀ l rooms from to (levels every rooms k (cells_between l₀ rooms.known 0 1) (sight_in every l₀ rooms.known 1 1 0))
  unfolding levels
  stepped-all none =
      record {
        known = here.known;
        ordered = here.ordered;
        length-kept = here.length-kept;
        listed = here.listed;
        rest = let end : k - done ≡ 0 = omega arith in here.rest ∙ ap (λ (m : ℕ). levels every rooms m (cells_between l rooms.known from to) (sight_in every l rooms.known to to from)) end;
      }
