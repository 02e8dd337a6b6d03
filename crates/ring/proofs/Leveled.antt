-- The cells at one number of steps: each is listed, then expanded, and what is left of them goes on from there.
use Rattle.std.specs.Prelude.{Result, Ok, Err}
use mathlib.Core.Path.{◌≡◌, refl, sym, ap, ap₂, subst, ◌∙◌}
use mathlib.Core.Bool.{Bool, true, false, cond, false≢true}
use mathlib.Core.List.{List, [], ◌∷◌, ◌++◌}
use Prim.Native.Nat.{ℕ, ◌+◌, ◌-◌, ◌≤◌, ◌<◌}
use native.Mathlib.Omega.{arith}
use lib.Dec.{ltb}
use lib.ListN.{length}
use borrow.Author.Tests.{lt-ltb, le-ltb}
use Rattle.refusal.specs.declared.Cell.{Cell}
use Rattle.refusal.specs.declared.Room.TheVariants.{Output}
use Rattle.refusal.specs.declared.Refusal.{Refusal}
use Rattle.refusal.specs.declared.Refusal.TheVariants.{NoRoom}
use Rattle.known.specs.Inner.Known.{cell_in, known_cells}
use Rattle.known.proofs.Laws.{length-cells, cells-more}
use Rattle.ring.specs.declared.Rooms.{Rooms}
use Rattle.ring.specs.Ring.{sight, Walk, going, stopped, and_then, expand, list, list_if, level}
use Rattle.ring.specs.Inner.State.{cells_between, sight_in, Grown, Shows, Sees}
use Rattle.ring.proofs.StateLaws.{grown-twice, none_between, first-between, length-between}

-- ---- listing

module _ (rooms : Rooms) (l : List ℕ) (n to i : ℕ) where
  list-by : (b : Bool) → ltb i rooms.output ≡ b → list rooms (cell_in l rooms.known i) (sight_in true l rooms.known n to i) ≡ cond b (going (sight_in true l rooms.known n to (i + 1))) (stopped (NoRoom Output))
  unfolding list
  list-by b e =
      let place : 0 + i ≡ i = omega arith in
      let more : known_cells l rooms.known i ++ (cell_in l rooms.known i ∷ []) ≡ known_cells l rooms.known (i + 1) = sym (cells-more l rooms.known 0 i ∙ ap (λ (k : ℕ). known_cells l rooms.known i ++ (cell_in l rooms.known k ∷ [])) place) in
      let room : ltb (length (known_cells l rooms.known i)) rooms.output ≡ b = ap (λ (k : ℕ). ltb k rooms.output) (length-cells l rooms.known 0 i) ∙ e in
      λ j. cond (room j) (going (sight (known_cells l rooms.known n) (cells_between l rooms.known to n) (more j))) (stopped (NoRoom Output))

  -- a ring that has room lists one cell more; a shell lists none
  list-next : (every : Bool) → (every ≡ true → i < rooms.output) → list_if every rooms (cell_in l rooms.known i) (sight_in every l rooms.known n to i) ≡ going (sight_in every l rooms.known n to (i + 1))
  list-next true room = list-by true (lt-ltb i rooms.output (room refl))
  list-next false room = refl

  list_full : (every : Bool) → every ≡ true → rooms.output ≤ i → list_if every rooms (cell_in l rooms.known i) (sight_in every l rooms.known n to i) ≡ stopped (NoRoom Output)
  list_full true e full = list-by false (le-ltb i rooms.output full)
  list_full false e full = absurd (false≢true e)

-- ---- one cell after the other

-- those before record i were listed and expanded
pub record LevelTo (every : Bool) (rooms : Rooms) (from to : ℕ) (l₀ l : List ℕ) (count i : ℕ) : Type 0 where
  pub grown : Grown l₀ l rooms.known to count
  pub listed : every ≡ true → from ≤ rooms.output → i ≤ rooms.output
  pub rest : level every rooms (cells_between l₀ rooms.known from to) (sight_in every l₀ rooms.known to to from) ≡ level every rooms (cells_between l₀ rooms.known i to) (sight_in every l rooms.known count to i)

module _ {every : Bool} {rooms : Rooms} {from to : ℕ} {l₀ l : List ℕ} {count i : ℕ} (here : LevelTo every rooms from to l₀ l count i) where
  -- the next cell, then those behind it
  level-first : i < to → level every rooms (cells_between l₀ rooms.known i to) (sight_in every l rooms.known count to i) ≡ and_then (and_then (list_if every rooms (cell_in l rooms.known i) (sight_in every l rooms.known count to i)) (expand rooms (to - (i + 1)) (cell_in l rooms.known i))) (level every rooms (cells_between l₀ rooms.known (i + 1) to))
  unfolding level
  level-first less =
      let s = sight_in every l rooms.known count to i in
      let behind = cells_between l₀ rooms.known (i + 1) to in
      ap (λ (cells : List Cell). level every rooms cells s) (first-between l₀ rooms.known i to less)
      ∙ ap₂ (λ (c : Cell) (others : ℕ). and_then (and_then (list_if every rooms c s) (expand rooms others c)) (level every rooms behind)) (sym (here.grown.cells i less)) (length-between l₀ rooms.known (i + 1) to)

  -- where there is output room, it is expanded
  level-next : i < to → (every ≡ true → i < rooms.output) → level every rooms (cells_between l₀ rooms.known from to) (sight_in every l₀ rooms.known to to from) ≡ and_then (expand rooms (to - (i + 1)) (cell_in l rooms.known i) (sight_in every l rooms.known count to (i + 1))) (level every rooms (cells_between l₀ rooms.known (i + 1) to))
  level-next less room =
      here.rest
      ∙ level-first less
      ∙ ap (λ (w : Walk). and_then (and_then w (expand rooms (to - (i + 1)) (cell_in l rooms.known i))) (level every rooms (cells_between l₀ rooms.known (i + 1) to))) (list-next rooms l count to i every room)

  pub no-output-room : i < to → every ≡ true → rooms.output ≤ i → Shows every l₀ l rooms.known to to to (Err (NoRoom Output)) (level every rooms (cells_between l₀ rooms.known from to) (sight_in every l₀ rooms.known to to from))
  no-output-room less ring full = (
    here.grown.length-kept,
    here.rest
        ∙ level-first less
        ∙ ap (λ (w : Walk). and_then (and_then w (expand rooms (to - (i + 1)) (cell_in l rooms.known i))) (level every rooms (cells_between l₀ rooms.known (i + 1) to))) (list_full rooms l count to i every ring full),
  )

  module _ (l' : List ℕ) (less : i < to) (room : every ≡ true → i < rooms.output) where
    -- what expanding the cell showed
    shown : (r : Result ℕ Refusal) (c : Cell) (next : ℕ) → next ≡ i + 1 → c ≡ cell_in l rooms.known i → Sees rooms next count l l' r (λ others. expand rooms others c) → Shows every l l' rooms.known count to (i + 1) r (expand rooms (to - (i + 1)) (cell_in l rooms.known i) (sight_in every l rooms.known count to (i + 1)))
    shown r c next behind read sees =
        let more = here.grown.more in
        let s = sight_in every l rooms.known count to (i + 1) in
        subst (λ (d : Cell). Shows every l l' rooms.known count to (i + 1) r (expand rooms (to - (i + 1)) d s)) read
        (subst (λ (j : ℕ). Shows every l l' rooms.known count to (i + 1) r (expand rooms (to - j) c s)) behind (sees every to (i + 1) (omega arith) (omega arith) (omega arith)))

    pub level-stopped : {r : Refusal} {c : Cell} {next : ℕ} → next ≡ i + 1 → c ≡ cell_in l rooms.known i → Sees rooms next count l l' (Err r) (λ others. expand rooms others c) → Shows every l₀ l' rooms.known to to to (Err r) (level every rooms (cells_between l₀ rooms.known from to) (sight_in every l₀ rooms.known to to from))
    level-stopped {r = r} {c = c} {next = next} behind read sees =
        let now = shown (Err r) c next behind read sees in (
          now.0 ∙ here.grown.length-kept,
          level-next less room ∙ ap (λ (v : Walk). and_then v (level every rooms (cells_between l₀ rooms.known (i + 1) to))) now.1,
        )

    pub level-more : {m : ℕ} {c : Cell} {next : ℕ} → next ≡ i + 1 → c ≡ cell_in l rooms.known i → Sees rooms next count l l' (Ok m) (λ others. expand rooms others c) → LevelTo every rooms from to l₀ l' m (i + 1)
    level-more {m = m} {c = c} {next = next} behind read sees =
        let now = shown (Ok m) c next behind read sees in
        record {
          grown = grown-twice here.grown now.0;
          listed = λ ring fits. omega (arith, room ring);
          rest = level-next less room ∙ ap (λ (v : Walk). and_then v (level every rooms (cells_between l₀ rooms.known (i + 1) to))) now.1;
        }

  pub level_all : i ≡ to → Shows every l₀ l rooms.known to to to (Ok count) (level every rooms (cells_between l₀ rooms.known from to) (sight_in every l₀ rooms.known to to from))
  unfolding level
  level_all last = (
    here.grown,
    here.rest
        ∙ ap (λ (j : ℕ). level every rooms (cells_between l₀ rooms.known j to) (sight_in every l rooms.known count to j)) last
        ∙ ap (λ (cells : List Cell). level every rooms cells (sight_in every l rooms.known count to to)) (none_between l₀ rooms.known to),
  )
