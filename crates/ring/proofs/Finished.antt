-- A walk that has come to its last cells lists them behind those of the records before them, which a ring has listed and a shell has not.
use Rattle.std.specs.Prelude.{Ok, Err}
use mathlib.Core.Path.{◌≡◌, refl, sym, ap, ◌∙◌}
use mathlib.Core.Bool.{Bool, true, false, cond}
use mathlib.Core.List.{List, [], ◌++◌}
use mathlib.Core.Logic.{◌⊎◌, inl, inr}
use Prim.Native.Nat.{ℕ, ◌+◌, ◌-◌, ◌≤◌, ◌<◌}
use native.Mathlib.Omega.{arith}
use lib.ListN.{length}
use Rattle.refusal.specs.declared.Cell.{Cell}
use Rattle.refusal.specs.declared.Room.TheVariants.{Output}
use Rattle.refusal.specs.declared.Refusal.TheVariants.{NoRoom}
use Rattle.general.specs.Changed.{changed}
use Rattle.known.specs.Inner.Known.{cells_in, known_cells}
use Rattle.known.proofs.Laws.{length-cells, cells-joined}
use Rattle.cell_list.specs.Listing.{cells_laid}
use Rattle.ring.specs.declared.Rooms.{Rooms}
use Rattle.ring.specs.Ring.{Walk, list_all, listed_by}
use Rattle.ring.specs.Inner.State.{cells_between, sight_in}
use Rattle.ring.proofs.ListedLaws.{all_listed, not-all-listed}

-- the first record to be listed: of all, or of the last ones
abbrev pub first_of : Bool → ℕ → ℕ
first_of every from = cond every 0 from

-- what was listed before
abbrev listed_before : Bool → List ℕ → ℕ → ℕ → List Cell
listed_before every w room from = cond every (known_cells w room from) []

length-listed-before : (every : Bool) (w : List ℕ) (room from : ℕ) → length (listed_before every w room from) ≡ from - first_of every from
length-listed-before true w room from = length-cells w room 0 from ∙ omega arith
length-listed-before false w room from = omega arith

listed-in-all : (every : Bool) (w : List ℕ) (room from to : ℕ) → from ≤ to → listed_before every w room from ++ cells_between w room from to ≡ cells_between w room (first_of every from) to
listed-in-all true w room from to ordered =
    let place : from ≡ 0 + from = omega arith in
    let size : from + (to - from) ≡ to - 0 = omega arith in
    ap (λ (k : ℕ). known_cells w room from ++ cells_in w room k (to - from)) place ∙ cells-joined w room 0 from (to - from) ∙ ap (cells_in w room 0) size
listed-in-all false w room from to ordered = refl

first-within : (every : Bool) (from first : ℕ) → first ≡ first_of every from → first ≤ from
first-within true from first e = omega arith
first-within false from first e = omega arith

module _ (every : Bool) (w : List ℕ) (rooms : Rooms) (from to first : ℕ) (l : List ℕ) (ordered : from ≤ to) (chosen : first ≡ first_of every from) where
  abbrev ended : Walk
  ended = list_all rooms (cells_between w rooms.known from to) (sight_in every w rooms.known to to from)

  length_before : length (listed_before every w rooms.known from) ≡ from - first
  length_before = length-listed-before every w rooms.known from ∙ ap (λ (k : ℕ). from - k) (sym chosen)

  length_last : length (cells_between w rooms.known from to) ≡ to - from
  length_last = length-cells w rooms.known from (to - from)

  pub finished-all : to - first ≤ rooms.output → changed (Ok (to - first)) (cells_laid (cells_between w rooms.known first to) l) ≡ listed_by ended l
  finished-all fits =
      let within = first-within every from first chosen in
      let all : listed_before every w rooms.known from ++ cells_between w rooms.known from to ≡ cells_between w rooms.known first to =
      listed-in-all every w rooms.known from to ordered ∙ ap (λ (k : ℕ). cells_between w rooms.known k to) (sym chosen) in
      let size : length (cells_between w rooms.known first to) ≡ to - first = length-cells w rooms.known first (to - first) in
      ap (λ (n : ℕ). changed (Ok n) (cells_laid (cells_between w rooms.known first to) l)) (sym size)
      ∙ ap (λ (cells : List Cell). changed (Ok (length cells)) (cells_laid cells l)) (sym all)
      ∙ ap (λ (walk : Walk). listed_by walk l) (sym (all_listed rooms (cells_between w rooms.known from to) (sight_in every w rooms.known to to from) (omega (arith, length_before, length_last))))

  pub finished-refused : (every ≡ true → from ≤ rooms.output) → rooms.output < to - first → changed (Err (NoRoom Output)) l ≡ listed_by ended l
  finished-refused before many =
      let within = first-within every from first chosen in
      ap (λ (walk : Walk). listed_by walk l)
      (sym (not-all-listed rooms (cells_between w rooms.known from to) (sight_in every w rooms.known to to from) (by_kind every refl) (omega (arith, length_before, length_last))))
    where
      by_kind : (b : Bool) → every ≡ b → length (listed_before every w rooms.known from) ≤ rooms.output
      by_kind true e = omega (arith, length_before, before e)
      by_kind false e = omega (arith, length_before, chosen ∙ ap (λ (b : Bool). cond b 0 from) e)
