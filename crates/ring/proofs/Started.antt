-- The walk from a centre: the table is emptied, the centre known, level after level walked, and the last cells listed.
use Rattle.std.specs.Prelude.{Result, Ok, Err}
use mathlib.Core.Path.{◌≡◌, refl, sym, ap, ap₂, subst, ◌∙◌}
use mathlib.Core.Bool.{Bool, true, false, cond}
use mathlib.Core.List.{List, [], ◌∷◌}
use Prim.Native.Nat.{ℕ}
use Rattle.refusal.specs.declared.Cell.{Cell}
use Rattle.refusal.specs.declared.Refusal.{Refusal}
use Rattle.general.specs.Changed.{Changed, changed}
use Rattle.known.specs.Inner.Known.{cells_in, known_cells, Added}
use Rattle.ring.specs.declared.Rooms.{Rooms}
use Rattle.std.specs.declared.ops.Range.{Range}
use Rattle.ring.specs.Ring.{sight, Walk, list_all, levels, walk_of, listed_by}
use Rattle.ring.specs.Inner.State.{cells_between, sight_in, Reaches}

none-listed : (every : Bool) → ◌≡◌ {A = List Cell} (cond every [] []) []
none-listed true = refl
none-listed false = refl

module _ (every : Bool) (rooms : Rooms) (k : ℕ) (c : Cell) (l₁ l₂ : List ℕ) (added : Added l₁ l₂ rooms.known 0 c) where
  -- from the one known cell
  started : levels every rooms k (cells_between l₂ rooms.known 0 1) (sight_in every l₂ rooms.known 1 1 0) ≡ walk_of every rooms k c
  unfolding walk_of cells_in
  started =
      let centre : known_cells l₂ rooms.known 1 ≡ c ∷ [] = added.more in
      ap₂ (λ (cells listed : List Cell). levels every rooms k cells (sight cells [] listed)) centre (none-listed every)

  module _ (l₃ : List ℕ) where
    walked : (r : Result (Range ℕ) Refusal) → Reaches every l₂ l₃ rooms r (levels every rooms k (cells_between l₂ rooms.known 0 1) (sight_in every l₂ rooms.known 1 1 0)) → Reaches every l₂ l₃ rooms r (walk_of every rooms k c)
    walked r reaches = subst (Reaches every l₂ l₃ rooms r) started reaches

    pub walked-stopped : (r : Refusal) (output : List ℕ) → Reaches every l₂ l₃ rooms (Err r) (levels every rooms k (cells_between l₂ rooms.known 0 1) (sight_in every l₂ rooms.known 1 1 0)) → changed (Err r) output ≡ listed_by (walk_of every rooms k c) output
    walked-stopped r output reaches = ap (λ (v : Walk). listed_by v output) (sym (walked (Err r) reaches).1)

    pub walked_all : (s : Range ℕ) {answer : Changed (Result ℕ Refusal)} (output : List ℕ) → Reaches every l₂ l₃ rooms (Ok s) (levels every rooms k (cells_between l₂ rooms.known 0 1) (sight_in every l₂ rooms.known 1 1 0)) → answer ≡ listed_by (list_all rooms (cells_between l₃ rooms.known s.start s.end) (sight_in every l₃ rooms.known s.end s.end s.start)) output → answer ≡ listed_by (walk_of every rooms k c) output
    walked_all s output reaches said = said ∙ ap (λ (v : Walk). listed_by v output) (sym (walked (Ok s) reaches).rest)
