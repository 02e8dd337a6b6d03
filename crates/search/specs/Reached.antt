-- The places that a search comes to: between two pops, and in the midst of one; and what it is to need one more there. Definitions only.
use Rattle.std.specs.Prelude.{◌≡◌, false, List, ◌∷◌, ℕ, suc, ◌+◌, ◌≤◌, eqb, ltb, length}
use Rattle.refusal.specs.declared.Room.{Room}
use Rattle.refusal.specs.declared.Room.TheVariants.{Known, Waiting}
use Rattle.refusal.specs.declared.Refusal.{Refusal}
use Rattle.search.specs.Search.{Problem, is, refused, Entry, State, state, going, stopped, find, close, is_closed, is_known, g_of, relax, step, first}

-- one more cell is closed, and these entries still wait
abbrev pub closing : ℕ → List Entry → State → State
closing c rest s = state (close c s.known) rest (s.count + 1)

module _ (P : Problem) where
  -- between two pops
  pub data Reached : State → Type 0 where
    at_first : {h : ℕ} → P.heuristic P.start ≡ is h → Reached (first P h)
    popped-on : {s t : State} → Reached s → step P s ≡ going t → Reached t

  -- in the midst of a pop: the cell c was closed at the cost g, and these of its neighbours are still to be looked at
  pub data Midway : ℕ → ℕ → State → List ℕ → Type 0 where
    opened : {s : State} {e : Entry} {rest : List Entry} {ns : List ℕ} → Reached s → s.waiting ≡ e ∷ rest → is_closed (find e.cell s.known) ≡ false
        → ltb P.limit (s.count + 1) ≡ false → eqb e.cell P.goal ≡ false → P.neighbors e.cell ≡ is ns
        → Midway e.cell (g_of (find e.cell s.known)) (closing e.cell rest s) ns
    looked-on : {c g n : ℕ} {ns : List ℕ} {s t : State} → Midway c g s (n ∷ ns) → relax P c g n s ≡ going t → Midway c g t ns

  -- a neighbour is looked at for which rooms of so many would not do: after it one more cell is known, or one more entry waits. A cell's distance is asked for after there
  -- is room to know it: where that is refused, the cell would have been one more
  pub data OneMore (known waiting : ℕ) : Room → Type 0 where
    one_known : {c g n : ℕ} {ns : List ℕ} {s t : State} → Midway c g s (n ∷ ns) → relax P c g n s ≡ going t
        → length s.known ≡ known → length t.known ≡ suc known → OneMore known waiting Known
    one-refused : {c g n : ℕ} {ns : List ℕ} {s : State} {r : Refusal} → Midway c g s (n ∷ ns) → relax P c g n s ≡ stopped r
        → length s.known ≡ known → is_known (find n s.known) ≡ false → P.heuristic n ≡ refused r → OneMore known waiting Known
    one-waiting : {c g n : ℕ} {ns : List ℕ} {s t : State} → Midway c g s (n ∷ ns) → relax P c g n s ≡ going t
        → length s.waiting ≡ waiting → length t.waiting ≡ suc waiting → OneMore known waiting Waiting

  -- the same of one place and one neighbour that is looked at there: it takes one more known cell; or, with room for the cell, one more waiting entry
  pub data MoreAt (known waiting c g n : ℕ) (s : State) : Room → Type 0 where
    takes-known : {t : State} → relax P c g n s ≡ going t → length s.known ≡ known → length t.known ≡ suc known → MoreAt known waiting c g n s Known
    takes-refused : {r : Refusal} → relax P c g n s ≡ stopped r → length s.known ≡ known → is_known (find n s.known) ≡ false → P.heuristic n ≡ refused r → MoreAt known waiting c g n s Known
    takes-waiting : {t : State} → relax P c g n s ≡ going t → length t.known ≤ known → length s.waiting ≡ waiting → length t.waiting ≡ suc waiting → MoreAt known waiting c g n s Waiting

-- the first place of that kind: the search in the smaller rooms comes to it, and the one in the larger rooms takes one more there than those hold
pub record FirstMore (small large : Problem) (room : Room) : Type 0 where
  pub cell : ℕ
  pub g : ℕ
  pub neighbour : ℕ
  pub others : List ℕ
  pub place : State
  pub midway : Midway small cell g place (neighbour ∷ others)
  pub more : MoreAt large small.known_room small.waiting_room cell g neighbour place room
