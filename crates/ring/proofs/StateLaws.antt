-- How what a walk has seen grows with its workspace.
use mathlib.Core.Path.{◌≡◌, refl, sym, ap, ap₂, ◌∙◌}
use mathlib.Core.Bool.{Bool, cond}
use mathlib.Core.List.{List, [], ◌∷◌, ◌++◌}
use Prim.Native.Nat.{ℕ, suc, ◌+◌, ◌-◌, ◌≤◌, ◌<◌}
use native.Mathlib.Numerals.{add-one}
use native.Mathlib.Omega.{arith}
use lib.ListN.{length}
use Rattle.refusal.specs.declared.Cell.{Cell}
use Rattle.known.specs.Inner.Known.{cell_in, cells_in, known_cells, Known, Added}
use Rattle.known.proofs.Laws.{length-cells, cells-more, added-cell, cells_same}
use Rattle.ring.specs.Ring.{sight, noted, further}
use Rattle.ring.specs.Inner.State.{cells_between, sight_in, Grown}

-- ---- growing

pub grown-none : (l : List ℕ) (room n : ℕ) → Known l room n → Grown l l room n n
grown-none l room n known = record { known = known; more = omega arith; cells = λ j less. refl; length-kept = refl }

pub grown-twice : {l l' l'' : List ℕ} {room n n' n'' : ℕ} → Grown l l' room n n' → Grown l' l'' room n' n'' → Grown l l'' room n n''
grown-twice {n = n} {n' = n'} first second =
    let more = first.more in
    record {
      known = second.known;
      more = omega (arith, second.more);
      cells = λ j less. second.cells j (omega arith) ∙ first.cells j less;
      length-kept = second.length-kept ∙ first.length-kept;
    }

pub grown-added : {l l' : List ℕ} {room n : ℕ} {c : Cell} → Added l l' room n c → Grown l l' room n (n + 1)
grown-added added = record { known = added.known; more = omega arith; cells = added.cells; length-kept = added.length-kept }

-- the cells known before stand where they stood
pub grown-between : {l l' : List ℕ} {room n n' : ℕ} (from to : ℕ) → Grown l l' room n n' → to ≤ n → cells_between l' room from to ≡ cells_between l room from to
grown-between {l} {l'} {room} from to grown within = cells_same l l' room from (to - from) (λ j after below. grown.cells j (omega arith))

pub grown-known : {l l' : List ℕ} {room n n' : ℕ} (i : ℕ) → Grown l l' room n n' → i ≤ n → known_cells l' room i ≡ known_cells l room i
grown-known {l} {l'} {room} i grown within = cells_same l l' room 0 i (λ j after below. grown.cells j (omega arith))

-- ---- what is seen

pub same-sight : {k k' f f' l l' : List Cell} → k ≡ k' → f ≡ f' → l ≡ l' → sight k f l ≡ sight k' f' l'
same-sight known found listed = λ i. sight (known i) (found i) (listed i)

-- no cell stands between a record and itself
pub none_between : (l : List ℕ) (room n : ℕ) → cells_between l room n n ≡ []
unfolding cells_in
none_between l room n =
    let none : n - n ≡ 0 = omega arith in
    ap (cells_in l room n) none

-- the cell of a record, and those behind it
pub first-between : (l : List ℕ) (room from to : ℕ) → from < to → cells_between l room from to ≡ cell_in l room from ∷ cells_between l room (from + 1) to
unfolding cells_in
first-between l room from to less =
    let size : to - from ≡ suc (to - (from + 1)) = omega arith in
    ap (cells_in l room from) size ∙ ap (λ (k : ℕ). cell_in l room from ∷ cells_in l room k (to - (from + 1))) (sym (add-one from))

pub length-between : (l : List ℕ) (room from to : ℕ) → length (cells_between l room from to) ≡ to - from
length-between l room from to = length-cells l room from (to - from)

-- a cell added is noted
pub sight-added : {l l' : List ℕ} {room n : ℕ} {c : Cell} (every : Bool) (to i : ℕ) → Added l l' room n c → to ≤ n → i ≤ to → sight_in every l' room (n + 1) to i ≡ noted c (sight_in every l room n to i)
sight-added {l} {l'} {room} {n} {c} every to i added within before =
    let size : n + 1 - to ≡ (n - to) + 1 = omega arith in
    let last : to + (n - to) ≡ n = omega arith in
    let grown = grown-added added in
    same-sight added.more
    (ap (cells_in l' room to) size
    ∙ cells-more l' room to (n - to)
    ∙ ap₂ (λ (cells : List Cell) (d : Cell). cells ++ (d ∷ [])) (grown-between to n grown (omega arith)) (ap (cell_in l' room) last ∙ added-cell added))
    (ap (λ (cells : List Cell). cond every cells []) (grown-known i grown (omega arith)))

-- the cells found are the next ones at hand
pub sight-further : (every : Bool) (l : List ℕ) (room n to i : ℕ) → further (sight_in every l room n to i) ≡ sight_in every l room n n i
sight-further every l room n to i = same-sight refl (sym (none_between l room n)) refl
