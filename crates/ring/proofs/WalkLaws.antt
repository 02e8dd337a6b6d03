-- What one part of a walk does if it goes on: to list a cell adds it to the cells listed, and to see cells or to expand one does not look at those.
use Rattle.std.specs.Prelude.{Result, Ok, Err}
use mathlib.Core.Path.{◌≡◌, refl, sym, ap, ◌∙◌}
use mathlib.Core.Bool.{Bool, true, false, cond}
use mathlib.Core.List.{List, [], ◌∷◌, ◌++◌, append_assoc, append-nil}
use Prim.Native.Nat.{ℕ, ◌+◌, ◌≤◌, ◌<◌}
use native.Mathlib.Omega.{arith}
use borrow.Author.Tests.{ltb-true, lt-ltb}
use lib.Dec.{ltb}
use lib.ListN.{length, length-append}
use Rattle.refusal.specs.declared.Cell.{Cell}
use Rattle.refusal.specs.declared.Room.TheVariants.{Known, Waiting, Output}
use Rattle.refusal.specs.declared.Refusal.{Refusal}
use Rattle.refusal.specs.declared.Refusal.TheVariants.{NoRoom}
use Rattle.cell.specs.Cell.{neighbors_of}
use Rattle.ring.specs.declared.Rooms.{Rooms}
use Rattle.ring.specs.Ring.{Sight, sight, Walk, going, stopped, and_then, is_among, noted, see, see_all, expand_into, expand, list, list_if, level, list_all}

-- ---- going on

pub going-same : {s t : Sight} → going s ≡ going t → s ≡ t
going-same e = cc

pub stopped-going : {r : Refusal} {t : Sight} → stopped r ≡ going t → ⊥
stopped-going e = let z : ◌≡◌ {A = ℕ} 0 1 = cc in omega arith

-- two parts go on where the first does and the second does from there
pub record Both (w : Walk) (next : Sight → Walk) (t : Sight) : Type 0 where
  pub between : Sight
  pub first : w ≡ going between
  pub second : next between ≡ going t

pub both_go : (w : Walk) (next : Sight → Walk) {t : Sight} → and_then w next ≡ going t → Both w next t
both_go (going s) next e = record { between = s; first = refl; second = e }
both_go (stopped r) next e = absurd (stopped-going e)

-- a part with a test goes on where the test holds
pub test-passed : (b : Bool) (w : Walk) (r : Refusal) {t : Sight} → cond b w (stopped r) ≡ going t → (b ≡ true) × (w ≡ going t)
test-passed true w r e = (refl, e)
test-passed false w r e = absurd (stopped-going e)

-- ---- cells listed

-- the same sight with other cells listed
abbrev pub relisted : List Cell → Sight → Sight
relisted l s = sight s.known s.found l

-- the cells listed so far if all are listed, and none if only the last ones are
abbrev pub if_every : Bool → List Cell → List Cell
if_every every cs = cond every cs []

pub every-none : (every : Bool) → if_every every [] ≡ []
every-none true = refl
every-none false = refl

pub every_append : (every : Bool) (bs cs : List Cell) → if_every every bs ++ if_every every cs ≡ if_every every (bs ++ cs)
every_append true bs cs = refl
every_append false bs cs = refl

-- a cell that was listed can be listed behind fewer
pub list-behind : (rooms : Rooms) (c : Cell) (s t u : Sight) → list rooms c s ≡ going t → length u.listed ≤ length s.listed → list rooms c u ≡ going (relisted (u.listed ++ (c ∷ [])) u)
unfolding list
list-behind rooms c s t u e h =
    let room = (test-passed (ltb (length s.listed) rooms.output) (going (relisted (s.listed ++ (c ∷ [])) s)) (NoRoom Output) e).0 in
    let less : length u.listed < rooms.output = omega (arith, ltb-true (length s.listed) rooms.output room) in
    rw (lt-ltb (length u.listed) rooms.output less)

pub list-adds : (rooms : Rooms) (c : Cell) (s t : Sight) → list rooms c s ≡ going t → t ≡ relisted (s.listed ++ (c ∷ [])) s
list-adds rooms c s t e = going-same (sym e ∙ list-behind rooms c s t s e (omega arith))

pub list-if-adds : (every : Bool) (rooms : Rooms) (c : Cell) (s t : Sight) → list_if every rooms c s ≡ going t → t ≡ relisted (s.listed ++ if_every every (c ∷ [])) s
list-if-adds true rooms c s t e = list-adds rooms c s t e
list-if-adds false rooms c s t e = sym (going-same e) ∙ ap (λ (l : List Cell). relisted l s) (sym (append-nil s.listed))

-- and so can cells one after the other
pub list-all-behind : (rooms : Rooms) (cs : List Cell) (s t u : Sight) → list_all rooms cs s ≡ going t → length u.listed ≤ length s.listed → list_all rooms cs u ≡ going (relisted (u.listed ++ cs) u)
unfolding list_all
list-all-behind rooms [] s t u e h = ap (λ (l : List Cell). going (relisted l u)) (sym (append-nil u.listed))
list-all-behind rooms (c ∷ cs) s t u e h =
    let both = both_go (list rooms c s) (list_all rooms cs) e in
    let more : Sight = relisted (u.listed ++ (c ∷ [])) u in
    let longer : length both.between.listed ≡ length s.listed + 1 = ap (λ (s : Sight). length s.listed) (list-adds rooms c s both.between both.first) ∙ length-append s.listed (c ∷ []) in
    ap (λ (w : Walk). and_then w (list_all rooms cs)) (list-behind rooms c s both.between u both.first h)
    ∙ list-all-behind rooms cs both.between t more both.second (omega (arith, length-append u.listed (c ∷ [])))
    ∙ ap (λ (l : List Cell). going (relisted l u)) (append_assoc u.listed (c ∷ []) cs)

pub list-all-adds : (rooms : Rooms) (cs : List Cell) (s t : Sight) → list_all rooms cs s ≡ going t → t ≡ relisted (s.listed ++ cs) s
list-all-adds rooms cs s t e = going-same (sym e ∙ list-all-behind rooms cs s t s e (omega arith))

-- ---- cells seen, with other cells listed

abbrev pub walk_relisted : List Cell → Walk → Walk
walk_relisted l (going s) = going (relisted l s)
walk_relisted l (stopped r) = stopped r

module _ (rooms : Rooms) (others : ℕ) (l : List Cell) where
  see-relisted : (c : Cell) (s : Sight) → see rooms others c (relisted l s) ≡ walk_relisted l (see rooms others c s)
  unfolding see
  see-relisted c s = by_tests (is_among c s.known) (ltb (length s.known) rooms.known) (ltb (others + length s.found) rooms.waiting)
    where
      by_tests : (a k w : Bool) → cond a (going (relisted l s)) (cond k (cond w (going (relisted l (noted c s))) (stopped (NoRoom Waiting))) (stopped (NoRoom Known)))
          ≡ walk_relisted l (cond a (going s) (cond k (cond w (going (noted c s)) (stopped (NoRoom Waiting))) (stopped (NoRoom Known))))
      by_tests true k w = refl
      by_tests false true true = refl
      by_tests false true false = refl
      by_tests false false w = refl

  see-all-relisted : (cs : List Cell) (s : Sight) → see_all rooms others cs (relisted l s) ≡ walk_relisted l (see_all rooms others cs s)
  unfolding see_all
  see-all-relisted [] s = refl
  see-all-relisted (c ∷ cs) s = ap (λ (w : Walk). and_then w (see_all rooms others cs)) (see-relisted c s) ∙ on (see rooms others c s) (see-all-relisted cs)
    where
      on : (w : Walk) → ((s : Sight) → see_all rooms others cs (relisted l s) ≡ walk_relisted l (see_all rooms others cs s)) → and_then (walk_relisted l w) (see_all rooms others cs) ≡ walk_relisted l (and_then w (see_all rooms others cs))
      on (going s) rest = rest s
      on (stopped r) rest = refl

  pub expand-relisted : (c : Cell) (s : Sight) → expand rooms others c (relisted l s) ≡ walk_relisted l (expand rooms others c s)
  unfolding expand
  expand-relisted c s = by-answer (neighbors_of c)
    where
      by-answer : (a : Result (List Cell) Refusal) → expand_into rooms others a (relisted l s) ≡ walk_relisted l (expand_into rooms others a s)
      by-answer (Err r) = refl
      by-answer (Ok cs) = see-all-relisted cs s

-- to expand a cell lists none
pub expand-lists-none : (rooms : Rooms) (others : ℕ) (c : Cell) (s t : Sight) → expand rooms others c s ≡ going t → t.listed ≡ s.listed
expand-lists-none rooms others c s t e = ap (λ (s : Sight). s.listed) (going-same (sym e ∙ expand-relisted rooms others s.listed c s ∙ ap (walk_relisted s.listed) e))

-- ---- a level

-- it lists its cells, if all are listed
pub level-lists : (every : Bool) (rooms : Rooms) (cs : List Cell) (s t : Sight) → level every rooms cs s ≡ going t → t.listed ≡ s.listed ++ if_every every cs
unfolding level
level-lists every rooms [] s t e = ap (λ (s : Sight). s.listed) (sym (going-same e)) ∙ sym (append-nil s.listed) ∙ ap (λ (l : List Cell). s.listed ++ l) (sym (every-none every))
level-lists every rooms (c ∷ cs) s t e =
    let outer = both_go (and_then (list_if every rooms c s) (expand rooms (length cs) c)) (level every rooms cs) e in
    let inner = both_go (list_if every rooms c s) (expand rooms (length cs) c) outer.first in
    level-lists every rooms cs outer.between t outer.second
    ∙ ap (λ (l : List Cell). l ++ if_every every cs) (expand-lists-none rooms (length cs) c inner.between outer.between inner.second ∙ ap (λ (s : Sight). s.listed) (list-if-adds every rooms c s inner.between inner.first))
    ∙ append_assoc s.listed (if_every every (c ∷ [])) (if_every every cs)
    ∙ ap (λ (l : List Cell). s.listed ++ l) (every_append every (c ∷ []) cs)

-- where a level goes on that lists its cells, so does one that lists none
pub level-of-shell : (rooms : Rooms) (cs : List Cell) (s t : Sight) (l : List Cell) → level true rooms cs s ≡ going t → level false rooms cs (relisted l s) ≡ going (relisted l t)
unfolding level
level-of-shell rooms [] s t l e = ap (λ (s : Sight). going (relisted l s)) (going-same e)
level-of-shell rooms (c ∷ cs) s t l e =
    let outer = both_go (and_then (list rooms c s) (expand rooms (length cs) c)) (level true rooms cs) e in
    let inner = both_go (list rooms c s) (expand rooms (length cs) c) outer.first in
    let expanded : expand rooms (length cs) c (relisted l s) ≡ going (relisted l outer.between) =
    ap (λ (s : Sight). expand rooms (length cs) c (relisted l s)) (sym (list-adds rooms c s inner.between inner.first))
    ∙ expand-relisted rooms (length cs) l c inner.between
    ∙ ap (walk_relisted l) inner.second in
    ap (λ (w : Walk). and_then w (level false rooms cs)) expanded ∙ level-of-shell rooms cs outer.between t l outer.second

-- and its cells can be listed without expanding them
pub level-only-listed : (rooms : Rooms) (cs : List Cell) (s t : Sight) → level true rooms cs s ≡ going t → list_all rooms cs s ≡ going (relisted (s.listed ++ cs) s)
unfolding level list_all
level-only-listed rooms [] s t e = ap (λ (l : List Cell). going (relisted l s)) (sym (append-nil s.listed))
level-only-listed rooms (c ∷ cs) s t e =
    let outer = both_go (and_then (list rooms c s) (expand rooms (length cs) c)) (level true rooms cs) e in
    let inner = both_go (list rooms c s) (expand rooms (length cs) c) outer.first in
    let rest = level-only-listed rooms cs outer.between t outer.second in
    let same = ap length (expand-lists-none rooms (length cs) c inner.between outer.between inner.second) in
    ap (λ (w : Walk). and_then w (list_all rooms cs)) inner.first
    ∙ list-all-behind rooms cs outer.between (relisted (outer.between.listed ++ cs) outer.between) inner.between rest (omega arith)
    ∙ ap (λ (s : Sight). going (relisted (s.listed ++ cs) s)) (list-adds rooms c s inner.between inner.first)
    ∙ ap (λ (l : List Cell). going (relisted l s)) (append_assoc s.listed (c ∷ []) cs)
