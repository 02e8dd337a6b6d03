-- The way back, record by record: the cells that were passed and the way from here are the whole way. It is counted, then written from its end: what was written stands between the front
-- and the rest of the output, which are as they were. Where the bytes hold rows, it is the definition's route.
use Rattle.std.specs.Prelude.{Ok, Err, Option, Some, None}
use mathlib.Core.Path.{◌≡◌, refl, sym, ap, ap₂, ◌∙◌}
use mathlib.Core.Bool.{Bool, true, false, cond}
use mathlib.Core.List.{List, [], ◌∷◌, map}
use mathlib.Core.Logic.{◌⊎◌, inl, inr, ⊎_elim}
use Prim.Native.Nat.{ℕ, zero, suc, ◌+◌, ◌-◌, ◌≤◌, ◌<◌}
use native.Mathlib.Omega.{arith}
use lib.Dec.{leb, ltb, eqb}
use lib.ListN.{length, length-map}
use borrow.Author.Tests.{le-leb, lt-ltb, le-ltb, ltb-true}
use Rattle.refusal.specs.declared.Cell.{Cell}
use Rattle.refusal.specs.declared.Room.TheVariants as room
use Rattle.refusal.specs.declared.Refusal.TheVariants.{NoRoom}
use Rattle.refusal.specs.Refusals.{raw_of, cell_of}
use Rattle.words.specs.Word.{Bytes}
use Rattle.cell.specs.Cell.{same_cell}
use Rattle.general.specs.Changed.{changed}
use Rattle.cell_list.specs.Listing.{room_in, cells_laid}
use Rattle.cell_list.proofs.Listing.{laid_from}
use Rattle.cell_list.specs.Inner.Listing.{cell_put}
use Rattle.cell_list.proofs.Laws.{cells-within, none-laid-from, laid-from-front, cell-before}
use Rattle.known.specs.Inner.Known.{cell_in}
use Rattle.known.proofs.Laws.{cell-words}
use Rattle.search.specs.Search.{found, find, before_of, traced}
use Rattle.cell.proofs.Laws.{cell-raw}
use Rattle.search_rows.specs.Inner.Rows.{before_in, row_in, rows_in, Rows}
use Rattle.search_rows.proofs.RowsLaws.{find-row}
use Rattle.expansion.specs.declared.Plan.{Plan}
use Rattle.expansion.specs.declared.Sizes.{Sizes}
use Rattle.general.proofs.Tests.{on_test}
use Rattle.astar.specs.Answer.{answered_in}
use Rattle.astar.specs.Inner.Answer.{way_to}
use Rattle.astar.specs.Inner.Bytes.{way_in, way_back, length_of, laid_in, route_in}

-- ---- the steps of a way, with n known records

module _ (p : Plan) (w : List ℕ) (n : ℕ) where
  abbrev cell : ℕ → Cell
  cell at = cell_in w p.known at

  abbrev before : ℕ → ℕ
  before at = before_in w p.known at

  -- it ends at the start
  way-start : (m at : ℕ) (later : List Cell) → same_cell (cell at) p.start ≡ true → way_in p w n m at later ≡ Some (cell at ∷ later)
  unfolding way_in
  way-start zero at later e = refl
  way-start (suc m) at later e = rw e refl

  -- and where no step is left
  way_out : (m at : ℕ) (later : List Cell) → m ≤ 0 → way_in p w n m at later ≡ Some (cell at ∷ later)
  unfolding way_in
  way_out zero at later none_left = refl
  way_out (suc m) at later none_left = absurd (omega arith)

  module _ (m at : ℕ) (later : List Cell) (some_left : 0 < m) (other : same_cell (cell at) p.start ≡ false) where
    by_before : (b : Bool) → ltb (before at) n ≡ b → way_in p w n m at later ≡ cond b (way_in p w n (m - 1) (before at) (cell at ∷ later)) None
    unfolding way_in
    by_before b e =
        let more : m ≡ suc (m - 1) = omega arith in
        ap (λ (k : ℕ). way_in p w n k at later) more ∙ rw (other, e) refl

    way-more : before at < n → way_in p w n m at later ≡ way_in p w n (m - 1) (before at) (cell at ∷ later)
    way-more less = by_before true (lt-ltb (before at) n less)

    -- no record has the number
    way-broken : n ≤ before at → way_in p w n m at later ≡ None
    way-broken more = by_before false (le-ltb (before at) n more)

  -- ---- a way that is whole

  module _ (cs : List Cell) where
    abbrev Whole : Option (List Cell) → Type 0
    Whole x = x ≡ Some cs

    -- its last step, or one to a known record
    way_step : (m at : ℕ) (later : List Cell) → Whole (way_in p w n m at later) → (cell at ∷ later ≡ cs) ⊎ ((k : ℕ) × (before at < n) × Whole (way_in p w n k (before at) (cell at ∷ later)))
    unfolding way_in
    way_step zero at later e = inl (cc)
    way_step (suc m) at later e =
        let further = way_in p w n m (before at) (cell at ∷ later) in
        let Next : Type 0 = (cell at ∷ later ≡ cs) ⊎ ((k : ℕ) × (before at < n) × Whole (way_in p w n k (before at) (cell at ∷ later))) in
        on_test (λ (x : Option (List Cell)). Whole x → Next) (same_cell (cell at) p.start) (Some (cell at ∷ later)) (cond (ltb (before at) n) further None)
        (λ t f. inl (cc))
        (λ t. on_test (λ (x : Option (List Cell)). Whole x → Next) (ltb (before at) n) further None
        (λ l f. inr (m, ltb-true (before at) n l, f))
        (λ l f. absurd (let z : ◌≡◌ {A = ℕ} 0 1 = cc in omega arith)))
        e

    -- it has at least its last cell
    way-longer : (m at : ℕ) (later : List Cell) → Whole (way_in p w n m at later) → length later < length cs
    unfolding way_in
    way-longer zero at later e = let same : cell at ∷ later ≡ cs = cc in omega (arith, ap length same)
    way-longer (suc m) at later e =
        let further = way_in p w n m (before at) (cell at ∷ later) in
        on_test (λ (x : Option (List Cell)). Whole x → length later < length cs) (same_cell (cell at) p.start) (Some (cell at ∷ later)) (cond (ltb (before at) n) further None)
        (λ t f. let same : cell at ∷ later ≡ cs = cc in omega (arith, ap length same))
        (λ t. on_test (λ (x : Option (List Cell)). Whole x → length later < length cs) (ltb (before at) n) further None
        (λ l f. omega (arith, way-longer m (before at) (cell at ∷ later) f))
        (λ l f. absurd (let z : ◌≡◌ {A = ℕ} 0 1 = cc in omega arith)))
        e

    module _ (m at : ℕ) (later : List Cell) (whole : Whole (way_in p w n m at later)) where
      -- one cell is all that is left of it
      way-last : length cs ≡ length later + 1 → cell at ∷ later ≡ cs
      way-last e = ⊎_elim (λ last. last) (λ on. absurd (omega (arith, way-longer on.0 (before at) (cell at ∷ later) on.2))) (way_step m at later whole)

      -- or more than one
      way-onward : length later + 1 < length cs → (k : ℕ) × (before at < n) × Whole (way_in p w n k (before at) (cell at ∷ later))
      way-onward longer = ⊎_elim (λ last. absurd (omega (arith, ap length last))) (λ on. on) (way_step m at later whole)

-- ---- a way that is counted

-- so many cells were passed; the rest of the way is from record `at`
pub record Counting (p : Plan) (w : List ℕ) (z : Sizes) (i at passed : ℕ) : Type 0 where
  pub later : List Cell
  pub below : at < z.known
  pub whole : way_back p w z i ≡ way_in p w z.known (z.count - passed) at later
  pub counted : passed ≡ length later

module _ {p : Plan} {w : List ℕ} {z : Sizes} {i at passed : ℕ} (a : Counting p w z i at passed) where
  abbrev here : Cell
  here = cell_in w p.known at

  counted-all : way_in p w z.known (z.count - passed) at a.later ≡ Some (here ∷ a.later) → Some (passed + 1) ≡ length_of (way_back p w z i)
  counted-all e =
      let long : passed + 1 ≡ length (here ∷ a.later) = omega (arith, a.counted) in
      ap Some long ∙ sym (ap length_of (a.whole ∙ e))

  pub counting_out : z.count ≡ passed → Some (z.count + 1) ≡ length_of (way_back p w z i)
  counting_out e = ap (λ (n : ℕ). Some (n + 1)) e ∙ counted-all (way_out p w z.known (z.count - passed) at a.later (omega arith))

  module _ (c : Cell) (read : c ≡ cell_in w p.known at) where
    tested-here : {t : Bool} → same_cell c p.start ≡ t → same_cell here p.start ≡ t
    tested-here e = ap (λ (d : Cell). same_cell d p.start) (sym read) ∙ e

    pub counting_ends : same_cell c p.start ≡ true → Some (passed + 1) ≡ length_of (way_back p w z i)
    counting_ends e = counted-all (way-start p w z.known (z.count - passed) at a.later (tested-here e))

    module _ (more : passed < z.count) (other : same_cell c p.start ≡ false) (b : ℕ) (back : b ≡ before_in w p.known at) where
      pub counting_broken : z.known ≤ b → None ≡ length_of (way_back p w z i)
      counting_broken none_has = sym (ap length_of (a.whole ∙ way-broken p w z.known (z.count - passed) at a.later (omega arith) (tested-here other) (omega arith)))

      pub counting_next : b < z.known → Counting p w z i b (passed + 1)
      counting_next less =
          let left : z.count - passed - 1 ≡ z.count - (passed + 1) = omega arith in
          record {
            later = here ∷ a.later;
            below = less;
            whole = a.whole ∙ way-more p w z.known (z.count - passed) at a.later (omega arith) (tested-here other) (omega arith)
                ∙ ap₂ (λ (m j : ℕ). way_in p w z.known m j (here ∷ a.later)) left (sym back);
            counted = omega (arith, a.counted);
          }

-- ---- a way that is written from its end

-- a length is that of a way
whole-way : (x : Option (List Cell)) (cells : ℕ) → length_of x ≡ Some cells → (cs : List Cell) × (x ≡ Some cs) × (length cs ≡ cells)
whole-way None cells e = absurd (let z : ◌≡◌ {A = ℕ} 0 1 = cc in omega arith)
whole-way (Some cs) cells e = (cs, refl, cc)

-- the cells that were passed are written; that of record `at` comes before `place`
pub record Writing (p : Plan) (w : List ℕ) (z : Sizes) (i : ℕ) (entry now : List ℕ) (at place : ℕ) : Type 0 where
  pub left : ℕ
  pub later : List Cell
  pub cells : List Cell
  pub below : at < z.known
  pub way : way_back p w z i ≡ Some cells
  pub whole : way_in p w z.known left at later ≡ Some cells
  pub placed : place + length later ≡ length cells
  pub fits : length cells ≤ room_in entry
  pub bytes : now ≡ laid_from place later entry

module _ (p : Plan) (w : List ℕ) (z : Sizes) (i cells : ℕ) (long : length_of (way_back p w z i) ≡ Some cells) where
  pub writing_start : (entry : List ℕ) → i < z.known → cells ≤ room_in entry → Writing p w z i entry entry i cells
  writing_start entry below within =
      let way = whole-way (way_back p w z i) cells long in
      record {
        left = z.count;
        later = [];
        cells = way.0;
        below = below;
        way = way.1;
        whole = way.1;
        placed = omega (arith, way.2);
        fits = omega (arith, way.2, within);
        bytes = sym (none-laid-from cells entry);
      }

module _ {p : Plan} {w : List ℕ} {z : Sizes} {i : ℕ} {entry now : List ℕ} {at place : ℕ} (a : Writing p w z i entry now at place) where
  abbrev this : Cell
  this = cell_in w p.known at

  -- that of record `at` is not written yet
  pub writing_some : 0 < place
  writing_some = omega (arith, way-longer p w z.known a.cells a.left at a.later a.whole, a.placed)

  module _ (c : Cell) (read : c ≡ cell_in w p.known at) (now' : List ℕ) where
    cell-written : (k : ℕ) → place ≡ k + 1 → now' ≡ cell_put now k c → now' ≡ laid_from k (this ∷ a.later) entry
    cell-written k e put =
        put
        ∙ ap₂ (λ (m : List ℕ) (d : Cell). cell_put m k d) (a.bytes ∙ ap (λ (j : ℕ). laid_from j a.later entry) e) read
        ∙ cell-before k this a.later entry (cells-within (k + 1) entry (omega (arith, a.placed, a.fits)))

    -- the way is whole, so that there is a known record before
    pub writing_next : now' ≡ cell_put now (place - 1) c → 1 < place → (b : ℕ) → b ≡ before_in w p.known at → Writing p w z i entry now' b (place - 1)
    writing_next put more b back =
        let on = way-onward p w z.known a.cells a.left at a.later a.whole (omega (arith, a.placed)) in
        record {
          left = on.0;
          later = this ∷ a.later;
          cells = a.cells;
          below = omega (arith, on.1, back);
          way = a.way;
          whole = ap (λ (j : ℕ). way_in p w z.known on.0 j (this ∷ a.later)) back ∙ on.2;
          placed = omega (arith, a.placed);
          fits = a.fits;
          bytes = cell-written (place - 1) (omega arith) put;
        }

    -- it is the only one
    pub writing_last : now' ≡ cell_put now 0 c → place ≤ 1 → now' ≡ laid_in (way_back p w z i) entry
    writing_last put only =
        let last = way-last p w z.known a.cells a.left at a.later a.whole (omega (arith, a.placed, writing_some)) in
        cell-written 0 (omega (arith, writing_some)) put
        ∙ laid-from-front (this ∷ a.later) entry
        ∙ ap (λ (cs : List Cell). cells_laid cs entry) last
        ∙ ap (λ (x : Option (List Cell)). laid_in x entry) (sym a.way)

-- ---- the answer

module _ (g n : ℕ) (l : List ℕ) where
  pub route-found : (x : Option (List Cell)) (cells cost : ℕ) (out : List ℕ) → Some cells ≡ length_of x → cells ≤ room_in l → cost ≡ g → out ≡ laid_in x l
      → changed (Ok (record { cells = cells; cost = cost; expansions = n })) out ≡ route_in x g n l
  route-found None cells cost out e fits paid laid = absurd (let z : ◌≡◌ {A = ℕ} 0 1 = cc in omega arith)
  route-found (Some cs) cells cost out e fits paid laid =
      let long : cells ≡ length cs = cc in
      rw (le-leb (length cs) (room_in l) (omega arith)) (λ k. changed (Ok (record { cells = long k; cost = paid k; expansions = n })) (laid k))

-- ---- the definition's route

-- cells by their raw numbers
pub route-answered : (cs : List ℕ) (g n : ℕ) (l : List ℕ) → route_in (Some (map cell_of cs)) g n l ≡ answered_in (found cs g n) l
route-answered cs g n l =
    ap (λ (k : ℕ). cond (leb k (room_in l)) (changed (Ok (record { cells = k; cost = g; expansions = n })) (cells_laid (map cell_of cs) l)) (changed (Err (NoRoom room.Output)) l))
    (length-map cs cell_of)

module _ (p : Plan) (w : List ℕ) (n : ℕ) (rows : Rows w p.known n) (bytes : Bytes w) where
  abbrev raw : ℕ → ℕ
  raw at = raw_of (cell_in w p.known at)

  abbrev rest : ℕ → ℕ → List ℕ → List ℕ
  rest m c later = traced (raw_of p.start) m (rows_in w p.known n) c later

  -- a record's cell is that of its raw number
  cell_same : (at : ℕ) → cell_in w p.known at ≡ cell_of (raw at)
  cell_same at = sym (cell-raw (cell_in w p.known at) (cell-words w p.known at bytes))

  -- the cell before a record's is that of the record before
  before-row : (at : ℕ) → at < n → before_of (find (raw at) (rows_in w p.known n)) ≡ raw (before_in w p.known at)
  unfolding row_in
  before-row at below = ap before_of (find-row w p.known n rows bytes at below)

  -- where the bytes hold rows, there is a way, and it is the definition's
  pub way-traced : (m at : ℕ) (later : List ℕ) → at < n → way_in p w n m at (map cell_of later) ≡ Some (map cell_of (rest m (raw at) later))
  unfolding way_in traced
  way-traced zero at later below = ap (λ (c : Cell). Some (c ∷ map cell_of later)) (cell_same at)
  way-traced (suc m) at later below =
      let back = rows.back at below in
      let on = way-traced m (before_in w p.known at) (raw at ∷ later) back in
      rw (lt-ltb (before_in w p.known at) n back)
      (by-start (eqb (raw at) (raw_of p.start)) (rest m (before_of (find (raw at) (rows_in w p.known n))) (raw at ∷ later))
      (ap (λ (c : Cell). way_in p w n m (before_in w p.known at) (c ∷ map cell_of later)) (cell_same at)
      ∙ on
      ∙ ap (λ (c : ℕ). Some (map cell_of (rest m c (raw at ∷ later)))) (sym (before-row at below))))
    where
      by-start : (t : Bool) (cs : List ℕ) {x : Option (List Cell)} → x ≡ Some (map cell_of cs) → cond t (Some (cell_in w p.known at ∷ map cell_of later)) x ≡ Some (map cell_of (cond t (raw at ∷ later) cs))
      by-start true cs e = ap (λ (c : Cell). Some (c ∷ map cell_of later)) (cell_same at)
      by-start false cs e = e

  pub way-back : (z : Sizes) (i : ℕ) → n ≡ z.known → i < n → way_back p w z i ≡ Some (map cell_of (way_to p w z i))
  way-back z i e below =
      ap (λ (k : ℕ). way_in p w k z.count i []) (sym e) ∙ way-traced z.count i [] below
      ∙ ap (λ (k : ℕ). Some (map cell_of (traced (raw_of p.start) z.count (rows_in w p.known k) (raw i) []))) e
