-- What follows of cells that are laid in a buffer: one more cell put before or behind them is a list that is longer by it, and the buffer is as long as before. And the two
-- answers of a list: it fits, or it does not.
use Rattle.std.specs.Prelude.{Ok, Err}
use mathlib.Core.Path.{◌≡◌, refl, sym, ap, ap₂, ◌∙◌}
use mathlib.Core.List.{List, [], ◌∷◌, ◌++◌, flat_map, append_assoc, append-nil}
use Prim.Native.Nat.{ℕ, ◌+◌, ◌*◌, ◌≤◌, ◌<◌}
use native.Mathlib.Nat.{mul-div-le, mul-le-mul_left}
use native.Mathlib.Omega.{arith}
use borrow.Author.Tests.{le-leb, lt-leb}
use lib.ListN.{length, take, drop, length-append, length-drop, take-append-drop}
use lib.Seq.{take_at, take-take, take-append-le, length-take-le, drop_at, drop-append-add, drop-drop}
use Rattle.refusal.specs.declared.Cell.{Cell}
use Rattle.refusal.specs.declared.Room.TheVariants as room
use Rattle.refusal.specs.declared.Refusal.TheVariants.{NoRoom}
use Rattle.cell.specs.Bytes.{cell_bytes}
use Rattle.cell.proofs.Stored.{length-cell_bytes}
use Rattle.general.proofs.Lists.{flat_map-append}
use Rattle.general.specs.Changed.{changed}
use Rattle.cell_list.specs.Listing.{cells, room_in, cells_laid, listed_in}
use Rattle.cell_list.proofs.Listing.{laid_from}
use Rattle.cell_list.specs.Inner.Listing.{cell_put}

pub length-cells-bytes : (cs : List Cell) → length (flat_map cell_bytes cs) ≡ 16 * length cs
unfolding flat_map
length-cells-bytes [] = refl
length-cells-bytes (c ∷ cs) = length-append (cell_bytes c) (flat_map cell_bytes cs) ∙ omega (arith, length-cell_bytes c, length-cells-bytes cs)

-- as many cells as a buffer has room for lie within it
pub cells-within : (n : ℕ) (l : List ℕ) → n ≤ room_in l → 16 * n ≤ length l
cells-within n l h = omega (arith, mul-le-mul_left 16 h, mul-div-le (length l) 16)

-- ---- cells from an index on

pub none-laid-from : (n : ℕ) (l : List ℕ) → laid_from n [] l ≡ l
unfolding laid_from flat_map
none-laid-from n l =
    let place : 16 * (n + 0) ≡ 16 * n = omega arith in
    ap (λ (k : ℕ). take (16 * n) l ++ drop k l) place ∙ take-append-drop (16 * n) l

-- from the first index on
pub laid-from-front : (cs : List Cell) (l : List ℕ) → laid_from 0 cs l ≡ cells_laid cs l
unfolding laid_from cells_laid
laid-from-front cs l =
    let place : 16 * (0 + length cs) ≡ 16 * length cs = omega arith in
    ap (λ (k : ℕ). flat_map cell_bytes cs ++ drop k l) place

pub length-laid-from : (n : ℕ) (cs : List Cell) (l : List ℕ) → 16 * (n + length cs) ≤ length l → length (laid_from n cs l) ≡ length l
unfolding laid_from
length-laid-from n cs l h =
    length-append (take (16 * n) l) (flat_map cell_bytes cs ++ drop (16 * (n + length cs)) l)
    ∙ omega (arith, length-take-le (16 * n) l (omega arith), length-append (flat_map cell_bytes cs) (drop (16 * (n + length cs)) l), length-cells-bytes cs, length-drop (16 * (n + length cs)) l)

-- one more cell before them
pub cell-before : (n : ℕ) (c : Cell) (cs : List Cell) (l : List ℕ) → 16 * (n + 1) ≤ length l → cell_put (laid_from (n + 1) cs l) n c ≡ laid_from n (c ∷ cs) l
unfolding laid_from cell_put flat_map
cell-before n c cs l h =
    let front = take (16 * (n + 1)) l in
    let rest = drop (16 * (n + 1 + length cs)) l in
    let behind = flat_map cell_bytes cs ++ rest in
    let long : length front ≡ 16 * (n + 1) = length-take-le (16 * (n + 1)) l h in
    let place : 16 * (n + 1 + length cs) ≡ 16 * (n + length (c ∷ cs)) = omega arith in
    let kept : take (16 * n) (front ++ behind) ≡ take (16 * n) l = take-append-le (16 * n) front behind (omega (arith, long)) ∙ take-take (16 * n) (16 * (n + 1)) l (omega arith) in
    ap₂ (λ (a b : List ℕ). a ++ (cell_bytes c ++ b)) kept (drop_at front behind (16 * (n + 1)) long)
    ∙ ap (λ (m : List ℕ). take (16 * n) l ++ m)
    (sym (append_assoc (cell_bytes c) (flat_map cell_bytes cs) rest) ∙ ap (λ (k : ℕ). (cell_bytes c ++ flat_map cell_bytes cs) ++ drop k l) place)

-- ---- cells at the front

-- none laid
pub no-cells-laid : (l : List ℕ) → cells_laid [] l ≡ l
unfolding cells_laid flat_map
no-cells-laid l = refl

pub length-cells-laid : (cs : List Cell) (l : List ℕ) → 16 * length cs ≤ length l → length (cells_laid cs l) ≡ length l
length-cells-laid cs l h = ap length (sym (laid-from-front cs l)) ∙ length-laid-from 0 cs l (omega arith)

-- one more cell at the end of the list
pub cell-appended : (cs : List Cell) (c : Cell) (l : List ℕ) → cell_put (cells_laid cs l) (length cs) c ≡ cells_laid (cs ++ (c ∷ [])) l
unfolding cell_put cells_laid flat_map
cell-appended cs c l =
    let front = flat_map cell_bytes cs in
    let n = length cs in
    let long : length front ≡ 16 * n = length-cells-bytes cs in
    let next : 16 * (n + 1) ≡ length front + 16 = omega arith in
    let whole : 16 * n + 16 ≡ 16 * length (cs ++ (c ∷ [])) = omega (arith, length-append cs (c ∷ [])) in
    let kept : take (16 * n) (front ++ drop (16 * n) l) ≡ front = take_at front (drop (16 * n) l) (16 * n) long in
    let rest : drop (16 * (n + 1)) (front ++ drop (16 * n) l) ≡ drop (16 * length (cs ++ (c ∷ []))) l =
    ap (λ (k : ℕ). drop k (front ++ drop (16 * n) l)) next ∙ drop-append-add front (drop (16 * n) l) 16 ∙ drop-drop 16 (16 * n) l ∙ ap (λ (k : ℕ). drop k l) whole in
    let bytes : front ++ cell_bytes c ≡ flat_map cell_bytes (cs ++ (c ∷ [])) =
    ap (λ (m : List ℕ). front ++ m) (sym (append-nil (cell_bytes c))) ∙ sym (flat_map-append cell_bytes cs (c ∷ [])) in
    ap₂ (λ (a b : List ℕ). a ++ (cell_bytes c ++ b)) kept rest
    ∙ sym (append_assoc front (cell_bytes c) (drop (16 * length (cs ++ (c ∷ []))) l))
    ∙ ap (λ (a : List ℕ). a ++ drop (16 * length (cs ++ (c ∷ []))) l) bytes

-- the first cell
pub cell-first : (c : Cell) (l : List ℕ) → cell_put l 0 c ≡ cells_laid (c ∷ []) l
cell-first c l = ap (λ (m : List ℕ). cell_put m 0 c) (sym (no-cells-laid l)) ∙ cell-appended [] c l

-- ---- the answer

-- a list that fits
pub cells-listed : (cs : List Cell) (l : List ℕ) → length cs ≤ room_in l → listed_in (cells cs) l ≡ changed (Ok (length cs)) (cells_laid cs l)
cells-listed cs l h = rw (le-leb (length cs) (room_in l) h)

-- and one that does not
pub cells-refused : (cs : List Cell) (l : List ℕ) → room_in l < length cs → listed_in (cells cs) l ≡ changed (Err (NoRoom room.Output)) l
cells-refused cs l h = rw (lt-leb (length cs) (room_in l) h)
