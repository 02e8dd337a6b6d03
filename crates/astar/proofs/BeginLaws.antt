-- How a search begins: at first no cell is known and no entry waits, then the start is known and its entry waits. What the bytes hold then is the definition's beginning.
use Rattle.std.specs.Prelude.{Ok}
use mathlib.Core.Path.{◌≡◌, refl, ap, ◌∙◌}
use mathlib.Core.Bool.{false}
use mathlib.Core.List.{List, [], ◌∷◌}
use Prim.Native.Nat.{ℕ, ◌*◌, ◌≤◌, ◌<◌}
use native.Mathlib.Omega.{arith}
use lib.ListN.{length, replicate, drop}
use Rattle.refusal.specs.declared.Cell.{Cell}
use Rattle.refusal.specs.Refusals.{raw_of}
use Rattle.words.specs.Word.{Bytes}
use Rattle.words.proofs.Laws.{bytes_drop, bytes-append, bytes-zeros}
use Rattle.cell.specs.Cell.{distance_cells}
use Rattle.cell.specs.Terms.{Words}
use Rattle.waiting.specs.Inner.Sorted.{ascending_keys, sorted_keys}
use Rattle.waiting.specs.Inner.Steps.{Pushed}
use Rattle.waiting.specs.Inner.Sift.{push_in}
use Rattle.waiting.proofs.Laws.{empty-heap}
use Rattle.waiting.proofs.Sifted.{length_push, pushed-in, bytes-push}
use Rattle.known.specs.Inner.Known.{cell_in, clear_in}
use Rattle.known.proofs.Emptied.{emptied}
use Rattle.search_rows.specs.Inner.Rows.{rows_from, rows_in, append_in, Rows, RowChanged}
use Rattle.search_rows.proofs.Appended.{cell-in, appended-in, cleared-in}
use Rattle.search.specs.Search.{Problem, OrRefused, is, refused, row, state, going, find, put, insert, begin}
use Rattle.search.specs.Plan.{plan_of, distance_bits}
use Rattle.search.specs.Inner.Counted.{closed_in}
use Rattle.search.specs.Costs.{Cost}
use Rattle.search.proofs.Costs.{cost-small, ahead-cost}
use Rattle.expansion.specs.declared.Plan.{Plan}
use Rattle.expansion.specs.declared.Sizes.{Sizes}
use Rattle.expansion.specs.declared.Step.TheVariants as step
use Rattle.expansion.specs.Inner.State.{entries_in, problem_of, HoldsSearch, StepMeets}
use Rattle.expansion.specs.Inner.Bytes.{sizes_of, entry_to, Rooms, going_in}
use Rattle.expansion.proofs.BytesKept.{length-append-in}
use Rattle.expansion.proofs.StateLaws.{Entered, entered-entries, entered-good}
use Rattle.expansion.proofs.Simulates.{Simulates, bytes-appended}
use Rattle.astar.specs.Inner.Bytes.{begun_in, begin_in}

-- ---- what the code writes

module _ (p : Plan) (w h : List ℕ) where
  abbrev told : OrRefused ℕ
  told = distance_bits (distance_cells p.start p.goal)

  -- the buffers keep their lengths
  pub begin-lengths : Rooms p.known p.waiting w h → let x = begin_in p w h in (length x.0 ≡ length w) × (length x.1 ≡ length h)
  unfolding begin_in
  begin-lengths rooms = by-told told
    where
      by-told : (t : OrRefused ℕ) → let x = begun_in p w h t in (length x.0 ≡ length w) × (length x.1 ≡ length h)
      by-told (refused r) = (refl, refl)
      by-told (is x) =
          (length-append-in (clear_in w p.known) p.known 0 p.start 0 0 ∙ (emptied w p.known rooms.roomy).length-kept, length_push h 0 (entry_to x p.start 0))

  -- it knows its start, which waits
  pub begin-sizes : (z : Sizes) → (begin_in p w h).2 ≡ Ok z → z ≡ sizes_of 1 1 0
  unfolding begin_in
  begin-sizes = by-told told
    where
      by-told : (t : OrRefused ℕ) → (z : Sizes) → (begun_in p w h t).2 ≡ Ok z → z ≡ sizes_of 1 1 0
      by-told (refused r) z e = absurd (let n : ◌≡◌ {A = ℕ} 0 1 = cc in omega arith)
      by-told (is x) z e = cc

-- ---- bytes stay bytes

bytes-cleared : (w : List ℕ) (room : ℕ) → Bytes w → Bytes (clear_in w room)
bytes-cleared w room b = bytes-append (replicate (4 * room) 0) (drop (4 * room) w) (bytes-zeros (4 * room)) (bytes_drop (4 * room) w b)

-- ---- what they hold

abbrev none-known : Sizes
none-known = sizes_of 0 0 0

-- where nothing is known and nothing waits
empty-good : (p : Plan) (w h : List ℕ) → Rows w p.known 0 → p.waiting ≤ 65536 → 32 * p.waiting ≤ length h → HoldsSearch p w h none-known
unfolding entries_in sorted_keys ascending_keys rows_in rows_from closed_in
empty-good p w h rows small size =
    record {
      rows = rows;
      heap = empty-heap h;
      few = omega arith;
      small = small;
      size = size;
      costs = λ i below. absurd (omega arith);
      waits = tt;
      counted = refl;
    }

module _ (p : Plan) (flags : List ℕ) (count : ℕ) where
  abbrev P : Problem
  P = problem_of p flags count

  -- with w₀ as lent, and w its chains emptied
  module _ (w₀ w h w' h' : List ℕ) (x : ℕ) (x-cost : Cost x) (words : Words p.start) (rows : Rows w p.known 0) (kept : length w ≡ length w₀)
      (rooms : Rooms p.known p.waiting w₀ h) (first : cell_in w' p.known 0 ≡ p.start)
      (changed : RowChanged w w' p.known 0 1 (put (raw_of p.start) 0 (raw_of (cell_in w' p.known 0)) (rows_in w p.known 0))) (pushes : Pushed h h' 0 (entry_to x p.start 0)) where
    began : Entered p w h w' h' none-known 1 x 0 (raw_of (cell_in w' p.known 0)) p.start
    unfolding rows_in rows_from find
    began =
        record {
          good = empty-good p w h rows rooms.waits.small rooms.size;
          f-cost = x-cost;
          g-cost = cost-small 0 (omega arith);
          words = words;
          unclosed = refl;
          room = rooms.waits.least;
          changed = changed;
          push = pushes;
        }

    rows_are : rows_in w' p.known 1 ≡ row (raw_of p.start) 0 (raw_of p.start) false ∷ []
    unfolding rows_in rows_from put
    rows_are = changed.rows_are ∙ ap (λ (c : Cell). row (raw_of p.start) 0 (raw_of c) false ∷ []) first

    entries-are : entries_in h' 1 ≡ record { f = x; cell = raw_of p.start; g = 0 } ∷ []
    unfolding entries_in sorted_keys ascending_keys insert
    entries-are = entered-entries p w h w' h' none-known 1 x 0 (raw_of (cell_in w' p.known 0)) p.start began

    begin-meets : StepMeets P p w₀ h w' h' (Ok (step.Going (sizes_of 1 1 0))) (begin P (is x))
    unfolding plan_of
    begin-meets =
        record {
          same = λ i. going (state (rows_are i) (entries-are i) 0);
          good = entered-good p w h w' h' none-known 1 x 0 (raw_of (cell_in w' p.known 0)) p.start began;
          workspace-length = changed.length-kept ∙ kept;
          heap-length = pushes.long;
        }

  module _ (w h : List ℕ) (rooms : Rooms p.known p.waiting w h) (bytes : Bytes w) (heap-bytes : Bytes h) (words : Words p.start) where
    begun-simulates : (t : OrRefused ℕ) → t ≡ told p w h → Simulates p flags count w h (going_in (begun_in p w h t)) (begin P t)
    begun-simulates (refused r) e = record { meets = record { same = refl; good = tt; workspace-length = refl; heap-length = refl }; bytes = bytes; heap-bytes = heap-bytes }
    begun-simulates (is x) e =
        let w₁ = clear_in w p.known in
        let empty = emptied w p.known rooms.roomy in
        let rows = cleared-in w p.known rooms.roomy in
        let least = rooms.roomy.least in
        let nowhere : (j : ℕ) → j < 0 → cell_in w₁ p.known j ≡ p.start → ⊥ = λ j below same. omega arith in
        let size = rooms.size in
        let some-room = rooms.waits.least in
        let cost = ahead-cost p.start p.goal x e in
        let small = cost.positive in
        let cleared-bytes = bytes-cleared w p.known bytes in
        record {
          meets = begin-meets w w₁ h (append_in w₁ p.known 0 p.start 0 0) (push_in h 0 (entry_to x p.start 0)) x cost words rows empty.length-kept rooms
              (cell-in w₁ p.known 0 p.start 0 0 rows least (omega arith) nowhere (omega arith) words)
              (appended-in w₁ p.known 0 p.start 0 0 rows least (omega arith) nowhere (omega arith) words cleared-bytes)
              (pushed-in h 0 (entry_to x p.start 0) heap-bytes (record { f-word = omega arith; cell-words = words; g-word = omega arith }) (empty-heap h) (omega arith));
          bytes = bytes-appended w₁ p.known 0 p.start 0 0 cleared-bytes;
          heap-bytes = bytes-push h 0 (entry_to x p.start 0) heap-bytes;
        }

    pub begin-simulates : Simulates p flags count w h (going_in (begin_in p w h)) (begin P (distance_bits (distance_cells p.start p.goal)))
    unfolding begin_in
    begin-simulates = begun-simulates (distance_bits (distance_cells p.start p.goal)) refl
