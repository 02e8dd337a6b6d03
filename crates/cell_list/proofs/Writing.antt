-- A list that is written cell by cell: those that are laid and those that are still to come are the whole of it.
use mathlib.Core.Path.{◌≡◌, refl, sym, ap, ap₂, ◌∙◌}
use mathlib.Core.List.{List, [], ◌∷◌, ◌++◌, append_assoc, append-nil}
use Prim.Native.Nat.{ℕ, ◌+◌, ◌*◌, ◌≤◌}
use native.Mathlib.Omega.{arith}
use lib.ListN.{length, length-append}
use Rattle.refusal.specs.declared.Cell.{Cell}
use Rattle.cell_list.specs.Listing.{room_in, cells_laid}
use Rattle.cell_list.specs.Inner.Listing.{cell_put}
use Rattle.cell_list.proofs.Laws.{cells-within, no-cells-laid, length-cells-laid, cell-appended}

-- so many cells of the whole list are written, and the rest is to come
pub record Written (all : List Cell) (entry now : List ℕ) (rest : List Cell) (count : ℕ) : Type 0 where
  pub done : List Cell
  pub whole : done ++ rest ≡ all
  pub counted : count ≡ length done
  pub bytes : now ≡ cells_laid done entry

pub nothing_written : (all : List Cell) (entry : List ℕ) → Written all entry entry all 0
nothing_written all entry = record { done = []; whole = refl; counted = refl; bytes = sym (no-cells-laid entry) }

module _ (all : List Cell) (entry now : List ℕ) (rest : List Cell) (count : ℕ) (written : Written all entry now rest count) where
  pub written-and-rest : count + length rest ≡ length all
  written-and-rest = omega (arith, written.counted, length-append written.done rest, ap length written.whole)

  -- what is left of the list need not be changed
  pub rest-same : {more : List Cell} → rest ≡ more → Written all entry now more count
  rest-same e = record { done = written.done; whole = ap (λ (r : List Cell). written.done ++ r) (sym e) ∙ written.whole; counted = written.counted; bytes = written.bytes }

  -- the next cell
  pub next-written : {c : Cell} {more : List Cell} → rest ≡ c ∷ more → Written all entry (cell_put now count c) more (count + 1)
  next-written {c} {more} e =
      record {
        done = written.done ++ (c ∷ []);
        whole = append_assoc written.done (c ∷ []) more ∙ ap (λ (r : List Cell). written.done ++ r) (sym e) ∙ written.whole;
        counted = omega (arith, written.counted, length-append written.done (c ∷ []));
        bytes = ap₂ (λ (m : List ℕ) (k : ℕ). cell_put m k c) written.bytes written.counted ∙ cell-appended written.done c entry;
      }

  -- none is left
  pub all-counted : rest ≡ [] → count ≡ length all
  all-counted e = omega (arith, written-and-rest, ap length e)

  pub all_laid : rest ≡ [] → now ≡ cells_laid all entry
  all_laid e =
      let whole = sym (append-nil written.done) ∙ ap (λ (r : List Cell). written.done ++ r) (sym e) ∙ written.whole in
      written.bytes ∙ ap (λ (cs : List Cell). cells_laid cs entry) whole

  module _ (fits : length all ≤ room_in entry) where
    pub written-length : length now ≡ length entry
    written-length =
        let within : 16 * length written.done ≤ length entry = cells-within (length written.done) entry (omega (arith, written-and-rest, written.counted)) in
        ap length written.bytes ∙ length-cells-laid written.done entry within

    -- there is room for the next one
    pub next-within : {c : Cell} {more : List Cell} → rest ≡ c ∷ more → 16 * (count + 1) ≤ length now
    next-within {c} {more} e =
        let within : 16 * (count + 1) ≤ length entry = cells-within (count + 1) entry (omega (arith, written-and-rest, ap length e)) in
        omega (arith, within, written-length)
