-- A chain of C calls, computed: into a flag table with room for one record one cell is set, and another is refused. So the theorems over chains of calls speak of something.
use mathlib.Core.Path.{refl, sym, ap}
use mathlib.Core.List.{List, [], ◌∷◌, ◌++◌}
use Prim.Native.Nat.{ℕ}
use lib.ListN.{replicate}
use base.Fml.{GName}
use contract.Lifetimes.{Lfts}
use denote.Bor.{Bor}
use denote.Ref.{MutBor}
use Rattle.general.specs.Changed.{saying}
use Rattle.layer.proofs.Points.{first-answered, second-refused}
use Rattle.face.specs.Layers.{of_count}
use Rattle.history.specs.History.{flag_layer, set}
use Rattle.face.specs.LayerAnswers.{telling_count}
use Rattle.tishkolan.proofs.Calls.{FlagsSet, Calls, no-calls, set-flags}
use Rattle.table.specs.Records.{layer}

-- a flag record of the cell whose 16 bytes are all b
abbrev flagged : ℕ → ℕ → List ℕ
flagged b bits = replicate 16 b ++ (0 ∷ 0 ∷ 0 ∷ bits ∷ [])

-- wherever the table and the cell are lent
module _ (lifetimes : Lfts 2) (table cell : ℕ × ℕ) (g : GName) where
  abbrev lent : ℕ × ℕ → GName → List ℕ → MutBor (List ℕ)
  lent ptr name bytes = record { ref_ptr = ptr; ghost_name = name; now = bytes }

  abbrev shown : ℕ × ℕ → List ℕ → Bor (List ℕ)
  shown ptr bytes = record { ref_ptr = ptr; now = bytes }

  -- C is told 0 and one cell
  pub answered-call : FlagsSet
  answered-call =
      record {
        lifetimes = lifetimes;
        arguments = (lent table g (replicate 20 0), (0, (shown cell (replicate 16 7), (1, tt))));
        told = telling_count 0 0 1;
        exit = (lent table g (flagged 7 1), (0, (shown cell (replicate 16 7), (1, tt))));
        meets = sym (ap (saying (of_count 0)) first-answered);
      }

  -- 10 and room 4, and the count that was given
  pub refused-call : FlagsSet
  refused-call =
      record {
        lifetimes = lifetimes;
        arguments = (lent table g (flagged 7 1), (1, (shown cell (replicate 16 8), (1, tt))));
        told = telling_count 10 4 1;
        exit = (lent table g (flagged 7 1), (1, (shown cell (replicate 16 8), (1, tt))));
        meets = sym (ap (saying (of_count 1)) second-refused);
      }

  pub two-calls : Calls flag_layer (layer (replicate 20 0) 0) (set (replicate 16 7) 1 ∷ (set (replicate 16 8) 1 ∷ [])) (layer (flagged 7 1) 1)
  unfolding answered-call refused-call
  two-calls = set-flags answered-call (refl, refl) (set-flags refused-call (refl, refl) no-calls)
