-- Verdicts on four lists and choices between three pairs, by computation.
use mathlib.Core.Path.{◌≡◌, refl}
use mathlib.Core.List.{List, [], ◌∷◌, flat_map}
use Prim.Native.Nat.{ℕ}
use lib.IntN.{pos}
use lib.Ieee.{add, of_bits, to_bits}
use Rattle.refusal.specs.declared.Cell.{Cell}
use Rattle.refusal.specs.Refusals.{raw_of}
use Rattle.words.specs.Word.{low_digits, number, ordered, bytes_of}
use Rattle.lattice.specs.Lattice.{at}
use Rattle.cell.specs.Cell.{plain_at}
use Rattle.cell.specs.Bytes.{cell_bytes}
use Rattle.route.specs.Route.{verdict_of, choice_of, claim}
use Rattle.route.specs.Choice.{choice_between}
use Rattle.table.specs.Records.{layer}

-- a plain cell of frame 0 and resolution 0
abbrev cell : ℕ → ℕ → ℕ → Cell
cell x y z = plain_at 0 0 (at (pos x) (pos y) (pos z))

-- the verdict on these cells under rule 1, with no records
abbrev judged : List Cell → Cell → Cell → ℕ → ℕ
judged cells start goal cost = verdict_of (claim (flat_map cell_bytes cells) (cell_bytes start) (cell_bytes goal) cost) (layer [] 0) 1

-- from (0,0,0) through (1,1,1) to (2,2,0)
abbrev two-diagonals : List Cell
two-diagonals = cell 0 0 0 ∷ cell 1 1 1 ∷ cell 2 2 0 ∷ []

-- at twice the root of 3 that list is accepted, with the last bit of the cost turned it is not; an empty list is not; over the edge of the 32-bit numbers a step is accepted that the
-- search does not take
pub four-verdicts :
    (judged two-diagonals (cell 0 0 0) (cell 2 2 0) 0x400B_B67A_E858_4CAA ≡ 0)
    × (judged two-diagonals (cell 0 0 0) (cell 2 2 0) 0x400B_B67A_E858_4CAB ≡ 25)
    × (judged [] (cell 0 0 0) (cell 2 2 0) 0 ≡ 20)
    × (judged (cell 2147483646 0 0 ∷ cell 2147483644 0 0 ∷ []) (cell 2147483646 0 0) (cell 2147483644 0 0) 0x4000_0000_0000_0000 ≡ 0)
unfolding verdict_of cell_bytes bytes_of ordered low_digits number raw_of flat_map add of_bits to_bits
four-verdicts = (refl, refl, refl, refl)

-- the choice between that list at one cost, sent, and the same at another, homing
abbrev chosen : ℕ → ℕ → ℕ
chosen cost price =
    let route = flat_map cell_bytes two-diagonals in
    choice_between (claim route (cell_bytes (cell 0 0 0)) (cell_bytes (cell 2 2 0)) cost) (claim route (cell_bytes (cell 0 0 0)) (cell_bytes (cell 2 2 0)) price) (layer [] 0) 1

-- the sent list where it is accepted, though the homing one is too; the homing list where only that is; neither
pub each-choice : (chosen 0x400B_B67A_E858_4CAA 0x400B_B67A_E858_4CAA ≡ 1) × (chosen 0x400B_B67A_E858_4CAB 0x400B_B67A_E858_4CAA ≡ 2) × (chosen 0x400B_B67A_E858_4CAB 0x400B_B67A_E858_4CAB ≡ 0)
unfolding verdict_of choice_of cell_bytes bytes_of ordered low_digits number raw_of flat_map add of_bits to_bits
each-choice = (refl, refl, refl)
