-- The calls on a layer that change nothing, by the scope document's order of refusals: BadList for a cell that has not 16 bytes, then BadLayer. Definitions only.
use Rattle.std.specs.Prelude.{Bool, true, false, List, ℕ, Option, Some, None, Result, Ok, Err}
use Rattle.refusal.specs.declared.Refusal.{Refusal}
use Rattle.refusal.specs.declared.Refusal.TheVariants.{BadLayer}
use Rattle.cell.specs.Bytes.{from_bytes_of, on_cell}
use Rattle.table.specs.Records.{held_of, rows_of, is_sound}
use Rattle.general.specs.Refuse.{refuse_unless}

-- what is kept of the cell of these bytes in the first n records of w bytes of the table l
unfoldable pub held_in : ℕ → List ℕ → ℕ → List ℕ → Result (Option ℕ) Refusal
unfolding from_bytes_of is_sound held_of rows_of
held_in width table n id =
    on_cell Err
    (λ c. refuse_unless (is_sound width table n) (Err BadLayer)
    (Ok (held_of c (rows_of width table n))))
    id

-- whether anything is kept
abbrev pub of_contains : Result (Option ℕ) Refusal → Result Bool Refusal
of_contains (Ok (Some k)) = Ok true
of_contains (Ok None) = Ok false
of_contains (Err r) = Err r

-- how many cells: the count itself, of a sound layer
unfoldable pub count_in : ℕ → List ℕ → ℕ → Result ℕ Refusal
unfolding is_sound
count_in width table n = refuse_unless (is_sound width table n) (Err BadLayer) (Ok n)
