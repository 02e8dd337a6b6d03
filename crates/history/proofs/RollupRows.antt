-- The rows that a rollup makes of any bytes are rows of a layer: they ascend as the groups do, and a record of 24 bytes can hold each.
use mathlib.Core.Path.{◌≡◌, refl, sym, ap₂, subst, ◌∙◌}
use mathlib.Core.Bool.{Bool, true, false, cond, ◌&&◌, and-eq-true_iff}
use mathlib.Core.List.{List, [], ◌∷◌, map}
use Prim.Native.Nat.{ℕ, ◌-◌, ◌/◌, ◌%◌, ◌^◌, ◌<◌}
use lib.Dec.{T, eqb}
use lib.IntN.{pos}
use lib.ListN.{length}
use lib.Ieee.{Float, binary64, fits, add, div, of_int, of_bits, to_bits}
use lib.Ieee.Bits.{to_bits-lt, of_bits-fits}
use lib.Ieee.Fits.{add-fits, div-fits, of_int-fits, cond-fits}
use Rattle.std.specs.Prelude.{Option, Some, None, Result, Ok, Err}
use Rattle.refusal.specs.declared.Cell.{Cell}
use Rattle.refusal.specs.declared.Refusal.{Refusal}
use Rattle.cell.specs.Cell.{less_cell, parent_of}
use Rattle.cell.specs.Terms.{Words}
use Rattle.cell.proofs.Ancestors.{parent-words}
use Rattle.table.specs.Records.{Row, ascending, keeping}
use Rattle.table.specs.Terms.{AllStorable, no_rows, one_more}
use Rattle.sorting.specs.Groups.{Group, numbers_of, last_row, groups_of}
use Rattle.sorting.proofs.GroupLaws.{GroupsStorable, no-groups, one-group, groups-ascending, groups-storable}
use Rattle.aggregate.specs.declared.Aggregation.{Aggregation}
use Rattle.aggregate.specs.declared.Aggregation.TheVariants.{Count, Sum, Mean, Min, Max, Median}
use Rattle.aggregate.specs.declared.NoNumber.TheVariants.{HasNan}
use Rattle.aggregate.specs.Aggregate.{any_nan, sum_from, sum_of, count_of, least_of, greatest_of, kth_of, median_of, number_by, minds, aggregate_of}
use Rattle.rollup.specs.Rollup.{parent_then, parent_rows, group_then, rolled_of}

-- ---- each aggregate is an f64

sums-fit : (s : Float) (vs : List ℕ) → T (fits binary64 s) → T (fits binary64 (sum_from s vs))
unfolding sum_from
sums-fit s [] h = h
sums-fit s (v ∷ vs) h = sums-fit (add binary64 s (of_bits binary64 v)) vs (add-fits binary64 s (of_bits binary64 v))

number_fits : (how : Aggregation) (v : ℕ) (vs : List ℕ) → T (fits binary64 (number_by how v vs))
unfolding count_of sum_of median_of
number_fits Count v vs = of_int-fits binary64 (pos (length (v ∷ vs)))
number_fits Sum v vs = sums-fit (of_bits binary64 (2 ^ 63)) (v ∷ vs) (of_bits-fits binary64 (2 ^ 63))
number_fits Mean v vs = div-fits binary64 (sum_of (v ∷ vs)) (count_of (v ∷ vs))
number_fits Min v vs = of_bits-fits binary64 (least_of v vs)
number_fits Max v vs = of_bits-fits binary64 (greatest_of v vs)
number_fits Median v vs =
    let half = length (v ∷ vs) / 2 in
    let lower = of_bits binary64 (kth_of (half - 1) (v ∷ vs)) in
    let upper = of_bits binary64 (kth_of half (v ∷ vs)) in
    cond-fits binary64 (eqb (length (v ∷ vs) % 2) 0) (div binary64 (add binary64 lower upper) (of_int binary64 (pos 2))) upper (div-fits binary64 (add binary64 lower upper) (of_int binary64 (pos 2))) (of_bits-fits binary64 (kth_of half (v ∷ vs)))

-- so it has 64 bits
number_small : (how : Aggregation) (v : ℕ) (vs : List ℕ) → to_bits binary64 (number_by how v vs) < 256 ^ (24 - 16)
number_small how v vs = to_bits-lt binary64 (number_by how v vs) (number_fits how v vs)

-- ---- a row for each group

-- each row has its group's cell, and keeps 64 bits
data Made : List Group → List Row → Type 0 where
  none_made : Made [] []
  one-made : {g : Group} {gs : List Group} {r : Row} {rs : List Row} → r.cell ≡ g.cell → r.kept < 256 ^ (24 - 16) → Made gs rs → Made (g ∷ gs) (r ∷ rs)

rolled-made : (how : Aggregation) (gs : List Group) (rs : List Row) → rolled_of how gs ≡ Some rs → Made gs rs
unfolding rolled_of aggregate_of
rolled-made how [] rs e = let none : [] ≡ rs = cc in subst (Made []) none none_made
rolled-made how (g ∷ gs) rs e = by-nan (minds how (any_nan (numbers_of g))) (rolled_of how gs) (rolled-made how gs) e
  where
    by-nan : (nan : Bool) (more : Option (List Row)) → ((ss : List Row) → more ≡ Some ss → Made gs ss) → group_then g.cell (cond nan (Err HasNan) (Ok (number_by how g.first g.later))) more ≡ Some rs → Made (g ∷ gs) rs
    by-nan true more f q = absurd (cc)
    by-nan false None f q = absurd (cc)
    by-nan false (Some ss) f q =
        let r = keeping g.cell (to_bits binary64 (number_by how g.first g.later)) in
        let same : r ∷ ss ≡ rs = cc in
        subst (Made (g ∷ gs)) same (one-made refl (number_small how g.first g.later) (f ss refl))

made-ascending : {gs : List Group} {rs : List Row} → Made gs rs → ascending (map last_row gs) ≡ true → ascending rs ≡ true
unfolding ascending
made-ascending none_made up = refl
made-ascending (one-made e k none_made) up = refl
made-ascending (one-made {g = first} e k (one-made {g = second} {gs} f j more)) up =
    let both = (and-eq-true_iff (less_cell first.cell second.cell) (ascending (map last_row (second ∷ gs)))).0 up in
    ap₂ ◌&&◌ (ap₂ less_cell e f ∙ both.0) (made-ascending (one-made {g = second} f j more) both.1)

made-storable : {gs : List Group} {rs : List Row} → GroupsStorable 24 gs → Made gs rs → AllStorable 24 rs
made-storable no-groups none_made = no_rows
made-storable (one-group (one_more s others) a) (one-made e k more) = one_more (record { words = subst Words (sym e) s.words; small = k }) (made-storable a more)

-- ---- the rows of a rollup

parents-storable : (rs : List Row) → AllStorable 24 rs → AllStorable 24 (parent_rows rs)
unfolding parent_rows
parents-storable [] no_rows = no_rows
parents-storable (r ∷ rs) (one_more s a) = by-parent (parent_of r.cell) refl (parents-storable rs a)
  where
    by-parent : (p : Result Cell Refusal) → parent_of r.cell ≡ p → AllStorable 24 (parent_rows rs) → AllStorable 24 (parent_then p r.kept (parent_rows rs))
    by-parent (Err why) e rest = rest
    by-parent (Ok p) e rest = one_more (record { words = parent-words r.cell p s.words e; small = s.small }) rest

module _ (how : Aggregation) (rows rs : List Row) (made : rolled_of how (groups_of (parent_rows rows)) ≡ Some rs) where
  pub rolled-ascending : ascending rs ≡ true
  rolled-ascending = made-ascending (rolled-made how (groups_of (parent_rows rows)) rs made) (groups-ascending (parent_rows rows))

  pub rolled-storable : AllStorable 24 rows → AllStorable 24 rs
  rolled-storable a = made-storable (groups-storable 24 (parent_rows rows) (parents-storable rows a)) (rolled-made how (groups_of (parent_rows rows)) rs made)
