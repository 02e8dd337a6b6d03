-- How a cell is looked for along its chain. For contracts inside. Definitions only.
use Rattle.std.specs.Prelude.{ℕ, zero, suc, ◌-◌, cond, List, ◌==◌, nat_lt, Option, Some, None}
use Rattle.refusal.specs.declared.Cell.{Cell}
use Rattle.cell.specs.Cell.{same_cell}
use Rattle.known.specs.Inner.Known.{bucket_of, cell_in, link_in, head_in}

-- from record v on, counted from 1, in so many steps at most: the chain ends at 0, and at a record above the bound, which no chain has
unfoldable pub seek_in : ℕ → List ℕ → ℕ → Cell → ℕ → ℕ → Option ℕ
unfolding cell_in
seek_in zero l room c bound v = None
seek_in (suc m) l room c bound v =
    let further = seek_in m l room c (v - 1) (link_in l room (v - 1)) in
    cond (v == 0) None (cond (nat_lt bound v) None (cond (same_cell (cell_in l room (v - 1)) c) (Some (v - 1)) further))

-- a cell among n known ones: from the head of its chain on
unfoldable pub find_in : List ℕ → ℕ → ℕ → Cell → Option ℕ
unfolding seek_in bucket_of
find_in l room n c = seek_in (suc n) l room c n (head_in l (bucket_of c room))
