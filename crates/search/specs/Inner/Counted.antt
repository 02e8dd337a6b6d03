-- How many of the rows are closed, for contracts inside. Definitions only.
use Rattle.std.specs.Prelude.{cond, List, [], ◌∷◌, ℕ, suc}
use Rattle.search.specs.Search.{KnownRow}

-- the closed ones among the known cells, counted
unfoldable pub closed_in : List KnownRow → ℕ
closed_in [] = 0
closed_in (e ∷ es) = cond e.closed (suc (closed_in es)) (closed_in es)
