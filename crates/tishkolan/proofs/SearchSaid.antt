-- What `astar` says and leaves, told.
use Rattle.std.specs.Prelude.{Result}
use Rattle.search.specs.declared.Route.{Route}
use Rattle.refusal.specs.declared.Refusal.{Refusal}
use mathlib.Core.Path.{◌≡◌, ap, ◌∙◌}
use mathlib.Core.List.{List}
use Prim.Native.Nat.{ℕ}
use Rattle.search.specs.SearchOutcome.{Searched, searched}
use Rattle.face.specs.declared.SearchTold.{SearchTold}
use Rattle.face.specs.Searches.{of_search, search_told, of_searched}

pub search-said : {a : Result Route Refusal} {t : SearchTold} {w h l : List ℕ} {s : Searched} → searched a w h l ≡ s → t ≡ of_search a → search_told t w h l ≡ of_searched s
search-said {w = w} {h = h} {l = l} e told = ap (λ (t : SearchTold). search_told t w h l) told ∙ ap of_searched e
