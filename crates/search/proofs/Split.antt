-- What a search answers by the parities of its ends, with that answer as an argument: a proof goes by its cases. Definitions only.
use Rattle.std.specs.Prelude.{Result}
use Rattle.lattice.specs.declared.Parity.{Parity}
use Rattle.refusal.specs.declared.Refusal.{Refusal}
use Rattle.search.specs.Search.{Problem, SearchResult, none_found, begin, run}
use Rattle.search.specs.Plan.{at_end, pops_for}
use Rattle.lattice.specs.Lattice.{on_parities}

abbrev pub found_between : Result Parity Refusal → Result Parity Refusal → Problem → SearchResult
found_between a b P = on_parities none_found (λ p q. at_end (run P (pops_for P.known_room P.waiting_room) (begin P (P.heuristic P.start)))) a b
