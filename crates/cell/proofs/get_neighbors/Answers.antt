-- The plain cells at the neighbouring places, or the refusal of these.
use Rattle.std.proofs.Common.{◌≡◌, List, map, Result, Ok, sym, ap, ◌∙◌}
use Rattle.std.proofs.lemmas.Result.{err_from_is_err_and}
use Rattle.refusal.specs.declared.Coord.{Coord}
use Rattle.refusal.specs.declared.Cell.{Cell}
use Rattle.refusal.specs.declared.Refusal.{Refusal}
use Rattle.lattice.specs.Lattice as lattice
use Rattle.cell.specs.Cell.{frame_of, resolution_of, coord_of, plain_at, near_cells, neighbors_of}
use Rattle.cell.proofs.Spread.{made, spread-made}
use Rattle.cell.proofs.get_neighbors.Goals as goal

-- by what is answered of the places
by-places : (c : Cell) {p : Coord} {a : Result (List Coord) Refusal} → p ≡ coord_of c → lattice.neighbors_of p ≡ a
    → made (map (plain_at (frame_of c) (resolution_of c))) a ≡ neighbors_of c
unfolding lattice.neighbors_of near_cells neighbors_of
by-places c place known =
    let cells = map (plain_at (frame_of c) (resolution_of c)) in
    ap (made cells) (sym known ∙ ap lattice.neighbors_of place)
    ∙ sym (spread-made cells (coord_of c) (lattice.has_neighbor_room (coord_of c)) (lattice.neighbor_places (coord_of c)))

pub returns-in_err-places : goal.returns-in_err-places
returns-in_err-places c =
    let p = err_from_is_err_and c.from_residual.result c.from_residual.ensures.1 in
    rw (p.1, p.2) (by-places c.args.c c.coord.ensures (sym c.get_neighbors.ensures ∙ c.in_err-places.was))

pub returns : goal.returns
returns c =
    (λ i. Ok ((c.plain_all.ensures ∙ (λ j. map (plain_at (c.frame.ensures j) (c.resolution.ensures j)) c.in_ok-places.places)) i))
    ∙ by-places c.args.c c.coord.ensures (sym c.get_neighbors.ensures ∙ c.in_ok-places.was)
