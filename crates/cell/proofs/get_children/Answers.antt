-- The plain cells at the child places, or the refusal of these; of the finest resolution there are none.
use Rattle.std.proofs.Common.{◌≡◌, ℕ, ◌+◌, List, map, Result, Ok, sym, ap, ◌∙◌}
use Rattle.std.proofs.lemmas.Result.{err_from_is_err_and}
use borrow.Author.Tests.{ne_eqb}
use Rattle.refusal.specs.declared.Coord.{Coord}
use Rattle.refusal.specs.declared.Cell.{Cell}
use Rattle.refusal.specs.declared.Refusal.{Refusal}
use Rattle.lattice.specs.Lattice as lattice
use Rattle.cell.specs.Cell.{frame_of, resolution_of, coord_of, plain_at, child_cells, children_of}
use Rattle.cell.proofs.Spread.{made, spread-made}
use Rattle.cell.proofs.get_children.Goals as goal

-- by what is answered of the places
by-places : (c : Cell) {level : ℕ} {p : Coord} {a : Result (List Coord) Refusal} → level ≡ resolution_of c → (level ≡ 255 → ⊥) → p ≡ coord_of c
    → lattice.children_of p ≡ a → made (map (plain_at (frame_of c) (resolution_of c + 1))) a ≡ children_of c
unfolding lattice.children_of child_cells children_of
by-places c l fine place known =
    let cells = map (plain_at (frame_of c) (resolution_of c + 1)) in
    rw (ne_eqb (resolution_of c) 255 (λ e. fine (l ∙ e)))
    (ap (made cells) (sym known ∙ ap lattice.children_of place)
    ∙ sym (spread-made cells (coord_of c) (lattice.has_child_room (coord_of c)) (lattice.child_places (coord_of c))))

pub returns-then-level : goal.returns-then-level
unfolding children_of
returns-then-level c = rw (sym c.resolution-level.ensures ∙ c.if-level.true)

pub returns-in_err-places : goal.returns-in_err-places
returns-in_err-places c =
    let p = err_from_is_err_and c.from_residual.result c.from_residual.ensures.1 in
    rw (p.1, p.2)
    (by-places c.args.c c.resolution-level.ensures c.if-level.false c.coord.ensures (sym c.get_children.ensures ∙ c.in_err-places.was))

pub returns : goal.returns
returns c =
    (λ i. Ok ((c.plain_all.ensures ∙ (λ j. map (plain_at (c.frame.ensures j) (c.resolution-level.ensures j + 1)) c.in_ok-places.places)) i))
    ∙ by-places c.args.c c.resolution-level.ensures c.if-level.false c.coord.ensures (sym c.get_children.ensures ∙ c.in_ok-places.was)
