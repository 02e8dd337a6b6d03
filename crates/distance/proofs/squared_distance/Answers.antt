-- The differences fit, as the test says, so that each square is that of the definition.
use mathlib.Core.Path.{◌≡◌, sym, ◌∙◌, subst}
use mathlib.Core.Bool.{true}
use lib.Ieee.{binary64, add}
use Rattle.refusal.specs.declared.Coord.{Coord}
use Rattle.lattice.proofs.Fields.{TypeTold, read, kept}
use Rattle.lattice.specs.Lattice.{Fitting}
use Rattle.distance.specs.Distance.{differences_fit, square_apart, squared_distance}
use Rattle.distance.specs.Inner.Differences.{difference}
use Rattle.distance.proofs.Laws.{differences-fit}
use Rattle.distance.proofs.squared_distance.Goals as goal

fitting : (p q : Coord) → TypeTold p → TypeTold q → differences_fit p q ≡ true → Fitting (difference (kept p) (kept q))
fitting p q told told2 e =
    let a = read p told in
    let b = read q told2 in
    subst Fitting (λ i. difference (sym a i) (sym b i)) (differences-fit p q e)

pub square_apart-requires : goal.square_apart-requires
square_apart-requires c = (fitting c.args.a c.args.b c.struct_told-1.given c.struct_told-2-1.given c.requires).in-x

pub square_apart-requires-2 : goal.square_apart-requires-2
square_apart-requires-2 c = (fitting c.args.a c.args.b c.struct_told-1.given c.struct_told-2-1.given c.requires).in-y

pub square_apart-requires-3 : goal.square_apart-requires-3
square_apart-requires-3 c = (fitting c.args.a c.args.b c.struct_told-1.given c.struct_told-2-1.given c.requires).in-z

pub returns : goal.returns
unfolding squared_distance
returns c =
    let a = read c.args.a c.struct_told-1.given in
    let b = read c.args.b c.struct_told-2-1.given in
    let in-x = c.square_apart.ensures ∙ (λ i. square_apart (a i).x (b i).x) in
    let in-y = c.square_apart-2.ensures ∙ (λ i. square_apart (a i).y (b i).y) in
    let in-z = c.square_apart-3.ensures ∙ (λ i. square_apart (a i).z (b i).z) in
    (λ i. add binary64 (add binary64 (in-x i) (in-y i)) (in-z i))
