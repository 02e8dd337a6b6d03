-- The invariant: the numbers of the first i places stand at the front. There is room for all, or there is none for the list.
use mathlib.Core.Path.{◌≡◌, refl}
use mathlib.Core.List.{List}
use Prim.Native.Nat.{◌*◌}
use native.Mathlib.Omega.{arith}
use lib.ListN.{length}
use Rattle.refusal.specs.declared.Coord.{Coord}
use Rattle.refusal.specs.Refusals.{no_coord}
use Rattle.face.specs.Points.{triple, triples}
use Rattle.tishkolan.proofs.Writing.{written_none, written_more, written_all, length-flat_map, fill-no-room, fill-front}
use Rattle.tishkolan.proofs.points.put_places.Goals as goal

-- three numbers of each place
numbers : (places : List Coord) → length (triples places) ≡ 3 * length places
numbers places = length-flat_map triple 3 (λ p. refl) places

pub returns-then-out-places : goal.returns-then-out-places
returns-then-out-places c = fill-no-room (triples c.args.places.now) c.args.out.now (omega (arith, c.if-out-places.true, numbers c.args.places.now)) c.into.ensures

pub returns : goal.returns
returns c =
    fill-front (triples c.args.places.now) c.args.out.now (omega (arith, c.if-out-places.false, numbers c.args.places.now)) c.answered.ensures
    (written_all (λ p. refl) c.loop-i.invariant c.loop-i-test.false)

pub loop-i-init : goal.loop-i-init
loop-i-init c = written_none (omega (arith, c.if-out-places.false))

pub loop-i-preserved : goal.loop-i-preserved
loop-i-preserved c = written_more (λ p. refl) c.loop-i.invariant no_coord c.loop-i-test.true c.put_place.ensures
