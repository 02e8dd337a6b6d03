-- Each coordinate by whether the axis is its own. There is room to take one off each, as for the neighbour (-1, -1, -1).
use mathlib.Core.Path.{◌≡◌, refl, sym, ap, subst, ◌∙◌}
use mathlib.Core.Bool.{true}
use lib.IntN.{pos, ◌-ℤ◌}
use mir.Syntax.{w32}
use mir.Val.{of_z, to_z}
use mir.Facts.{to_z-of_z}
use Rattle.refusal.specs.declared.Coord.{Coord}
use Rattle.lattice.specs.declared.Axis.{Axis}
use Rattle.lattice.specs.declared.Axis.TheVariants.{X, Y, Z, Neither}
use Rattle.lattice.specs.Lattice.{at, Fitting, neighbor_steps, has_neighbor_room, take_one_off}
use Rattle.lattice.proofs.Fields.{TypeTold, fit, kept, read}
use Rattle.lattice.proofs.Room.{near}
use Rattle.lattice.proofs.take_one_off.Goals as goal
use Rattle.lattice.proofs.take_one_off.Goals.{in-X, in_default, in-Y, in_default-axis}

-- ---- room

fits : (axis : Axis) (c : Coord) → Fitting c → has_neighbor_room c ≡ true → Fitting (take_one_off axis c)
unfolding neighbor_steps
fits X c f e = record { in-x = (near c e 7).in-x; in-y = f.in-y; in-z = f.in-z }
fits Y c f e = record { in-x = f.in-x; in-y = (near c e 7).in-y; in-z = f.in-z }
fits Z c f e = record { in-x = f.in-x; in-y = f.in-y; in-z = (near c e 7).in-z }
fits Neither c f e = f

down : (axis : Axis) (c : Coord) → TypeTold c → has_neighbor_room c ≡ true → Fitting (take_one_off axis (kept c))
down axis c told room = subst (λ (p : Coord). Fitting (take_one_off axis p)) (sym (read c told)) (fits axis c (fit c told) room)

pub overflow_sub-result : goal.overflow_sub-result
overflow_sub-result c = (down X c.args.c c.struct_told-1.given c.requires).in-x

pub overflow_sub-result-in-Y : goal.overflow_sub-result-in-Y
overflow_sub-result-in-Y c = (down Y c.args.c c.struct_told-in-Y-1.given c.requires).in-y

pub overflow_sub-result-in-Z : goal.overflow_sub-result-in-Z
overflow_sub-result-in-Z c = (down Z c.args.c c.struct_told-in-Z-1.given c.requires).in-z

-- ---- the coordinates

same-x : (axis : Axis) (c : Coord) → (axis ≡ X → ⊥) → c.x ≡ (take_one_off axis c).x
same-x X c h = absurd (h refl)
same-x Y c h = refl
same-x Z c h = refl
same-x Neither c h = refl

same-y : (axis : Axis) (c : Coord) → (axis ≡ Y → ⊥) → c.y ≡ (take_one_off axis c).y
same-y X c h = refl
same-y Y c h = absurd (h refl)
same-y Z c h = refl
same-y Neither c h = refl

same-z : (axis : Axis) (c : Coord) → (axis ≡ Z → ⊥) → c.z ≡ (take_one_off axis c).z
same-z X c h = refl
same-z Y c h = refl
same-z Z c h = absurd (h refl)
same-z Neither c h = refl

less-x : (axis : Axis) (c : Coord) → TypeTold c → has_neighbor_room c ≡ true → axis ≡ X → to_z w32 (of_z w32 ((kept c).x -ℤ pos 1)) ≡ (take_one_off axis c).x
less-x axis c told room e = to_z-of_z (down X c told room).in-x ∙ (λ i. (take_one_off (sym e i) (read c told i)).x)

less-y : (axis : Axis) (c : Coord) → TypeTold c → has_neighbor_room c ≡ true → axis ≡ Y → to_z w32 (of_z w32 ((kept c).y -ℤ pos 1)) ≡ (take_one_off axis c).y
less-y axis c told room e = to_z-of_z (down Y c told room).in-y ∙ (λ i. (take_one_off (sym e i) (read c told i)).y)

less-z : (axis : Axis) (c : Coord) → TypeTold c → has_neighbor_room c ≡ true → axis ≡ Z → to_z w32 (of_z w32 ((kept c).z -ℤ pos 1)) ≡ (take_one_off axis c).z
less-z axis c told room e = to_z-of_z (down Z c told room).in-z ∙ (λ i. (take_one_off (sym e i) (read c told i)).z)

pub returns-in-Z : goal.returns-in-Z
returns-in-Z c =
    let axis = c.args.axis in
    let place = c.args.c in
    let told = c.struct_told-in-Z-1.given in
    let in-x : to_z w32 c.match-axis.result-bits ≡ (take_one_off axis place).x =
    elim c.match-axis.branch [
      | in-X w ↦ w.result-is ∙ less-x axis place told c.requires w.in-X.is
      | in_default w ↦ w.result-is ∙ ap (λ (p : Coord). p.x) (read place told) ∙ same-x axis place w.in_default.not-X
    ] in
    let in-y : to_z w32 c.match-axis-2.result-bits ≡ (take_one_off axis place).y =
    elim c.match-axis-2.branch [
      | in-Y w ↦ w.result-is ∙ less-y axis place told c.requires w.in-Y.is
      | in_default-axis w ↦ w.result-is ∙ ap (λ (p : Coord). p.y) (read place told) ∙ same-y axis place w.in_default-axis.not-Y
    ] in
    let in-z = less-z axis place told c.requires c.in-Z.is in
    λ i. at (in-x i) (in-y i) (in-z i)

pub returns-in_default-axis-2 : goal.returns-in_default-axis-2
returns-in_default-axis-2 c =
    let axis = c.args.axis in
    let place = c.args.c in
    let told = c.struct_told-in_default-axis-2-1.given in
    let in-x : to_z w32 c.match-axis.result-bits ≡ (take_one_off axis place).x =
    elim c.match-axis.branch [
      | in-X w ↦ w.result-is ∙ less-x axis place told c.requires w.in-X.is
      | in_default w ↦ w.result-is ∙ ap (λ (p : Coord). p.x) (read place told) ∙ same-x axis place w.in_default.not-X
    ] in
    let in-y : to_z w32 c.match-axis-2.result-bits ≡ (take_one_off axis place).y =
    elim c.match-axis-2.branch [
      | in-Y w ↦ w.result-is ∙ less-y axis place told c.requires w.in-Y.is
      | in_default-axis w ↦ w.result-is ∙ ap (λ (p : Coord). p.y) (read place told) ∙ same-y axis place w.in_default-axis.not-Y
    ] in
    let in-z = ap (λ (p : Coord). p.z) (read place told) ∙ same-z axis place c.in_default-axis-2.not-Z in
    λ i. at (in-x i) (in-y i) (in-z i)
