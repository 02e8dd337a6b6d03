-- Demand 3: "the route checker accepts a list exactly when it begins at the start, ends at the goal, [...]". The verdict is 0 exactly where `Demand3` of Accepted.antt
-- holds: `accepted-exactly`. So under rule 1 an accepted route enters no blocked cell (`enters-no-blocked-cell`), and it never leaves the frame and the resolution of its
-- start (`keeps-frame-and-resolution`). All this of any bytes.
use mathlib.Core.Path.{◌≡◌, sym, ap, subst, ◌∙◌}
use mathlib.Core.Logic.{◌↔◌}
use mathlib.Core.Bool.{true, cond}
use mathlib.Core.List.{List}
use Prim.Native.Nat.{ℕ, zero, suc, ◌*◌, ◌/◌, ◌%◌, ◌<◌}
use native.Mathlib.Omega.{arith}
use borrow.Author.Tests.{eqb-true, eq-eqb, ltb-true, lt-ltb}
use lib.Dec.{eqb, ltb}
use lib.ListN.{length, get_or}
use Rattle.refusal.specs.declared.Cell.{Cell}
use Rattle.words.specs.Word.{Bytes}
use Rattle.general.proofs.Tests.{three}
use Rattle.cell.specs.Cell.{frame_of, resolution_of}
use Rattle.cell.specs.Bytes.{cell_at}
use Rattle.cell.specs.Lists.{is_list, cells_of}
use Rattle.cell.proofs.BytesLaws.{cell-words, cells-words, length-cells, cell-at-index}
use Rattle.table.specs.Records.{rows_of, is_sound, layer}
use Rattle.route.specs.Route.{judge_cells, are_lists, verdict_of, claim}
use Rattle.route.specs.Accepted.{Blocked, Demand3}
use Rattle.route.proofs.AcceptedLaws.{passed, judged-is-right, right-is-judged, Entered, accepted-enters}

module _ (route start goal : List ℕ) (cost : ℕ) (flags : List ℕ) (n rule : ℕ) where
  -- the verdict on the cells, once the lists, the layer and the rule are tested
  abbrev judgement : ℕ
  judgement = judge_cells rule (rows_of 20 flags n) (cell_at start 0) (cell_at goal 0) cost (cells_of route)

  -- what verdict 0 tests before the cells, and what it finds of them
  record Passed : Type 0 where
    lists : are_lists route start goal ≡ true
    sound : is_sound 20 flags n ≡ true
    known : ltb rule 2 ≡ true
    judged : judgement ≡ 0

  zero-passed : verdict_of (claim route start goal cost) (layer flags n) rule ≡ 0 → Passed
  unfolding verdict_of
  zero-passed e =
      let lists = passed (are_lists route start goal) (cond (is_sound 20 flags n) (cond (ltb rule 2) judgement 15) 14) 13 (omega arith) e in
      let sound = passed (is_sound 20 flags n) (cond (ltb rule 2) judgement 15) 14 (omega arith) lists.1 in
      let known = passed (ltb rule 2) judgement 15 (omega arith) sound.1 in
      record { lists = lists.0; sound = sound.0; known = known.0; judged = known.1 }

  passed-zero : Passed → verdict_of (claim route start goal cost) (layer flags n) rule ≡ 0
  unfolding verdict_of
  passed-zero p = rw (p.lists, p.sound, p.known) p.judged

  module _ (in-route : Bytes route) where
    -- verdict 0 is given to every list that demand 3 asks for
    pub right-is-accepted : Demand3 (claim route start goal cost) (layer flags n) rule → verdict_of (claim route start goal cost) (layer flags n) rule ≡ 0
    right-is-accepted d =
        passed-zero (record {
          lists = rw (eq-eqb (length route % 16) 0 d.whole_cells, eq-eqb (length start) 16 d.one-start, eq-eqb (length goal) 16 d.one-goal);
          sound = d.sound;
          known = lt-ltb rule 2 d.free-or-avoiding;
          judged = right-is-judged rule (rows_of 20 flags n) (cell_at start 0) (cell_at goal 0) cost (cells_of route) (cells-words route in-route) d.accepted;
        })

    module _ (in_start : Bytes start) (in-goal : Bytes goal) where
      -- and to no other
      pub accepted-is-right : verdict_of (claim route start goal cost) (layer flags n) rule ≡ 0 → Demand3 (claim route start goal cost) (layer flags n) rule
      accepted-is-right e =
          let p = zero-passed e in
          let lists = three (is_list route) (eqb (length start) 16) (eqb (length goal) 16) p.lists in
          record {
            whole_cells = eqb-true (length route % 16) 0 lists.0;
            one-start = eqb-true (length start) 16 lists.1;
            one-goal = eqb-true (length goal) 16 lists.2;
            sound = p.sound;
            free-or-avoiding = ltb-true rule 2 p.known;
            accepted =
                judged-is-right rule (rows_of 20 flags n) (cell_at start 0) (cell_at goal 0) cost (cells_of route) (cell-words start 0 in_start) (cell-words goal 0 in-goal) (cells-words route in-route) p.judged;
          }

      -- demand 3: the verdict is 0 exactly where it holds
      pub accepted-exactly : verdict_of (claim route start goal cost) (layer flags n) rule ≡ 0 ↔ Demand3 (claim route start goal cost) (layer flags n) rule
      accepted-exactly = (accepted-is-right, right-is-accepted)

      zero-enters : verdict_of (claim route start goal cost) (layer flags n) rule ≡ 0 → (i : ℕ) → suc i < length route / 16 → Entered (rule ≡ 1) (rows_of 20 flags n) (cell_at start 0) (cell_at route (16 * suc i))
      zero-enters e i h =
          subst (Entered (rule ≡ 1) (rows_of 20 flags n) (cell_at start 0)) (cell-at-index route (suc i) (cell_at start 0) h)
          (accepted-enters (accepted-is-right e).accepted i (cell_at start 0) (omega (arith, length-cells route)))

      -- under rule 1 no cell after the first is blocked
      pub enters-no-blocked-cell : verdict_of (claim route start goal cost) (layer flags n) rule ≡ 0 → rule ≡ 1 → (i : ℕ) → 0 < i → i < length route / 16 → Blocked (rows_of 20 flags n) (cell_at route (16 * i)) → ⊥
      enters-no-blocked-cell e one zero p h = absurd (omega arith)
      enters-no-blocked-cell e one (suc i) p h = (zero-enters e i h).free one

      -- every cell has the frame and the resolution of the start
      pub keeps-frame-and-resolution : verdict_of (claim route start goal cost) (layer flags n) rule ≡ 0 → (i : ℕ) → i < length route / 16 → (frame_of (cell_at route (16 * i)) ≡ frame_of (cell_at start 0)) × (resolution_of (cell_at route (16 * i)) ≡ resolution_of (cell_at start 0))
      keeps-frame-and-resolution e zero h =
          let first : cell_at route 0 ≡ cell_at start 0 = sym (cell-at-index route 0 (cell_at start 0) h) ∙ ap (λ (cells : List Cell). get_or cells 0 (cell_at start 0)) (accepted-is-right e).accepted.begins in
          (ap frame_of first, ap resolution_of first)
      keeps-frame-and-resolution e (suc i) h = let r = zero-enters e i h in (r.same-frame, r.same-resolution)
