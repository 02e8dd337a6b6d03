-- The calls that C makes, as theorems speak of them: a call that meets the contract which Rattle made of the source, with its arguments, what C is told, and what stands in lent memory
-- when it returns; and names for what it is handed and what it leaves. The arguments stand in the order of the call's parameters: .0 is the first, .1 .0 the second, and so on.
-- Definitions only.
use Rattle.std.specs.Prelude.{Some, None}
use mathlib.Core.Path.{◌≡◌}
use mathlib.Core.List.{List, [], ◌∷◌}
use Prim.Native.Nat.{ℕ, ◌*◌, ◌<◌}
use lib.IntN.{ℤ}
use lib.ListN.{take}
use Rattle.general.specs.OneAnswer.{Call}
use Rattle.refusal.specs.declared.Coord.{Coord}
use Rattle.words.specs.Word.{Bytes}
use Rattle.lattice.specs.Lattice.{at, Fitting}
use Rattle.table.specs.Records.{Layer, layer}
use Rattle.route.specs.Route.{Claim, claim, verdict_of}
use Rattle.route.specs.Accepted.{Demand3}
use Rattle.aggregate.specs.declared.Aggregation.{Aggregation}
use Rattle.history.specs.History.{Kind, flag_layer, value_layer, Step, set, remove, clear, load, rollup}
use Rattle.face.specs.declared.FieldsTold.{FieldsTold}
use Rattle.face.specs.Aggregates.{aggregation_of}
use Rattle.tishkolan.proofs as here
use Rattle.cell.specs.Bytes.{cell_width}
use Rattle.label.specs.Label.{label_width}

-- ---- the checker

-- a call of `tishkolan_route_verdict`
abbrev pub RouteVerdict : Type 0
RouteVerdict = Call 4 here.routes.tishkolan_route_verdict.Kinds.ps here.routes.tishkolan_route_verdict.Kinds.r here.routes.tishkolan_route_verdict.Reads.Post

-- the route that it is handed to judge, with its ends and its cost
abbrev pub judged : RouteVerdict → Claim
judged call = claim call.arguments.0.now call.arguments.1.0.now call.arguments.1.1.0.now call.arguments.1.1.1.0

-- the flag layer that it is handed
abbrev pub judged_in : RouteVerdict → Layer
judged_in call = layer call.arguments.1.1.1.1.0.now call.arguments.1.1.1.1.1.0

-- the rule that it is handed
abbrev pub judged_under : RouteVerdict → ℕ
judged_under call = call.arguments.1.1.1.1.1.1.0

-- a call of `tishkolan_route_choice`
abbrev pub RouteChoice : Type 0
RouteChoice = Call 7 here.routes.tishkolan_route_choice.Kinds.ps here.routes.tishkolan_route_choice.Kinds.r here.routes.tishkolan_route_choice.Reads.Post

-- the sent route, with its own ends and cost
abbrev pub sent : RouteChoice → Claim
sent call = claim call.arguments.0.now call.arguments.1.0.now call.arguments.1.1.0.now call.arguments.1.1.1.0

-- the homing route, with its own ends and cost
abbrev pub homing : RouteChoice → Claim
homing call = claim call.arguments.1.1.1.1.0.now call.arguments.1.1.1.1.1.0.now call.arguments.1.1.1.1.1.1.0.now call.arguments.1.1.1.1.1.1.1.0

-- the flag layer in which both are judged
abbrev pub chosen_in : RouteChoice → Layer
chosen_in call = layer call.arguments.1.1.1.1.1.1.1.1.0.now call.arguments.1.1.1.1.1.1.1.1.1.0

-- the rule under which both are judged
abbrev pub chosen_under : RouteChoice → ℕ
chosen_under call = call.arguments.1.1.1.1.1.1.1.1.1.1.0

-- every number of a claim's lists is a byte
abbrev pub ClaimBytes : Claim → Type 0
ClaimBytes c = Bytes c.cells × Bytes c.start × Bytes c.goal

-- a route that is accepted, said in three ways: its verdict is 0; demand 3 holds of it; and no call of `tishkolan_route_verdict` that is handed it, this layer and this rule gives
-- another number than 0
pub record AcceptedRoute (c : Claim) (flags : Layer) (rule : ℕ) : Type 0 where
  pub verdict-nought : verdict_of c flags rule ≡ 0
  pub right : Demand3 c flags rule
  pub checked : (call : RouteVerdict) → judged call ≡ c → judged_in call ≡ flags → judged_under call ≡ rule → call.told ≡ 0

-- ---- the search

-- a call of `tishkolan_astar`
abbrev pub Astar : Type 0
Astar = Call 6 here.searches.tishkolan_astar.Kinds.ps here.searches.tishkolan_astar.Kinds.r here.searches.tishkolan_astar.Reads.Post

-- the flag layer that it is handed
abbrev pub searched_in : Astar → Layer
searched_in call = layer call.arguments.1.1.0.now call.arguments.1.1.1.0

-- the rule that it is handed
abbrev pub searched_under : Astar → ℕ
searched_under call = call.arguments.1.1.1.1.0

-- what it returns: as many cells of its output as it tells, between the ends that it was handed, at the cost that it tells
abbrev pub returned : Astar → Claim
returned call = claim (take (cell_width * call.told.cells) call.exit.1.1.1.1.1.1.1.1.1.0.now) call.arguments.0.now call.arguments.1.0.now call.told.cost

-- a call of `tishkolan_astar_with_limit`
abbrev pub AstarWithLimit : Type 0
AstarWithLimit = Call 6 here.searches.tishkolan_astar_with_limit.Kinds.ps here.searches.tishkolan_astar_with_limit.Kinds.r here.searches.tishkolan_astar_with_limit.Reads.Post

-- the flag layer that it is handed
abbrev pub limited_in : AstarWithLimit → Layer
limited_in call = layer call.arguments.1.1.0.now call.arguments.1.1.1.0

-- the rule that it is handed
abbrev pub limited_under : AstarWithLimit → ℕ
limited_under call = call.arguments.1.1.1.1.0

-- the limit that it is handed
abbrev pub limit_given : AstarWithLimit → ℕ
limit_given call = call.arguments.1.1.1.1.1.0

-- what it returns: as many cells of its output as it tells, between the ends that it was handed, at the cost that it tells
abbrev pub limited_returned : AstarWithLimit → Claim
limited_returned call = claim (take (cell_width * call.told.cells) call.exit.1.1.1.1.1.1.1.1.1.1.0.now) call.arguments.0.now call.arguments.1.0.now call.told.cost

-- ---- points and cells

-- a call of `tishkolan_lattice_distance`
abbrev pub LatticeDistance : Type 0
LatticeDistance = Call 0 here.points.tishkolan_lattice_distance.Kinds.ps here.points.tishkolan_lattice_distance.Kinds.r here.points.tishkolan_lattice_distance.Reads.Post

-- the first place that it is handed
abbrev pub first_place : LatticeDistance → Coord
first_place call = at call.arguments.0 call.arguments.1.0 call.arguments.1.1.0

-- the second place that it is handed
abbrev pub second_place : LatticeDistance → Coord
second_place call = at call.arguments.1.1.1.0 call.arguments.1.1.1.1.0 call.arguments.1.1.1.1.1.0

-- a call of `tishkolan_cell_distance`
abbrev pub CellDistance : Type 0
CellDistance = Call 2 here.cells.tishkolan_cell_distance.Kinds.ps here.cells.tishkolan_cell_distance.Kinds.r here.cells.tishkolan_cell_distance.Reads.Post

-- the bytes of the first cell that it is handed
abbrev pub first_cell : CellDistance → List ℕ
first_cell call = call.arguments.0.now

-- the bytes of the second cell that it is handed
abbrev pub second_cell : CellDistance → List ℕ
second_cell call = call.arguments.1.0.now

-- a call of `tishkolan_lattice_parent`
abbrev pub LatticeParent : Type 0
LatticeParent = Call 0 here.points.tishkolan_lattice_parent.Kinds.ps here.points.tishkolan_lattice_parent.Kinds.r here.points.tishkolan_lattice_parent.Reads.Post

-- the place whose parent it is asked for
abbrev pub child_place : LatticeParent → Coord
child_place call = at call.arguments.0 call.arguments.1.0 call.arguments.1.1.0

-- a call of `tishkolan_lattice_children`
abbrev pub LatticeChildren : Type 0
LatticeChildren = Call 1 here.points.tishkolan_lattice_children.Kinds.ps here.points.tishkolan_lattice_children.Kinds.r here.points.tishkolan_lattice_children.Reads.Post

-- the place whose children it is asked for
abbrev pub parent_place : LatticeChildren → Coord
parent_place call = at call.arguments.0 call.arguments.1.0 call.arguments.1.1.0

-- the numbers that it leaves in its buffer
abbrev pub children_left : LatticeChildren → List ℤ
children_left call = call.exit.1.1.1.0.now

-- a call of `tishkolan_cell_new`
abbrev pub CellNew : Type 0
CellNew = Call 1 here.cells.tishkolan_cell_new.Kinds.ps here.cells.tishkolan_cell_new.Kinds.r here.cells.tishkolan_cell_new.Reads.Post

-- the frame that it is given
abbrev pub new_frame : CellNew → ℕ
new_frame call = call.arguments.0

-- the resolution that it is given
abbrev pub new_resolution : CellNew → ℕ
new_resolution call = call.arguments.1.0

-- the place that it is given
abbrev pub new_place : CellNew → Coord
new_place call = at call.arguments.1.1.0 call.arguments.1.1.1.0 call.arguments.1.1.1.1.0

-- the exponent that it is given
abbrev pub new_exponent : CellNew → ℕ
new_exponent call = call.arguments.1.1.1.1.1.0

-- the flags that it is given
abbrev pub new_flags : CellNew → ℕ
new_flags call = call.arguments.1.1.1.1.1.1.0

-- what stands in its buffer before the call
abbrev pub new_lent : CellNew → List ℕ
new_lent call = call.arguments.1.1.1.1.1.1.1.0.now

-- what stands in its buffer after the call
abbrev pub new_left : CellNew → List ℕ
new_left call = call.exit.1.1.1.1.1.1.1.0.now

-- a call of `tishkolan_cell_fields`
abbrev pub CellFields : Type 0
CellFields = Call 1 here.cells.tishkolan_cell_fields.Kinds.ps here.cells.tishkolan_cell_fields.Kinds.r here.cells.tishkolan_cell_fields.Reads.Post

-- the bytes that it is given
abbrev pub fields_bytes : CellFields → List ℕ
fields_bytes call = call.arguments.0.now

-- the numbers that C hands over are of their types
pub record Typed (call : CellNew) : Type 0 where
  pub in_frame : new_frame call < 256
  pub in-resolution : new_resolution call < 256
  pub in-flags : new_flags call < 256
  pub in_place : Fitting (new_place call)

-- a call of `tishkolan_cell_new` that is given the fields that were told
pub record Repacks (call : CellNew) (f : FieldsTold) : Type 0 where
  pub same-frame : new_frame call ≡ f.frame
  pub same-resolution : new_resolution call ≡ f.resolution
  pub same_place : new_place call ≡ at f.x f.y f.z
  pub same-exponent : new_exponent call ≡ f.exponent
  pub same_flags : new_flags call ≡ f.flags

-- ---- labels

-- a call of `tishkolan_cell_to_bech32m`
abbrev pub CellToBech32m : Type 0
CellToBech32m = Call 2 here.labels.tishkolan_cell_to_bech32m.Kinds.ps here.labels.tishkolan_cell_to_bech32m.Kinds.r here.labels.tishkolan_cell_to_bech32m.Reads.Post

-- the bytes of the cell that it is handed
abbrev pub named : CellToBech32m → List ℕ
named call = call.arguments.0.now

-- the label that it leaves
abbrev pub label_left : CellToBech32m → List ℕ
label_left call = take label_width call.exit.1.0.now

-- a call of `tishkolan_cell_from_bech32m`
abbrev pub CellFromBech32m : Type 0
CellFromBech32m = Call 2 here.labels.tishkolan_cell_from_bech32m.Kinds.ps here.labels.tishkolan_cell_from_bech32m.Kinds.r here.labels.tishkolan_cell_from_bech32m.Reads.Post

-- the string that it is handed
abbrev pub spelled : CellFromBech32m → List ℕ
spelled call = call.arguments.0.now

-- the buffer that it is lent
abbrev pub cell_lent : CellFromBech32m → List ℕ
cell_lent call = call.arguments.1.0.now

-- the bytes of the cell that it leaves
abbrev pub cell_left : CellFromBech32m → List ℕ
cell_left call = take cell_width call.exit.1.0.now

-- ---- layers

-- a call of `tishkolan_flags_set`
abbrev pub FlagsSet : Type 0
FlagsSet = Call 2 here.layers.tishkolan_flags_set.Kinds.ps here.layers.tishkolan_flags_set.Kinds.r here.layers.tishkolan_flags_set.Reads.Post

-- a call of `tishkolan_flags_get`
abbrev pub FlagsGet : Type 0
FlagsGet = Call 2 here.layers.tishkolan_flags_get.Kinds.ps here.layers.tishkolan_flags_get.Kinds.r here.layers.tishkolan_flags_get.Reads.Post

-- a call of `tishkolan_flags_remove`
abbrev pub FlagsRemove : Type 0
FlagsRemove = Call 2 here.layers.tishkolan_flags_remove.Kinds.ps here.layers.tishkolan_flags_remove.Kinds.r here.layers.tishkolan_flags_remove.Reads.Post

-- a call of `tishkolan_flags_clear`
abbrev pub FlagsClear : Type 0
FlagsClear = Call 1 here.layers.tishkolan_flags_clear.Kinds.ps here.layers.tishkolan_flags_clear.Kinds.r here.layers.tishkolan_flags_clear.Reads.Post

-- a call of `tishkolan_values_set`
abbrev pub ValuesSet : Type 0
ValuesSet = Call 2 here.layers.tishkolan_values_set.Kinds.ps here.layers.tishkolan_values_set.Kinds.r here.layers.tishkolan_values_set.Reads.Post

-- a call of `tishkolan_values_get`
abbrev pub ValuesGet : Type 0
ValuesGet = Call 2 here.layers.tishkolan_values_get.Kinds.ps here.layers.tishkolan_values_get.Kinds.r here.layers.tishkolan_values_get.Reads.Post

-- a call of `tishkolan_values_remove`
abbrev pub ValuesRemove : Type 0
ValuesRemove = Call 2 here.layers.tishkolan_values_remove.Kinds.ps here.layers.tishkolan_values_remove.Kinds.r here.layers.tishkolan_values_remove.Reads.Post

-- a call of `tishkolan_values_clear`
abbrev pub ValuesClear : Type 0
ValuesClear = Call 1 here.layers.tishkolan_values_clear.Kinds.ps here.layers.tishkolan_values_clear.Kinds.r here.layers.tishkolan_values_clear.Reads.Post

-- a call of `tishkolan_values_rollup`
abbrev pub ValuesRollup : Type 0
ValuesRollup = Call 2 here.aggregates.tishkolan_values_rollup.Kinds.ps here.aggregates.tishkolan_values_rollup.Kinds.r here.aggregates.tishkolan_values_rollup.Reads.Post

-- a call of `tishkolan_survey_load`
abbrev pub SurveyLoad : Type 0
SurveyLoad = Call 3 here.surveys.tishkolan_survey_load.Kinds.ps here.surveys.tishkolan_survey_load.Kinds.r here.surveys.tishkolan_survey_load.Reads.Post

-- the file that it is handed
abbrev pub file_handed : SurveyLoad → List ℕ
file_handed call = call.arguments.0.now

-- the flag table that it is handed
abbrev pub flags_handed : SurveyLoad → List ℕ
flags_handed call = call.arguments.1.0.now

-- the value table that it is handed
abbrev pub values_handed : SurveyLoad → List ℕ
values_handed call = call.arguments.1.1.1.0.now

-- the flag table that it leaves
abbrev pub flags_loaded : SurveyLoad → List ℕ
flags_loaded call = call.exit.1.0.now

-- the value table that it leaves
abbrev pub values_loaded : SurveyLoad → List ℕ
values_loaded call = call.exit.1.1.1.0.now

-- a call of `tishkolan_survey_write`
abbrev pub SurveyWrite : Type 0
SurveyWrite = Call 3 here.surveys.tishkolan_survey_write.Kinds.ps here.surveys.tishkolan_survey_write.Kinds.r here.surveys.tishkolan_survey_write.Reads.Post

-- the output that it is lent
abbrev pub written_lent : SurveyWrite → List ℕ
written_lent call = call.arguments.1.1.1.1.0.now

-- what it leaves there
abbrev pub written_left : SurveyWrite → List ℕ
written_left call = call.exit.1.1.1.1.0.now

-- it is handed the layers that a load left
pub record Writes (load : SurveyLoad) (write : SurveyWrite) : Type 0 where
  pub flags : write.arguments.0.now ≡ flags_loaded load
  pub flag-count : write.arguments.1.0 ≡ load.told.flags
  pub values : write.arguments.1.1.0.now ≡ values_loaded load
  pub value-count : write.arguments.1.1.1.0 ≡ load.told.values

-- ---- chains of calls

-- a table and a count that are the layer's
abbrev pub Handed : Layer → List ℕ → ℕ → Type 0
Handed l table count = (table ≡ l.table) × (count ≡ l.count)

-- calls on one layer that take it from the first `Layer` to the last, and the steps that they are
pub data Calls : (kind : Kind) → Layer → List (Step kind) → Layer → Type 0 where
  no-calls : {kind : Kind} {l : Layer} → Calls kind l [] l
  set-flags : {l last : Layer} {steps : List (Step flag_layer)} (call : FlagsSet) → Handed l call.arguments.0.now call.arguments.1.0
      → Calls flag_layer (layer call.exit.0.now call.told.count) steps last
      → Calls flag_layer l (set call.arguments.1.1.0.now call.arguments.1.1.1.0 ∷ steps) last
  remove-flags : {l last : Layer} {steps : List (Step flag_layer)} (call : FlagsRemove) → Handed l call.arguments.0.now call.arguments.1.0
      → Calls flag_layer (layer call.exit.0.now call.told.count) steps last
      → Calls flag_layer l (remove call.arguments.1.1.0.now ∷ steps) last
  clear-flags : {l last : Layer} {steps : List (Step flag_layer)} (call : FlagsClear) → call.arguments.0.now ≡ l.table
      → Calls flag_layer (layer call.exit.0.now 0) steps last
      → Calls flag_layer l (clear ∷ steps) last
  load-flags : {l last : Layer} {steps : List (Step flag_layer)} (call : SurveyLoad) → Handed l call.arguments.1.0.now call.arguments.1.1.0
      → Calls flag_layer (layer call.exit.1.0.now call.told.flags) steps last
      → Calls flag_layer l (load call.arguments.0.now call.arguments.1.1.1.0.now ∷ steps) last
  set_value : {l last : Layer} {steps : List (Step value_layer)} (call : ValuesSet) → Handed l call.arguments.0.now call.arguments.1.0
      → Calls value_layer (layer call.exit.0.now call.told.count) steps last
      → Calls value_layer l (set call.arguments.1.1.0.now call.arguments.1.1.1.0 ∷ steps) last
  remove-value : {l last : Layer} {steps : List (Step value_layer)} (call : ValuesRemove) → Handed l call.arguments.0.now call.arguments.1.0
      → Calls value_layer (layer call.exit.0.now call.told.count) steps last
      → Calls value_layer l (remove call.arguments.1.1.0.now ∷ steps) last
  clear-values : {l last : Layer} {steps : List (Step value_layer)} (call : ValuesClear) → call.arguments.0.now ≡ l.table
      → Calls value_layer (layer call.exit.0.now 0) steps last
      → Calls value_layer l (clear ∷ steps) last
  load-values : {l last : Layer} {steps : List (Step value_layer)} (call : SurveyLoad) → Handed l call.arguments.1.1.1.0.now call.arguments.1.1.1.1.0
      → Calls value_layer (layer call.exit.1.1.1.0.now call.told.values) steps last
      → Calls value_layer l (load call.arguments.0.now call.arguments.1.0.now ∷ steps) last
  rollup-values : {l last : Layer} {steps : List (Step value_layer)} (call : ValuesRollup) (how : Aggregation) → Handed l call.arguments.1.1.1.0.now call.arguments.1.1.1.1.0
      → aggregation_of call.arguments.1.1.0 ≡ Some how
      → Calls value_layer (layer call.exit.1.1.1.0.now call.told.count) steps last
      → Calls value_layer l (rollup how call.arguments.0.now call.arguments.1.0 ∷ steps) last
  -- a number that stands for no aggregation is refused, and is no step
  rollup-unknown : {l last : Layer} {steps : List (Step value_layer)} (call : ValuesRollup) → Handed l call.arguments.1.1.1.0.now call.arguments.1.1.1.1.0
      → aggregation_of call.arguments.1.1.0 ≡ None
      → Calls value_layer (layer call.exit.1.1.1.0.now call.told.count) steps last
      → Calls value_layer l steps last
