-- What is shown of the calls that C makes, beside their contracts: the theorems that docs/PROMISES.md names, over the calls of Calls.antt and in words of specs/. The law behind each is
-- the one that its proof names.
use Rattle.std.specs.Prelude.{Some, None, Ok}
use mathlib.Core.Path.{◌≡◌}
use mathlib.Core.Logic.{◌↔◌, ◌⊎◌}
use mathlib.Core.Bool.{true}
use mathlib.Core.List.{List, ◌++◌, map}
use Prim.Native.Nat.{ℕ, ◌+◌, ◌*◌, ◌%◌, ◌≤◌, ◌<◌}
use lib.ListN.{length, take, drop}
use Rattle.refusal.specs.declared.Cell.{Cell}
use Rattle.words.specs.Word.{Bytes}
use Rattle.lattice.specs.Lattice.{at, is_lattice_point}
use Rattle.cell.specs.Bytes.{from_bytes_of, cell_width}
use Rattle.label.specs.Terms.{uppered, IsLabel}
use Rattle.table.specs.Records.{Layer, held_of, rows_of, is_sound, flag_width, value_width}
use Rattle.file.specs.declared.Sections.{Sections}
use Rattle.file.specs.File.{sections_of}
use Rattle.file.specs.Terms.{IsFile}
use Rattle.route.specs.Accepted.{Demand3}
use Rattle.history.specs.History.{flag_layer, value_layer, Step, AllOfBytes, IsLayer, last_left}
use Rattle.face.specs.Told.{answered}
use Rattle.face.specs.Points.{triple}
use Rattle.face.specs.LayerAnswers.{telling_count, held_told, LayerCase, set_told, remove_told}
use Rattle.face.specs.Terms.{Nearest, CellsNearest, LimitTold, fields_given, no_mistake}
use Rattle.tishkolan.proofs.Calls.{RouteVerdict, judged, judged_in, judged_under, RouteChoice, sent, homing, chosen_in, chosen_under, ClaimBytes, AcceptedRoute, Astar, searched_in, searched_under, returned, AstarWithLimit, limited_in, limited_under, limit_given, limited_returned, LatticeDistance, first_place, second_place, CellDistance, first_cell, second_cell, LatticeParent, child_place, LatticeChildren, parent_place, children_left, CellNew, new_frame, new_resolution, new_place, new_exponent, new_flags, new_lent, new_left, CellFields, fields_bytes, Typed, Repacks, CellToBech32m, named, label_left, CellFromBech32m, spelled, cell_lent, cell_left, FlagsSet, FlagsGet, FlagsRemove, ValuesSet, ValuesGet, ValuesRemove, SurveyLoad, file_handed, flags_handed, values_handed, flags_loaded, values_loaded, SurveyWrite, written_lent, written_left, Writes, Handed, Calls}
use Rattle.tishkolan.proofs as laws
use Rattle.astar.specs.Call.{default_limit}

-- ---- demand 3: the checker accepts exactly the right lists, and every route that the search returns

-- The number that `tishkolan_route_verdict` gives is 0 if and only if demand 3 holds of the route, the flag layer and the rule that it is handed.
pub verdict-exactly : (call : RouteVerdict) → ClaimBytes (judged call) → call.told ≡ 0 ↔ Demand3 (judged call) (judged_in call) (judged_under call)
verdict-exactly = laws.Demand3.verdict-exactly

-- The number that `tishkolan_route_choice` gives is 1 if and only if demand 3 holds of the sent route.
pub choice-sent : (call : RouteChoice) → ClaimBytes (sent call) → call.told ≡ 1 ↔ Demand3 (sent call) (chosen_in call) (chosen_under call)
choice-sent = laws.Demand3.choice-sent

-- The number that `tishkolan_route_choice` gives is 2 if and only if demand 3 does not hold of the sent route, and does of the homing one.
pub choice-homing :
    (call : RouteChoice) → ClaimBytes (sent call) → ClaimBytes (homing call)
    → call.told ≡ 2 ↔ (Demand3 (sent call) (chosen_in call) (chosen_under call) → ⊥) × Demand3 (homing call) (chosen_in call) (chosen_under call)
choice-homing = laws.Demand3.choice-homing

-- The number that `tishkolan_route_choice` gives is 0 if and only if demand 3 holds neither of the sent route nor of the homing one.
pub choice-neither :
    (call : RouteChoice) → ClaimBytes (sent call) → ClaimBytes (homing call)
    → call.told ≡ 0 ↔ (Demand3 (sent call) (chosen_in call) (chosen_under call) → ⊥) × (Demand3 (homing call) (chosen_in call) (chosen_under call) → ⊥)
choice-neither = laws.Demand3.choice-neither

-- Where `tishkolan_astar` tells refusal 0, it leaves as many cells in its output as it tells, and they are an accepted route between the ends that it was handed, in its own flag layer
-- and under its own rule, at the cost that it tells.
pub astar-accepted :
    (call : Astar) → Bytes (returned call).start → Bytes (returned call).goal → call.told.refusal.number ≡ 0
    → (length (returned call).cells ≡ cell_width * call.told.cells) × AcceptedRoute (returned call) (searched_in call) (searched_under call)
astar-accepted = laws.Demand3.astar-accepted

-- Where `tishkolan_astar_with_limit` tells refusal 0, under any limit, it leaves as many cells in its output as it tells, and they are an accepted route between the ends that it was
-- handed, in its own flag layer and under its own rule, at the cost that it tells.
pub astar-with-limit-accepted :
    (call : AstarWithLimit) → Bytes (limited_returned call).start → Bytes (limited_returned call).goal → call.told.refusal.number ≡ 0
    → (length (limited_returned call).cells ≡ cell_width * call.told.cells) × AcceptedRoute (limited_returned call) (limited_in call) (limited_under call)
astar-with-limit-accepted = laws.Demand3.astar-with-limit-accepted

-- Where `tishkolan_astar_with_limit` tells refusal 7, it tells its limit, and one expansion more.
pub astar-with-limit-seven : (call : AstarWithLimit) → call.told.refusal.number ≡ 7 → LimitTold (limit_given call) call.told
astar-with-limit-seven = laws.Limits.astar-with-limit-seven

-- Where `tishkolan_astar` tells refusal 7, it tells 100,001 expansions and the limit 100,000.
pub astar-seven : (call : Astar) → call.told.refusal.number ≡ 7 → (call.told.expansions ≡ default_limit + 1) × (call.told.limit ≡ default_limit)
astar-seven = laws.Limits.astar-seven

-- ---- the accident: no pass sees two surveys

-- After any chain of calls on a sound flag layer, each handed the table that the one before it left and the count that it told, `tishkolan_flags_get` tells what the last call that
-- touched the cell left of it, or what the layer held at first where none did.
pub flags-get-after-calls :
    {l last : Layer} {steps : List (Step flag_layer)} → IsLayer flag_layer l → AllOfBytes steps → Calls flag_layer l steps last
    → (get : FlagsGet) → Handed last get.arguments.0.now get.arguments.1.0 → (c : Cell) → from_bytes_of get.arguments.1.1.0.now ≡ Ok c
    → get.told ≡ held_told (last_left c steps l) last.count
flags-get-after-calls = laws.Histories.flags-get-after-calls

-- After any chain of calls on a sound value layer, each handed the table that the one before it left and the count that it told, `tishkolan_values_get` tells what the last call that
-- touched the cell left of it, or what the layer held at first where none did.
pub values-get-after-calls :
    {l last : Layer} {steps : List (Step value_layer)} → IsLayer value_layer l → AllOfBytes steps → Calls value_layer l steps last
    → (get : ValuesGet) → Handed last get.arguments.0.now get.arguments.1.0 → (c : Cell) → from_bytes_of get.arguments.1.1.0.now ≡ Ok c
    → get.told ≡ held_told (last_left c steps l) last.count
values-get-after-calls = laws.Histories.values-get-after-calls

-- ---- what is told of a set and of a remove

-- A set or a remove is in one of the cases of `LayerCase`.
pub layer-case : (w : ℕ) (l : List ℕ) (n : ℕ) (m : List ℕ) → LayerCase w l n m
layer-case = laws.LayerAnswers.layer-case

-- In each case C is told of a set of flags what `set_told` says.
pub flags-set-answers :
    (call : FlagsSet) (x : LayerCase flag_width call.arguments.0.now call.arguments.1.0 call.arguments.1.1.0.now) → call.told ≡ set_told x
flags-set-answers = laws.LayerAnswers.flags-set-answers

-- In each case C is told of a set of a value what `set_told` says.
pub values-set-answers :
    (call : ValuesSet) (x : LayerCase value_width call.arguments.0.now call.arguments.1.0 call.arguments.1.1.0.now) → call.told ≡ set_told x
values-set-answers = laws.LayerAnswers.values-set-answers

-- A set of flags that is refused changes no byte of the table.
pub flags-set-refused : (call : FlagsSet) → (call.told.refusal.number ≡ 0 → ⊥) → call.exit.0.now ≡ call.arguments.0.now
flags-set-refused = laws.LayerAnswers.flags-set-refused

-- A set of a value that is refused changes no byte of the table.
pub values-set-refused : (call : ValuesSet) → (call.told.refusal.number ≡ 0 → ⊥) → call.exit.0.now ≡ call.arguments.0.now
values-set-refused = laws.LayerAnswers.values-set-refused

-- In each case C is told of a remove of flags what `remove_told` says.
pub flags-remove-answers :
    (call : FlagsRemove) → Bytes call.arguments.0.now
    → (x : LayerCase flag_width call.arguments.0.now call.arguments.1.0 call.arguments.1.1.0.now) → call.told ≡ remove_told x
flags-remove-answers = laws.LayerAnswers.flags-remove-answers

-- In each case C is told of a remove of a value what `remove_told` says.
pub values-remove-answers :
    (call : ValuesRemove) → Bytes call.arguments.0.now
    → (x : LayerCase value_width call.arguments.0.now call.arguments.1.0 call.arguments.1.1.0.now) → call.told ≡ remove_told x
values-remove-answers = laws.LayerAnswers.values-remove-answers

-- A remove of flags that finds nothing changes no byte of the table.
pub flags-remove-missing : (call : FlagsRemove) → Bytes call.arguments.0.now → (call.told.found ≡ 1 → ⊥) → call.exit.0.now ≡ call.arguments.0.now
flags-remove-missing = laws.LayerAnswers.flags-remove-missing

-- A remove of a value that finds nothing changes no byte of the table.
pub values-remove-missing : (call : ValuesRemove) → Bytes call.arguments.0.now → (call.told.found ≡ 1 → ⊥) → call.exit.0.now ≡ call.arguments.0.now
values-remove-missing = laws.LayerAnswers.values-remove-missing

-- After a remove of a cell that a flag layer kept, a full one among them, a set of a cell that it does not keep then is answered, and the layer has as many cells as before.
pub flags-room-serves-again :
    (removing : FlagsRemove) (setting : FlagsSet) (c : Cell) (v : ℕ) (d : Cell)
    → let table = removing.arguments.0.now in
    let n = removing.arguments.1.0 in
    let left = removing.exit.0.now in
    Bytes table → from_bytes_of removing.arguments.1.1.0.now ≡ Ok c → is_sound flag_width table n ≡ true → held_of c (rows_of flag_width table n) ≡ Some v
    → setting.arguments.0.now ≡ left → setting.arguments.1.0 ≡ removing.told.count
    → from_bytes_of setting.arguments.1.1.0.now ≡ Ok d → held_of d (rows_of flag_width left removing.told.count) ≡ None → setting.told ≡ telling_count 0 0 n
flags-room-serves-again = laws.LayerAnswers.flags-room-serves-again

-- After a remove of a cell that a value layer kept, a full one among them, a set of a cell that it does not keep then is answered, and the layer has as many cells as before.
pub values-room-serves-again :
    (removing : ValuesRemove) (setting : ValuesSet) (c : Cell) (v : ℕ) (d : Cell)
    → let table = removing.arguments.0.now in
    let n = removing.arguments.1.0 in
    let left = removing.exit.0.now in
    Bytes table → from_bytes_of removing.arguments.1.1.0.now ≡ Ok c → is_sound value_width table n ≡ true → held_of c (rows_of value_width table n) ≡ Some v
    → setting.arguments.0.now ≡ left → setting.arguments.1.0 ≡ removing.told.count
    → from_bytes_of setting.arguments.1.1.0.now ≡ Ok d → held_of d (rows_of value_width left removing.told.count) ≡ None → setting.told ≡ telling_count 0 0 n
values-room-serves-again = laws.LayerAnswers.values-room-serves-again

-- ---- points and cells

-- Where `tishkolan_lattice_distance` tells refusal 0, the bits that it tells are those of the distance of the two places, correctly rounded: of the f64 nearest to the square root of
-- the sum of the squares, which is rounded in source order.
pub lattice-distance-nearest : (call : LatticeDistance) → call.told.refusal.number ≡ 0 → Nearest (first_place call) (second_place call) call.told.bits
lattice-distance-nearest = laws.Distances.lattice-distance-nearest

-- Where `tishkolan_cell_distance` tells refusal 0, it was handed two cells of 16 bytes, and the bits that it tells are those of the distance of their places, correctly rounded: of the
-- f64 nearest to the square root of the sum of the squares, which is rounded in source order.
pub cell-distance-nearest : (call : CellDistance) → call.told.refusal.number ≡ 0 → CellsNearest (first_cell call) (second_cell call) call.told.bits
cell-distance-nearest = laws.Distances.cell-distance-nearest

-- Where `tishkolan_lattice_parent` tells a parent, and `tishkolan_lattice_children` lists the children of it, the place stands among them as one of the eight.
pub listed-under-parent :
    (parent : LatticeParent) (children : LatticeChildren) → parent.told.refusal.number ≡ 0 → children.told.number ≡ 0
    → parent_place children ≡ at parent.told.x parent.told.y parent.told.z
    → (k : ℕ) × (k < 8) × (take 3 (drop (3 * k) (children_left children)) ≡ triple (child_place parent))
listed-under-parent = laws.Parents.listed-under-parent

-- Unpack after pack: where `tishkolan_cell_new` tells 0, `tishkolan_cell_fields` tells of the 16 bytes that it made the fields that it was given, the exponent modulo 16, and nothing
-- reserved.
pub fields-after-new :
    (call : CellNew) (reading : CellFields) → Typed call → call.told.number ≡ 0 → fields_bytes reading ≡ take cell_width (new_left call)
    → reading.told ≡ fields_given (new_frame call) (new_resolution call) (new_place call) (new_exponent call % 16) (new_flags call)
fields-after-new = laws.Packing.fields-after-new

-- Pack after unpack: of the fields that `tishkolan_cell_fields` tells of a lattice point's 16 bytes with reserved bits clear, `tishkolan_cell_new` makes the same 16 bytes, where there is
-- room for them.
pub new-after-fields :
    (reading : CellFields) (call : CellNew) → Bytes (fields_bytes reading) → reading.told.refusal.number ≡ 0 → reading.told.reserved ≡ 0
    → is_lattice_point (at reading.told.x reading.told.y reading.told.z) ≡ true → Repacks call reading.told → cell_width ≤ length (new_lent call)
    → (call.told ≡ answered) × (take cell_width (new_left call) ≡ fields_bytes reading)
new-after-fields = laws.Packing.new-after-fields

-- ---- labels

-- Where `tishkolan_cell_to_bech32m` tells refusal 0 of a cell, `tishkolan_cell_from_bech32m` reads the 37 characters that it left, tells no mistake, and leaves the same 16 bytes, where
-- it has room for them.
pub label-read-back :
    (write : CellToBech32m) (read : CellFromBech32m) → Bytes (named write) → write.told.number ≡ 0 → spelled read ≡ label_left write → cell_width ≤ length (cell_lent read)
    → (read.told ≡ no_mistake) × (cell_left read ≡ named write)
label-read-back = laws.LabelCalls.label-read-back

-- Where `tishkolan_cell_from_bech32m` tells refusal 0 of a string, the string is what `tishkolan_cell_to_bech32m` leaves of the cell that it read, or that in upper case.
pub label-read-alone :
    (read : CellFromBech32m) (write : CellToBech32m) → read.told.refusal.number ≡ 0 → write.told.number ≡ 0 → named write ≡ cell_left read
    → (spelled read ≡ label_left write) ⊎ (spelled read ≡ map uppered (label_left write))
label-read-alone = laws.LabelCalls.label-read-alone

-- Where `tishkolan_cell_from_bech32m` has room for a cell, it tells 0 or 35, which is that of the padding, exactly of the strings of 37 characters that BIP 350 calls valid, with the
-- prefix cx3d in either case and the separator behind it.
pub label-told-exactly :
    (read : CellFromBech32m) → cell_width ≤ length (cell_lent read) → ((read.told.refusal.number ≡ 0) ⊎ (read.told.refusal.number ≡ 35)) ↔ IsLabel (spelled read)
label-told-exactly = laws.LabelCalls.label-told-exactly

-- ---- survey files

-- `tishkolan_survey_load` tells refusal 12 if and only if the bytes that it is handed are the file of no rows that ascend in each section and are within the limits.
pub load-twelve-exactly : (call : SurveyLoad) → Bytes (file_handed call) → call.told.refusal.number ≡ 12 ↔ ((at : Sections) → IsFile (file_handed call) at → ⊥)
load-twelve-exactly = laws.SurveyCalls.load-twelve-exactly

-- Where `tishkolan_survey_load` tells refusal 0, the bytes are a file, of as many records as it tells.
pub loaded-is-file :
    (call : SurveyLoad) → Bytes (file_handed call) → call.told.refusal.number ≡ 0 → IsFile (file_handed call) (sections_of call.told.flags call.told.values)
loaded-is-file = laws.SurveyCalls.loaded-is-file

-- Where it tells any other, both tables are as they were handed over.
pub load-refused :
    (call : SurveyLoad) → (call.told.refusal.number ≡ 0 → ⊥) → (flags_loaded call ≡ flags_handed call) × (values_loaded call ≡ values_handed call)
load-refused = laws.SurveyCalls.load-refused

-- Equal contents are equal files: two loads that leave the same rows in both layers were handed the same bytes.
pub equal-loads :
    (one two : SurveyLoad) → Bytes (file_handed one) → Bytes (file_handed two) → one.told.refusal.number ≡ 0 → two.told.refusal.number ≡ 0
    → rows_of flag_width (flags_loaded one) one.told.flags ≡ rows_of flag_width (flags_loaded two) two.told.flags
    → rows_of value_width (values_loaded one) one.told.values ≡ rows_of value_width (values_loaded two) two.told.values
    → file_handed one ≡ file_handed two
equal-loads = laws.SurveyCalls.equal-loads

-- What `tishkolan_survey_load` loaded, `tishkolan_survey_write` writes back as the very file, wherever there is room for it.
pub loaded-written-back :
    (load : SurveyLoad) (write : SurveyWrite) → Bytes (file_handed load) → load.told.refusal.number ≡ 0 → Writes load write → length (file_handed load) ≤ length (written_lent write)
    → (write.told.refusal ≡ answered) × (write.told.length ≡ length (file_handed load)) × (written_left write ≡ file_handed load ++ drop (length (file_handed load)) (written_lent write))
loaded-written-back = laws.SurveyCalls.loaded-written-back
