-- Theorems about functions that stand between crates, which C does not call: what docs/PROMISES.md says of the search's memory, in words of specs/Inner.
-- The law behind each is the one that its proof names.
use Rattle.refusal.specs.declared.Refusal.{Refusal}
use Rattle.std.specs.Prelude.{Result}
use mathlib.Core.List.{List}
use mathlib.Core.Path.{◌≡◌}
use Prim.Native.Nat.{ℕ, ◌<◌, ◌≤◌}
use Rattle.words.specs.Word.{Bytes}
use Rattle.table.specs.Records.{rows_of, Row, flag_width}
use Rattle.search.specs.Search.{step, going}
use Rattle.expansion.specs.Inner.Bytes.{advance_in, Fits, run_in, Rooms, resume_in, and_then_in}
use Rattle.expansion.specs.Inner.State.{state_in, problem_of, HoldsSearch, RunMeetsTo, RunMeets}
use Rattle.expansion.specs.declared.Plan.{Plan}
use Rattle.expansion.specs.declared.Sizes.{Sizes}
use Rattle.expansion.specs.declared.Step.{Step}
use Rattle.expansion.proofs as laws

-- In buffers that hold a state of the search, a pop over the bytes is the definition's pop from that state, and it leaves bytes.
pub advance-simulates :
    (p : Plan) (flags : List ℕ) (count : ℕ) → let P = problem_of p flags count in (w h : List ℕ) (z : Sizes) → HoldsSearch p w h z → Bytes w → Bytes h
    → laws.Simulates.Simulates p flags count w h (advance_in p (rows_of flag_width flags count) w h z) (step P (state_in p w h z))
advance-simulates = laws.Simulates.advance-simulates

-- From sizes within the rooms, whatever the bytes hold, a pop keeps the lengths of both buffers; unless it is refused, the sizes stay within the rooms, and less is left to do.
pub advance-forward :
    (p : Plan) (flags : List Row) (w h : List ℕ) (z : Sizes) → Fits p w h z → laws.BytesKept.Popped p flags w h z (advance_in p flags w h z)
advance-forward = laws.BytesKept.advance-forward

-- In buffers that hold a state of the search, a run comes to where the definition comes after some pops; where it would go on, it is paused.
pub run-to :
    (p : Plan) (flags : List ℕ) (count : ℕ) (until : ℕ) (w h w' h' : List ℕ) (z : Sizes) (r : Result Step Refusal) (good : HoldsSearch p w h z) (bytes : Bytes w)
    (heap-bytes : Bytes h) (e : (w', h', r) ≡ run_in p (rows_of flag_width flags count) until w h z)
    → let P = problem_of p flags count in RunMeetsTo P p until w h w' h' r (going (state_in p w h z))
run-to = laws.Simulates.run-to

-- In buffers that hold a state of the search, a run to more counts than there is room for known cells goes to the end, where the definition ends after some pops.
pub run_by :
    (p : Plan) (flags : List ℕ) (count : ℕ) (until : ℕ) (w h w' h' : List ℕ) (z : Sizes) (r : Result Step Refusal) (good : HoldsSearch p w h z) (bytes : Bytes w)
    (heap-bytes : Bytes h) (e : (w', h', r) ≡ run_in p (rows_of flag_width flags count) until w h z) → let P = problem_of p flags count in p.known < until
    → RunMeets P p w h w' h' r (going (state_in p w h z))
run_by = laws.Simulates.run_by

-- In buffers with room, from any sizes and whatever the bytes hold, a run that is resumed leaves sizes within the rooms, unless it is refused.
pub resume-fits :
    (p : Plan) (flags : List Row) (until : ℕ) (w h : List ℕ) (z : Sizes) → Rooms p.known p.waiting w h
    → let y = resume_in p flags until w h z in laws.RunsAdd.FitsStep p flags y.0 y.1 y.2
resume-fits = laws.RunsAdd.resume-fits

-- In buffers with room, from any sizes and whatever the bytes hold, a run resumed to one count and then to another no lower does what a run resumed to the other at once does.
pub resumes-add :
    (p : Plan) (flags : List Row) (u v : ℕ) (w h : List ℕ) (z : Sizes) → u ≤ v → Rooms p.known p.waiting w h
    → let y = resume_in p flags u w h z in resume_in p flags v w h z ≡ and_then_in y.0 y.1 y.2 (resume_in p flags v)
resumes-add = laws.RunsAdd.resumes-add
