-- The state of a search, read off its two buffers: the rows of the known cells in one, the waiting entries in the other, and beside them three numbers. What each function of the code
-- leaves and answers is a step of the definition from the state that the bytes held. For contracts inside. Definitions only.
use Rattle.refusal.specs.declared.Refusal.{Refusal}
use Rattle.std.specs.Prelude.{◌≡◌, true, List, map, ℕ, ◌*◌, ◌≤◌, ◌<◌, length, Result, Ok, Err}
use Rattle.refusal.specs.Refusals.{raw_of}
use Rattle.general.specs.Each.{Each}
use Rattle.waiting.specs.Inner.Heap.{Heap}
use Rattle.waiting.specs.Inner.Entries.{entry_of, key_in}
use Rattle.waiting.specs.Inner.Sorted.{sorted_keys}
use Rattle.table.specs.Records.{rows_of, flag_width}
use Rattle.search.specs.Search.{Problem, Entry, State, state, Flow, going, done, stopped, arrived, run, find, is_known}
use Rattle.search.specs.Plan.{plan_of, endpoints}
use Rattle.known.specs.Workspace.{in_rooms, most_room}
use Rattle.search.specs.Costs.{Cost}
use Rattle.search.specs.Inner.Counted.{closed_in}
use Rattle.search.specs.Inner.KnownCell.{KnownCell}
use Rattle.search_rows.specs.Inner.Rows.{g_in, rows_in, Rows}
use Rattle.expansion.specs.declared.Plan.{Plan}
use Rattle.expansion.specs.declared.Sizes.{Sizes}
use Rattle.expansion.specs.declared.Step.{Step}
use Rattle.expansion.specs.declared.Step.TheVariants as step
use Rattle.expansion.specs.Inner.Bytes.{paused_in}
use Rattle.waiting.specs.Width.{entry_width}

-- the problem of a plan, in a flag layer
abbrev pub problem_of : Plan → List ℕ → ℕ → Problem
problem_of p flags n = plan_of (endpoints p.start p.goal) (in_rooms p.known p.waiting) p.limit p.rule (rows_of flag_width flags n)

-- ---- the state

-- the waiting entry of the definition that has this key
abbrev pub entry_with : ℕ → Entry
entry_with k = let e = entry_of k in record { f = e.f; cell = raw_of e.cell; g = e.g }

-- the waiting entries, in the order in which they come out
unfoldable pub entries_in : List ℕ → ℕ → List Entry
unfolding sorted_keys entry_of raw_of
entries_in h n = map entry_with (sorted_keys h n)

-- w has the known cells, h the waiting entries
abbrev pub state_in : Plan → List ℕ → List ℕ → Sizes → State
state_in p w h z = state (rows_in w p.known z.known) (entries_in h z.waiting) z.count

-- two buffers that hold a state of the search with these rooms
pub record HoldsSearch (p : Plan) (w h : List ℕ) (z : Sizes) : Type 0 where
  pub rows : Rows w p.known z.known
  pub heap : Heap (key_in h) z.waiting
  pub few : z.waiting ≤ p.waiting
  pub small : p.waiting ≤ most_room
  pub size : entry_width * p.waiting ≤ length h
  pub costs : (i : ℕ) → i < z.known → Cost (g_in w p.known i)
  pub waits : Each (KnownCell (rows_in w p.known z.known)) (entries_in h z.waiting)
  pub counted : closed_in (rows_in w p.known z.known) ≡ z.count

-- ---- steps

-- what a step of the code shows is the flow of the definition
abbrev pub flow_in : Problem → Plan → List ℕ → List ℕ → Result Step Refusal → Flow
flow_in P p w h (Ok (step.Going z)) = going (state_in p w h z)
flow_in P p w h (Err r) = stopped r
flow_in P p w h (Ok (step.Arrived z)) = done (arrived P (state_in p w h z))

-- after a step the buffers hold a state of the search; where it arrived, the goal is known
abbrev pub GoodStep : Plan → List ℕ → List ℕ → Result Step Refusal → Type 0
GoodStep p w h (Ok (step.Going z)) = HoldsSearch p w h z
GoodStep p w h (Err r) = Unit {0}
GoodStep p w h (Ok (step.Arrived z)) = HoldsSearch p w h z × (is_known (find (raw_of p.goal) (rows_in w p.known z.known)) ≡ true)

-- from the buffers w and h, a step of the code came to w' and h' and to the definition's flow f
pub record StepMeets (P : Problem) (p : Plan) (w h w' h' : List ℕ) (r : Result Step Refusal) (f : Flow) : Type 0 where
  pub same : flow_in P p w' h' r ≡ f
  pub good : GoodStep p w' h' r
  pub workspace-length : length w' ≡ length w
  pub heap-length : length h' ≡ length h

-- a run that is to pause at so many counts has come to where the definition comes after some pops; where it would go on, it is paused
pub record RunMeetsTo (P : Problem) (p : Plan) (until : ℕ) (w h w' h' : List ℕ) (r : Result Step Refusal) (f : Flow) : Type 0 where
  pub pops : ℕ
  pub met : StepMeets P p w h w' h' r (run P pops f)
  pub paused : (z : Sizes) → r ≡ Ok (step.Going z) → paused_in p until w' h' z ≡ true

-- the code's last step is where the definition ends, after some pops
pub record RunMeets (P : Problem) (p : Plan) (w h w' h' : List ℕ) (r : Result Step Refusal) (f : Flow) : Type 0 where
  pub pops : ℕ
  pub met : StepMeets P p w h w' h' r (run P pops f)
  pub last : (z : Sizes) → r ≡ Ok (step.Going z) → ⊥
