-- From the start to the last step: what the code ran to is where the definition ends.
use Rattle.refusal.specs.declared.Refusal.{Refusal}
use Rattle.std.specs.Prelude.{Result, Ok, Err}
use mathlib.Core.Path.{◌≡◌, refl, sym, ap, subst, ◌∙◌}
use mathlib.Core.List.{List}
use Prim.Native.Nat.{ℕ}
use native.Mathlib.Omega.{arith}
use lib.ListN.{length}
use Rattle.words.specs.Word.{Bytes}
use Rattle.cell.specs.Cell.{distance_cells}
use Rattle.cell.specs.Terms.{Words}
use Rattle.table.specs.Records.{Row, rows_of}
use Rattle.search.specs.Search.{Problem, Flow, going, begin, run}
use Rattle.search.specs.Plan.{distance_bits}
use Rattle.expansion.specs.declared.Plan.{Plan}
use Rattle.expansion.specs.declared.Sizes.{Sizes}
use Rattle.expansion.specs.declared.Step.{Step}
use Rattle.expansion.specs.declared.Step.TheVariants as steps
use Rattle.expansion.specs.Inner.State.{state_in, problem_of, StepMeets, RunMeets}
use Rattle.expansion.specs.Inner.Bytes.{After, Rooms, Fits, onward_in, step_of, run_in}
use Rattle.expansion.proofs.RunsAdd.{FitsStep, run_fits}
use Rattle.expansion.proofs.Simulates.{Simulates, run_by}
use Rattle.astar.specs.Inner.Bytes.{begin_in, no_bound, whole_in, SizedEnd}
use Rattle.astar.proofs.BeginLaws.{begin-lengths, begin-sizes, begin-simulates}

abbrev Last : Result Step Refusal → Type 0
Last r = (z : Sizes) → r ≡ Ok (steps.Going z) → ⊥

-- ---- what the code wrote

module _ (p : Plan) (flags : List Row) (w h : List ℕ) where
  abbrev then : After Sizes → After Step
  then x = onward_in x.0 x.1 x.2 (run_in p flags no_bound)

-- a search that has begun fits its buffers, and can be run
pub begin-fits : (p : Plan) (w h w₁ h₁ : List ℕ) (z : Sizes) → Rooms p.known p.waiting w h → (w₁, h₁, Ok z) ≡ begin_in p w h → Fits p w₁ h₁ z
begin-fits p w h w₁ h₁ z rooms e =
    let lengths = begin-lengths p w h rooms in
    let long : length w₁ ≡ length w = ap (λ (x : After Sizes). length x.0) e ∙ lengths.0 in
    let high : length h₁ ≡ length h = ap (λ (x : After Sizes). length x.1) e ∙ lengths.1 in
    let size = rooms.roomy.size in
    let least = rooms.roomy.least in
    let waits = rooms.waits.least in
    subst (Fits p w₁ h₁) (sym (begin-sizes p w h z (ap (λ (x : After Sizes). x.2) (sym e))))
    (record {
      roomy = record { size = omega arith; small = rooms.roomy.small; least = least };
      known = omega arith;
      few = omega arith;
      small = rooms.waits.small;
      size = omega (arith, rooms.size);
      counted = omega arith;
    })

-- so the end may follow, whatever the bytes were
pub whole-sized : (p : Plan) (flags : List Row) (w h w' h' : List ℕ) (r : Result Step Refusal) → Rooms p.known p.waiting w h → (w', h', r) ≡ whole_in p flags w h → SizedEnd p w' r
unfolding whole_in
whole-sized p flags w h w' h' r rooms e =
    let x = begin_in p w h in
    subst (λ (y : After Step). SizedEnd p y.0 y.2) (sym e) (by-step x.0 x.1 x.2 refl)
  where
    by-run : (w'' h'' : List ℕ) (s : Result Step Refusal) → FitsStep p flags w'' h'' s → SizedEnd p w'' s
    by-run w'' h'' (Ok (steps.Going z)) fits = tt
    by-run w'' h'' (Err q) fits = tt
    by-run w'' h'' (Ok (steps.Arrived z)) fits = record { roomy = fits.roomy; known = fits.known; counted = fits.counted }

    by-step : (w₁ h₁ : List ℕ) (s : Result Sizes Refusal) → (w₁, h₁, s) ≡ begin_in p w h → let y = then p flags w h (w₁, h₁, s) in SizedEnd p y.0 y.2
    by-step w₁ h₁ (Ok z) begun = let y = run_in p flags no_bound w₁ h₁ z in by-run y.0 y.1 y.2 (run_fits p flags no_bound w₁ h₁ z (begin-fits p w h w₁ h₁ z rooms begun))
    by-step w₁ h₁ (Err q) begun = tt

-- ---- where the definition ends

module _ {P : Problem} {p : Plan} {w₀ h₀ w h : List ℕ} {r : Result Step Refusal} {f : Flow} where
  -- a first step that is the last
  met-ran : StepMeets P p w₀ h₀ w h r f → Last r → RunMeets P p w₀ h₀ w h r f
  unfolding run
  met-ran m last = record { pops = 0; met = m; last = last }

  -- a first step, and then all others
  then-ran : (w₁ h₁ : List ℕ) (z : Sizes) → StepMeets P p w₀ h₀ w₁ h₁ (Ok (steps.Going z)) f → RunMeets P p w₁ h₁ w h r (going (state_in p w₁ h₁ z)) → RunMeets P p w₀ h₀ w h r f
  then-ran w₁ h₁ z m a =
      record {
        pops = a.pops;
        met = record {
          same = a.met.same ∙ ap (run P a.pops) m.same;
          good = a.met.good;
          workspace-length = a.met.workspace-length ∙ m.workspace-length;
          heap-length = a.met.heap-length ∙ m.heap-length;
        };
        last = a.last;
      }

module _ (p : Plan) (flags : List ℕ) (count : ℕ) (w h : List ℕ) (rooms : Rooms p.known p.waiting w h) (bytes : Bytes w) (heap-bytes : Bytes h) (words : Words p.start) where
  abbrev P : Problem
  P = problem_of p flags count

  abbrev start : Flow
  start = begin P (distance_bits (distance_cells p.start p.goal))

  abbrev RanFrom : After Step → Type 0
  RanFrom x = RunMeets P p w h x.0 x.1 x.2 start

  pub whole-ran : (w' h' : List ℕ) (r : Result Step Refusal) → (w', h', r) ≡ whole_in p (rows_of 20 flags count) w h → RanFrom (w', h', r)
  unfolding whole_in
  whole-ran w' h' r e =
      let x = begin_in p w h in
      subst RanFrom (sym e) (by-step x.0 x.1 x.2 (begin-simulates p flags count w h rooms bytes heap-bytes words))
    where
      by-step : (w₁ h₁ : List ℕ) (s : Result Sizes Refusal) → Simulates p flags count w h (w₁, h₁, step_of s) start → RanFrom (then p (rows_of 20 flags count) w h (w₁, h₁, s))
      by-step w₁ h₁ (Ok z) m = then-ran w₁ h₁ z m.meets (run_by p flags count no_bound w₁ h₁ _ _ z _ m.meets.good m.bytes m.heap-bytes refl (let small = rooms.roomy.small in omega arith))
      by-step w₁ h₁ (Err q) m = met-ran m.meets (λ z e. absurd (let n : ◌≡◌ {A = ℕ} 0 1 = cc in omega arith))
