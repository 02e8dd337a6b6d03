-- Runs keep sizes within the rooms and add, whatever the bytes hold: to pause at one count and to go on to a later one is to go on to the later one at once.
use Rattle.refusal.specs.declared.Refusal.{Refusal}
use Rattle.std.specs.Prelude.{Result, Ok, Err}
use mathlib.Core.Path.{◌≡◌, refl, sym, ap, ◌∙◌}
use mathlib.Core.Bool.{Bool, true, false, cond, ◌&&◌}
use mathlib.Core.List.{List}
use Prim.Native.Nat.{ℕ, zero, suc, ◌-◌, ◌≤◌, ◌<◌}
use native.Mathlib.Omega.{arith}
use lib.Dec.{leb}
use borrow.Author.Tests.{le-leb, leb-true}
use Rattle.refusal.specs.declared.Refusal.TheVariants.{BadWorkspace}
use Rattle.table.specs.Records.{Row}
use Rattle.general.proofs.Tests.{on_test}
use Rattle.expansion.specs.declared.Plan.{Plan}
use Rattle.expansion.specs.declared.Sizes.{Sizes}
use Rattle.expansion.specs.declared.Step.{Step}
use Rattle.expansion.specs.declared.Step.TheVariants as step
use Rattle.expansion.specs.Inner.Bytes.{After, Rooms, Fits, and_then_in, advance_in, is_sized, enough, due_in, paused_in, pops_in, run_in, resume_in}
use Rattle.expansion.proofs.Left.{left_in}
use Rattle.expansion.proofs.BytesKept.{Popped, advance-forward, fits-forward, left-enough}
use Rattle.expansion.proofs.BytesLoops.{sized-fits, fits-sized, resume-sized, resume-unsized, pops-on}

-- what is not paused at one count is not paused at a later one
later-on : (p : Plan) (u v : ℕ) (w h : List ℕ) (z : Sizes) → u ≤ v → paused_in p u w h z ≡ false → paused_in p v w h z ≡ false
later-on p u v w h z below e = by-due (leb v z.count) (due_in p w h z) refl e
  where
    by-due : (t d : Bool) → leb v z.count ≡ t → (leb u z.count && d) ≡ false → (t && d) ≡ false
    by-due false d s f = refl
    by-due true d s f =
        let far = leb-true v z.count s in
        sym (ap (λ (b : Bool). b && d) (le-leb u z.count (omega arith))) ∙ f

module _ (p : Plan) (flags : List Row) where
  -- ---- enough steps are enough

  more-steps : (u k m : ℕ) (w h : List ℕ) (z : Sizes) → Fits p w h z → left_in p z < k → left_in p z < m → pops_in p flags k u w h z ≡ pops_in p flags m u w h z
  unfolding pops_in
  more-steps u zero m w h z fits suffice also = absurd (omega arith)
  more-steps u (suc k) zero w h z fits suffice also = absurd (omega arith)
  more-steps u (suc k) (suc m) w h z fits suffice also =
      let x = advance_in p flags w h z in
      ap (cond (paused_in p u w h z) (w, h, Ok (step.Going z))) (on x.0 x.1 x.2 (advance-forward p flags w h z fits) (more-steps u k m))
    where
      on : (w' h' : List ℕ) (r : Result Step Refusal) → Popped p flags w h z (w', h', r) → ((w h : List ℕ) (z : Sizes) → Fits p w h z → left_in p z < k → left_in p z < m → pops_in p flags k u w h z ≡ pops_in p flags m u w h z)
          → and_then_in w' h' r (pops_in p flags k u) ≡ and_then_in w' h' r (pops_in p flags m u)
      on w' h' (Ok (step.Going z')) popped again = again w' h' z' (fits-forward p flags w h w' h' z z' fits popped.workspace-length popped.heap-length popped.on) (omega (arith, popped.on.less)) (omega (arith, popped.on.less))
      on w' h' (Err r) popped again = refl
      on w' h' (Ok (step.Arrived z')) popped again = refl

  -- ---- to one count, and then to a later one

  module _ (u v K : ℕ) (below : u ≤ v) where
    abbrev Adds : ℕ → List ℕ → List ℕ → Sizes → Type 0
    Adds k w h z = let y = pops_in p flags k u w h z in pops_in p flags K v w h z ≡ and_then_in y.0 y.1 y.2 (pops_in p flags K v)

    pops-add : (k : ℕ) (w h : List ℕ) (z : Sizes) → Fits p w h z → left_in p z < K → left_in p z < k → Adds k w h z
    unfolding pops_in
    pops-add zero w h z fits suffice also = absurd (omega arith)
    pops-add (suc k) w h z fits suffice also =
        let x = advance_in p flags w h z in
        on_test (λ (y : After Step). pops_in p flags K v w h z ≡ and_then_in y.0 y.1 y.2 (pops_in p flags K v)) (paused_in p u w h z) (w, h, Ok (step.Going z)) (and_then_in x.0 x.1 x.2 (pops_in p flags k u))
        (λ paused. refl)
        (λ goes.
        let steps : K ≡ suc (K - 1) = omega arith in
        ap (λ (m : ℕ). pops_in p flags m v w h z) steps ∙ pops-on p flags (K - 1) v w h z (later-on p u v w h z below goes)
        ∙ on x.0 x.1 x.2 (advance-forward p flags w h z fits) (pops-add k))
      where
        on : (w' h' : List ℕ) (r : Result Step Refusal) → Popped p flags w h z (w', h', r) → ((w h : List ℕ) (z : Sizes) → Fits p w h z → left_in p z < K → left_in p z < k → Adds k w h z)
            → and_then_in w' h' r (pops_in p flags (K - 1) v) ≡ (let y = and_then_in w' h' r (pops_in p flags k u) in and_then_in y.0 y.1 y.2 (pops_in p flags K v))
        on w' h' (Ok (step.Going z')) popped again =
            let there = fits-forward p flags w h w' h' z z' fits popped.workspace-length popped.heap-length popped.on in
            let falls = popped.on.less in
            more-steps v (K - 1) K w' h' z' there (omega arith) (omega arith) ∙ again w' h' z' there (omega arith) (omega arith)
        on w' h' (Err r) popped again = refl
        on w' h' (Ok (step.Arrived z')) popped again = refl

  -- ---- sizes stay within their rooms

  abbrev pub FitsStep : List ℕ → List ℕ → Result Step Refusal → Type 0
  FitsStep w h (Ok (step.Going z)) = Fits p w h z
  FitsStep w h (Err r) = Unit {0}
  FitsStep w h (Ok (step.Arrived z)) = Fits p w h z

  pops-fit : (u k : ℕ) (w h : List ℕ) (z : Sizes) → Fits p w h z → left_in p z < k → let y = pops_in p flags k u w h z in FitsStep y.0 y.1 y.2
  unfolding pops_in
  pops-fit u zero w h z fits suffice = absurd (omega arith)
  pops-fit u (suc k) w h z fits suffice =
      let x = advance_in p flags w h z in
      on_test (λ (y : After Step). FitsStep y.0 y.1 y.2) (paused_in p u w h z) (w, h, Ok (step.Going z)) (and_then_in x.0 x.1 x.2 (pops_in p flags k u))
      (λ paused. fits)
      (λ goes. on x.0 x.1 x.2 (advance-forward p flags w h z fits) (pops-fit u k))
    where
      on : (w' h' : List ℕ) (r : Result Step Refusal) → Popped p flags w h z (w', h', r)
          → ((w h : List ℕ) (z : Sizes) → Fits p w h z → left_in p z < k → let y = pops_in p flags k u w h z in FitsStep y.0 y.1 y.2)
          → let y = and_then_in w' h' r (pops_in p flags k u) in FitsStep y.0 y.1 y.2
      on w' h' (Ok (step.Going z')) popped again = again w' h' z' (fits-forward p flags w h w' h' z z' fits popped.workspace-length popped.heap-length popped.on) (omega (arith, popped.on.less))
      on w' h' (Err r) popped again = tt
      on w' h' (Ok (step.Arrived z')) popped again = fits-forward p flags w h w' h' z z' fits popped.workspace-length popped.heap-length popped.on

  -- where a run goes on or has come to the goal, the sizes fit the buffers
  pub run_fits : (until : ℕ) (w h : List ℕ) (z : Sizes) → Fits p w h z → let y = run_in p flags until w h z in FitsStep y.0 y.1 y.2
  unfolding run_in
  run_fits until w h z fits = pops-fit until (enough p) w h z fits (left-enough p w h z fits)

  pub resume-fits : (until : ℕ) (w h : List ℕ) (z : Sizes) → Rooms p.known p.waiting w h → let y = resume_in p flags until w h z in FitsStep y.0 y.1 y.2
  unfolding resume_in
  resume-fits until w h z rooms =
      on_test (λ (y : After Step). FitsStep y.0 y.1 y.2) (is_sized p z) (run_in p flags until w h z) (w, h, Err BadWorkspace)
      (λ e. run_fits until w h z (sized-fits p w h z rooms e))
      (λ e. tt)

  -- ---- runs add

  -- a run to u and then one to v is a run to v
  pub runs-add : (u v : ℕ) (w h : List ℕ) (z : Sizes) → u ≤ v → Fits p w h z → let y = run_in p flags u w h z in run_in p flags v w h z ≡ and_then_in y.0 y.1 y.2 (run_in p flags v)
  unfolding run_in
  runs-add u v w h z below fits = let suffice = left-enough p w h z fits in pops-add u v (enough p) below (enough p) w h z fits suffice suffice

  -- from any sizes, too
  pub resumes-add : (u v : ℕ) (w h : List ℕ) (z : Sizes) → u ≤ v → Rooms p.known p.waiting w h → let y = resume_in p flags u w h z in resume_in p flags v w h z ≡ and_then_in y.0 y.1 y.2 (resume_in p flags v)
  resumes-add u v w h z below rooms = by_size (is_sized p z) refl
    where
      on : (w' h' : List ℕ) (r : Result Step Refusal) → FitsStep w' h' r → and_then_in w' h' r (run_in p flags v) ≡ and_then_in w' h' r (resume_in p flags v)
      on w' h' (Ok (step.Going z')) fits = sym (resume-sized p flags v w' h' z' (fits-sized p w' h' z' fits))
      on w' h' (Err r) fits = refl
      on w' h' (Ok (step.Arrived z')) fits = refl

      by_size : (t : Bool) → is_sized p z ≡ t → let y = resume_in p flags u w h z in resume_in p flags v w h z ≡ and_then_in y.0 y.1 y.2 (resume_in p flags v)
      by_size false e =
          resume-unsized p flags v w h z e ∙ ap (λ (y : After Step). and_then_in y.0 y.1 y.2 (resume_in p flags v)) (sym (resume-unsized p flags u w h z e))
      by_size true e =
          let fits = sized-fits p w h z rooms e in
          let y = run_in p flags u w h z in
          resume-sized p flags v w h z e ∙ runs-add u v w h z below fits
          ∙ on y.0 y.1 y.2 (run_fits u w h z fits)
          ∙ ap (λ (x : After Step). and_then_in x.0 x.1 x.2 (resume_in p flags v)) (sym (resume-sized p flags u w h z e))
