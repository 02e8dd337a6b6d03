-- Pop after pop, from where the first one started: it goes on, it ends or it is paused.
use Rattle.refusal.specs.declared.Refusal.{Refusal}
use Rattle.std.specs.Prelude.{Result, Ok}
use mathlib.Core.Path.{◌≡◌, refl, sym, ap, ◌∙◌}
use mathlib.Core.Bool.{true}
use mathlib.Core.List.{List}
use Prim.Native.Nat.{ℕ, ◌+◌}
use lib.ListN.{length}
use Rattle.search.specs.Search.{going, step, run}
use Rattle.search.proofs.Ending.{run-split}
use Rattle.expansion.specs.declared.Plan.{Plan}
use Rattle.expansion.specs.declared.Sizes.{Sizes}
use Rattle.expansion.specs.declared.Step.{Step}
use Rattle.expansion.specs.declared.Step.TheVariants as steps
use Rattle.expansion.specs.Inner.State.{state_in, problem_of, HoldsSearch, StepMeets, RunMeetsTo}
use Rattle.expansion.specs.Inner.Bytes.{paused_in}

-- so many pops were made
pub record Running (p : Plan) (flags : List ℕ) (count : ℕ) (w₀ h₀ : List ℕ) (z₀ : Sizes) (w h : List ℕ) (z : Sizes) : Type 0 where
  pub pops : ℕ
  pub workspace-length : length w ≡ length w₀
  pub heap-length : length h ≡ length h₀
  pub good : HoldsSearch p w h z
  pub same : run (problem_of p flags count) pops (going (state_in p w₀ h₀ z₀)) ≡ going (state_in p w h z)

module _ {p : Plan} {flags : List ℕ} {count : ℕ} {w₀ h₀ : List ℕ} {z₀ : Sizes} where
  pub run-start : HoldsSearch p w₀ h₀ z₀ → Running p flags count w₀ h₀ z₀ w₀ h₀ z₀
  unfolding run
  run-start good = record { pops = 0; workspace-length = refl; heap-length = refl; good = good; same = refl }

  module _ {w h : List ℕ} {z : Sizes} (a : Running p flags count w₀ h₀ z₀ w h z) where
    one_more : run (problem_of p flags count) (a.pops + 1) (going (state_in p w₀ h₀ z₀)) ≡ step (problem_of p flags count) (state_in p w h z)
    unfolding run
    one_more = run-split (problem_of p flags count) a.pops 1 (going (state_in p w₀ h₀ z₀)) ∙ ap (run (problem_of p flags count) 1) a.same

    pub run-next : (w' h' : List ℕ) (z' : Sizes) → StepMeets (problem_of p flags count) p w h w' h' (Ok (steps.Going z')) (step (problem_of p flags count) (state_in p w h z)) → Running p flags count w₀ h₀ z₀ w' h' z'
    run-next w' h' z' m =
        record {
          pops = a.pops + 1;
          workspace-length = m.workspace-length ∙ a.workspace-length;
          heap-length = m.heap-length ∙ a.heap-length;
          good = m.good;
          same = one_more ∙ sym m.same;
        }

    pub run_ends : (until : ℕ) (w' h' : List ℕ) (r : Result Step Refusal) → ((x : Sizes) → r ≡ Ok (steps.Going x) → ⊥) → StepMeets (problem_of p flags count) p w h w' h' r (step (problem_of p flags count) (state_in p w h z)) → RunMeetsTo (problem_of p flags count) p until w₀ h₀ w' h' r (going (state_in p w₀ h₀ z₀))
    run_ends until w' h' r last m =
        record {
          pops = a.pops + 1;
          met = record {
            same = m.same ∙ sym one_more;
            good = m.good;
            workspace-length = m.workspace-length ∙ a.workspace-length;
            heap-length = m.heap-length ∙ a.heap-length;
          };
          paused = λ x e. absurd (last x e);
        }

    pub run-pauses : (until : ℕ) → paused_in p until w h z ≡ true → RunMeetsTo (problem_of p flags count) p until w₀ h₀ w h (Ok (steps.Going z)) (going (state_in p w₀ h₀ z₀))
    run-pauses until paused =
        record {
          pops = a.pops;
          met = record { same = sym a.same; good = a.good; workspace-length = a.workspace-length; heap-length = a.heap-length };
          paused = λ x e. let same : z ≡ x = cc in ap (paused_in p until w h) (sym same) ∙ paused;
        }
