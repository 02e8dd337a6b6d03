-- Two answers that meet the contract of a call of the checker agree: what is lent decides them. A list that is handed back agrees in its place and in its bytes.
use mathlib.Core.Path.{◌≡◌, sym, ap, subst, ◌∙◌}
use mathlib.Core.Logic.{⊎_elim}
use mathlib.Core.List.{List}
use Prim.Native.Nat.{ℕ}
use contract.Lifetimes.{Lfts}
use denote.Ref.{Bor}
use denote.Triple.Clauses.{AtExit}
use borrow.Fn.Kinds.{Dens, res_t, ended_of}
use Rattle.general.specs.OneAnswer.{OneAnswer}
use Rattle.route.specs.Choice.{Chosen}
use Rattle.route.proofs.ChoiceLaws.{OneOfThree, three-choices}
use Rattle.route.proofs as here

pub is-step-one : OneAnswer 0 here.is_step.Kinds.ps here.is_step.Kinds.r here.is_step.Reads.Post
is-step-one κs a z z' e e' p q = p ∙ sym q

pub step-cost-one : OneAnswer 0 here.step_cost.Kinds.ps here.step_cost.Kinds.r here.step_cost.Reads.Post
step-cost-one κs a z z' e e' p q = p ∙ sym q

pub is-shut-one : OneAnswer 1 here.is_shut.Kinds.ps here.is_shut.Kinds.r here.is_shut.Reads.Post
is-shut-one κs a z z' e e' p q = p ∙ sym q

pub verdict-one : OneAnswer 4 here.verdict.Kinds.ps here.verdict.Kinds.r here.verdict.Reads.Post
verdict-one κs a z z' e e' p q = p ∙ sym q

pub choice-one : OneAnswer 7 here.choice.Kinds.ps here.choice.Kinds.r here.choice.Reads.Post
choice-one κs a z z' e e' p q = p ∙ sym q

-- ---- the list that is handed back

-- one place, one list
abbrev Alike : Bor (List ℕ) → Bor (List ℕ) → Type 0
Alike r s = (r.ref_ptr ≡ s.ref_ptr) × (r.now ≡ s.now)

alike : {k : ℕ} {sent homing r s : Bor (List ℕ)} → OneOfThree k → Chosen k sent homing r → Chosen k sent homing s → Alike r s
alike {k} {sent} {homing} {r} {s} three p q =
    let same : r ≡ s → Alike r s = λ e. (ap (λ (t : Bor (List ℕ)). t.ref_ptr) e, ap (λ (t : Bor (List ℕ)). t.now) e) in
    ⊎_elim
    (λ (e : k ≡ 1). same (p.is-sent e ∙ sym (q.is-sent e)))
    (⊎_elim
    (λ (e : k ≡ 2). same (p.is-homing e ∙ sym (q.is-homing e)))
    (λ (e : k ≡ 0). ((p.is-empty e).0 ∙ sym (q.is-empty e).0, (p.is-empty e).1 ∙ sym (q.is-empty e).1)))
    three

pub choose_one : (κs : Lfts 6) (a : Dens κs here.choose.Kinds.ps) (z z' : (res_t here.choose.Kinds.r κs).Denot) (e e' : AtExit (ended_of 6 here.choose.Kinds.ps here.choose.Kinds.r) κs)
    → here.choose.Reads.Post κs a z e → here.choose.Reads.Post κs a z' e' → Alike z z'
choose_one κs a z z' e e' p q = alike (three-choices _ _) p q

-- at the same arguments `choose` hands back what `choice` says
pub choose-as-choice : (κs : Lfts 7) (a : Dens κs here.choice.Kinds.ps) (k : (res_t here.choice.Kinds.r κs).Denot) (e : AtExit (ended_of 7 here.choice.Kinds.ps here.choice.Kinds.r) κs)
    → (λs : Lfts 6) (z : (res_t here.choose.Kinds.r λs).Denot) (f : AtExit (ended_of 6 here.choose.Kinds.ps here.choose.Kinds.r) λs)
    → here.choice.Reads.Post κs a k e → here.choose.Reads.Post λs a z f → Chosen k a.0 a.1.0 z
choose-as-choice κs a k e λs z f p q = subst (λ (n : ℕ). Chosen n a.0 a.1.0 z) (sym p) q
