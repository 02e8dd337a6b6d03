-- A call that fills a buffer and tells 0 was answered, and its answer stands at the front; the rest is as it was. For elements of any kind.
use Rattle.std.specs.Prelude.{Result, Ok, Err}
use Rattle.refusal.specs.declared.Refusal.{Refusal}
use mathlib.Core.Path.{◌≡◌, refl, sym, ap, ◌∙◌}
use mathlib.Core.Bool.{Bool, true, false, cond}
use mathlib.Core.List.{List}
use lib.Dec.{leb}
use lib.ListN.{length}
use Rattle.refusal.specs.declared.Room.TheVariants.{Output}
use Rattle.refusal.specs.declared.Refusal.TheVariants.{NoRoom}
use Rattle.refusal.proofs.Numbers.{refused-number}
use Rattle.face.specs.declared.RefusalTold.{RefusalTold}
use Rattle.face.specs.Told.{answered, told_of, Filled, filled, fronted, fill, fill_by}

module _ {A : Type 0} (t : RefusalTold) (l out last : List A) (nought : t.number ≡ 0) where
  by-room : (b : Bool) → filled t last ≡ cond b (filled answered (fronted l out)) (filled (told_of (NoRoom Output)) out) → last ≡ fronted l out
  by-room true p = ap (λ (s : Filled A). s.out) p
  by-room false p = absurd (refused-number (NoRoom Output) (sym (ap (λ (s : Filled A). s.told.number) p) ∙ nought))

  pub front-filled : filled t last ≡ fill l out → last ≡ fronted l out
  front-filled post = by-room (leb (length l) (length out)) post

-- the same of an answer that may be refused: it was not
module _ {A B : Type 0} (f : A → List B) (t : RefusalTold) (out last : List B) (nought : t.number ≡ 0) where
  pub front-filled-by : (a : Result A Refusal) → filled t last ≡ fill_by f a out → (x : A) × (a ≡ Ok x) × (last ≡ fronted (f x) out)
  front-filled-by (Err r) post = absurd (refused-number r (sym (ap (λ (s : Filled B). s.told.number) post) ∙ nought))
  front-filled-by (Ok x) post = (x, refl, front-filled t (f x) out last nought post)
