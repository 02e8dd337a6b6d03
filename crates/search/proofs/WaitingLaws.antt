-- What holds of each waiting entry holds of each after another was put in its place; and the cells of all entries stay known.
use mathlib.Core.Path.{◌≡◌, refl, ap, ◌∙◌}
use mathlib.Core.List.{List, [], ◌∷◌}
use Prim.Native.Nat.{ℕ, suc}
use lib.Dec.{leb}
use lib.ListN.{length}
use Rattle.general.specs.Each.{Each}
use Rattle.search.specs.Search.{KnownRow, Entry, put, close, waiting_key, insert}
use Rattle.general.proofs.Tests.{on_test}
use Rattle.search.proofs.KnownLaws.{find-put, known-put, known-close}
use Rattle.search.specs.Inner.KnownCell.{KnownCell}

pub each-insert : (Q : Entry → Type 0) (e : Entry) (w : List Entry) → Each Q w → Q e → Each Q (insert e w)
unfolding insert
each-insert Q e [] h q = (q, tt)
each-insert Q e (d ∷ ds) h q = on_test (Each Q) (leb (waiting_key e) (waiting_key d)) (e ∷ d ∷ ds) (d ∷ insert e ds) (λ t. (q, h)) (λ t. (h.0, each-insert Q e ds h.1 q))

pub length-insert : (e : Entry) (w : List Entry) → length (insert e w) ≡ suc (length w)
unfolding insert
length-insert e [] = refl
length-insert e (d ∷ ds) = on_test (λ (l : List Entry). length l ≡ suc (suc (length ds))) (leb (waiting_key e) (waiting_key d)) (e ∷ d ∷ ds) (d ∷ insert e ds) (λ t. refl) (λ t. ap suc (length-insert e ds))

-- what follows of each from what holds of it
pub each-follows : {A : Type 0} (Q R : A → Type 0) → ((x : A) → Q x → R x) → (l : List A) → Each Q l → Each R l
each-follows Q R f [] h = tt
each-follows Q R f (x ∷ l) h = (f x h.0, each-follows Q R f l h.1)

-- the cell that was put, with its entry
pub waits-put : (c g b f : ℕ) (k : List KnownRow) (w : List Entry) → Each (KnownCell k) w → Each (KnownCell (put c g b k)) (insert (record { f = f; cell = c; g = g }) w)
waits-put c g b f k w h =
    each-insert (KnownCell (put c g b k)) (record { f = f; cell = c; g = g }) w
    (each-follows (KnownCell k) (KnownCell (put c g b k)) (λ (e : Entry) (i : KnownCell k e). known-put e.cell c g b k i) w h) (rw find-put)

pub waits-close : (c : ℕ) (k : List KnownRow) (w : List Entry) → Each (KnownCell k) w → Each (KnownCell (close c k)) w
waits-close c k w h = each-follows (KnownCell k) (KnownCell (close c k)) (λ (e : Entry) (i : KnownCell k e). known-close e.cell c k ∙ i) w h
