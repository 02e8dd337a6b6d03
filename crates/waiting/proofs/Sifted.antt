-- Bytes that are a heap stay one when an entry is pushed or popped: what push and pop leave, in the words of heaps.
use mathlib.Core.Path.{◌≡◌, refl, sym, subst, ◌∙◌}
use mathlib.Core.Bool.{Bool, true, false, cond}
use mathlib.Core.List.{List}
use Prim.Native.Nat.{ℕ, zero, suc, ◌+◌, ◌-◌, ◌*◌, ◌/◌, ◌≤◌, ◌<◌}
use native.Mathlib.Omega.{arith}
use lib.Dec.{ltb, eqb}
use lib.ListN.{length}
use borrow.Author.Tests.{ltb-true, ltb-false, lt-ltb, le-ltb}
use native.Mathlib.Decide.{ℕ_discrete}
use Rattle.words.specs.Word.{little, Bytes}
use Rattle.words.proofs.Laws.{bytes-stored}
use Rattle.waiting.specs.declared.Entry.{Entry}
use Rattle.waiting.specs.Inner.Heap.{Heap}
use Rattle.waiting.proofs.Heap.{Replaced}
use Rattle.waiting.proofs.Steps.{Dug, Risen}
use Rattle.waiting.specs.Inner.Steps.{Pushed, Popped}
use Rattle.waiting.specs.Inner.Entries.{entry_key, entry_at, key_in, entry_stored, EntryWords}
use Rattle.waiting.specs.Inner.Sift.{risen_in, child_in, dug_in, push_in, pop_in}
use Rattle.waiting.proofs.Sift.{length-entry-stored, risen-top, risen-fits, risen-on, dug-end, dug-on}
use Rattle.waiting.proofs.Stored.{stored-replaced}
use Rattle.waiting.proofs.Cases.{by_less}
use Rattle.waiting.proofs.Decides.{words-at}
use Rattle.waiting.proofs.Holes.{hole-first, hole-last, below-childless, fewer}
use Rattle.waiting.proofs.Least.{least-child}
use Rattle.waiting.proofs.Moves.{Rising, rises, risen, Digging, digs}
use Rattle.waiting.proofs.Answers.{key-is, root-left, root-alone, pushed, popped}

bytes-entry-stored : (l : List ℕ) (i : ℕ) (e : Entry) → Bytes l → Bytes (entry_stored l i e)
unfolding entry_stored
bytes-entry-stored l i e b =
    bytes-stored little 8 _ (32 * i + 24) e.g (bytes-stored little 8 _ (32 * i + 16) e.cell.low (bytes-stored little 8 _ (32 * i + 8) e.cell.high (bytes-stored little 8 l (32 * i) e.f b)))

module _ (start : ℕ → ℕ) (size a : ℕ) (e : Entry) (words : EntryWords e) where
  abbrev Right : List ℕ → Type 0
  Right x = Risen start (key_in x) size a (entry_key e)

  module _ (l : List ℕ) (hole : ℕ) (long : 32 * size ≤ length l) (b : Bytes l) (r : Rising start (key_in l) size a hole (entry_key e)) where
    abbrev parent : ℕ
    parent = (hole - 1) / 4

    abbrev lifted : List ℕ
    lifted = entry_stored l hole (entry_at l parent)

    stays : Replaced (key_in l) (key_in (entry_stored l hole e)) hole (entry_key e)
    stays = stored-replaced l hole e (omega (arith, r.within)) words refl

    at_top : (m : ℕ) → hole ≡ 0 → Right (risen_in m l hole e)
    at_top m top = subst Right (sym (risen-top m l hole e top)) (risen start (key_in l) _ size a hole (entry_key e) r (λ inner. absurd (omega arith)) stays)

    at_rest : (m : ℕ) → ltb (entry_key e) (key_in l parent) ≡ false → Right (risen_in m l hole e)
    at_rest m f = subst Right (sym (risen-fits m l hole e f)) (risen start (key_in l) _ size a hole (entry_key e) r (λ inner. ltb-false _ _ f) stays)

    lifts : Replaced (key_in l) (key_in lifted) hole (key_in l parent)
    unfolding key_in
    lifts = stored-replaced l hole (entry_at l parent) (omega (arith, r.within)) (words-at l b parent) refl

    higher : 0 < hole → ltb (entry_key e) (key_in l parent) ≡ true → Rising start (key_in lifted) size a parent (entry_key e)
    higher inner f = rises start (key_in l) _ size a hole (entry_key e) r inner (ltb-true _ _ f) lifts

    by_place : (m : ℕ) → (0 < hole → Rising start (key_in lifted) size a parent (entry_key e) → Right (risen_in m lifted parent e)) → Dec (hole ≡ 0) → (t : Bool) → ltb (entry_key e) (key_in l parent) ≡ t → Right (risen_in (suc m) l hole e)
    by_place m more (yes top) t f = at_top (suc m) top
    by_place m more (no inside) false f = at_rest (suc m) f
    by_place m more (no inside) true f =
        let inner : 0 < hole = omega arith in
        subst Right (sym (risen-on m l hole e inner f)) (more inner (higher inner f))

  -- so many steps are enough where the hole is not above them
  pub rising-risen : (m : ℕ) (l : List ℕ) (hole : ℕ) → hole ≤ m → 32 * size ≤ length l → Bytes l → Rising start (key_in l) size a hole (entry_key e) → Right (risen_in m l hole e)
  rising-risen zero l hole enough long b r = at_top l hole long b r zero (omega arith)
  rising-risen (suc m) l hole enough long b r =
      let parent = (hole - 1) / 4 in
      by_place l hole long b r m
      (λ inner x. rising-risen m (entry_stored l hole (entry_at l parent)) parent (omega arith) (omega (arith, length-entry-stored l hole (entry_at l parent))) (bytes-entry-stored l hole (entry_at l parent) b) x)
      (ℕ_discrete hole 0) (ltb (entry_key e) (key_in l parent)) refl

pub length-risen : (m : ℕ) (l : List ℕ) (hole : ℕ) (e : Entry) → length (risen_in m l hole e) ≡ length l
unfolding risen_in
length-risen zero l hole e = length-entry-stored l hole e
length-risen (suc m) l hole e =
    either (eqb hole 0) (ltb (entry_key e) (key_in l ((hole - 1) / 4))) (entry_stored l hole e) (risen_in m (entry_stored l hole (entry_at l ((hole - 1) / 4))) ((hole - 1) / 4) e) (length-entry-stored l hole e)
    (length-risen m (entry_stored l hole (entry_at l ((hole - 1) / 4))) ((hole - 1) / 4) e ∙ length-entry-stored l hole (entry_at l ((hole - 1) / 4)))
  where
    either : (s t : Bool) (x y : List ℕ) → length x ≡ length l → length y ≡ length l → length (cond s x (cond t y x)) ≡ length l
    either true t x y p q = p
    either false true x y p q = q
    either false false x y p q = p

-- ---- the hole goes down

-- what holds of each place of the hole on its way, the bytes that it leaves on the way with it, holds of the last
module _ (Q : List ℕ → ℕ → Type 0) (size : ℕ) (on : (l : List ℕ) (hole : ℕ) → 4 * hole + 1 < size → Q l hole → Q (entry_stored l hole (entry_at l (child_in l size hole))) (child_in l size hole)) where
  pub dug-keeps : (m : ℕ) (l : List ℕ) (hole : ℕ) → Q l hole → Q (dug_in m l size hole).0 (dug_in m l size hole).1
  unfolding dug_in
  dug-keeps zero l hole q = q
  dug-keeps (suc m) l hole q =
      by_less (4 * hole + 1) size
      (λ h. subst (λ (d : List ℕ × ℕ). Q d.0 d.1) (sym (dug-on m l size hole h)) (dug-keeps m _ _ (on l hole h q)))
      (λ h. subst (λ (d : List ℕ × ℕ). Q d.0 d.1) (sym (dug-end (suc m) l size hole h)) q)

pub dug-within : (m : ℕ) (l : List ℕ) (size hole : ℕ) → hole < size → (dug_in m l size hole).1 < size
dug-within m l size hole h = dug-keeps (λ x i. i < size) size (λ x i more q. (least-child x size i more).within) m l hole h

pub length-dug : (m : ℕ) (l : List ℕ) (size hole : ℕ) → length (dug_in m l size hole).0 ≡ length l
length-dug m l size hole = dug-keeps (λ x i. length x ≡ length l) size (λ x i more q. length-entry-stored x i _ ∙ q) m l hole refl

bytes-dug : (m : ℕ) (l : List ℕ) (size hole : ℕ) → Bytes l → Bytes (dug_in m l size hole).0
bytes-dug m l size hole b = dug-keeps (λ x i. Bytes x) size (λ x i more q. bytes-entry-stored x i _ q) m l hole b

-- it ends where it has no child
dug-childless : (m : ℕ) (l : List ℕ) (size hole : ℕ) → size - hole ≤ m → size ≤ 4 * (dug_in m l size hole).1 + 1
dug-childless zero l size hole enough = subst (λ (d : List ℕ × ℕ). size ≤ 4 * d.1 + 1) (sym (dug-end zero l size hole (omega arith))) (omega arith)
dug-childless (suc m) l size hole enough =
    by_less (4 * hole + 1) size
    (λ h. let down = (least-child l size hole h).from in subst (λ (d : List ℕ × ℕ). size ≤ 4 * d.1 + 1) (sym (dug-on m l size hole h)) (dug-childless m _ size _ (omega arith)))
    (λ h. subst (λ (d : List ℕ × ℕ). size ≤ 4 * d.1 + 1) (sym (dug-end (suc m) l size hole h)) h)

module _ (start : ℕ → ℕ) (size : ℕ) where
  -- a heap but for the hole, in bytes that are long enough
  Deep : List ℕ → ℕ → Type 0
  Deep x i = Digging start (key_in x) size i × (Bytes x × (32 * size ≤ length x))

  deeper : (x : List ℕ) (i : ℕ) → 4 * i + 1 < size → Deep x i → Deep (entry_stored x i (entry_at x (child_in x size i))) (child_in x size i)
  unfolding Deep key_in
  deeper x i more q =
      let c = child_in x size i in (
        digs start (key_in x) _ size i c q.0 (least-child x size i more) (stored-replaced x i (entry_at x c) (omega (arith, q.0.within, q.1.1)) (words-at x q.1.0 c) refl),
        (bytes-entry-stored x i (entry_at x c) q.1.0, subst (λ (n : ℕ). 32 * size ≤ n) (sym (length-entry-stored x i (entry_at x c))) q.1.1),
      )

  digging-dug : (m : ℕ) (l : List ℕ) (hole : ℕ) → Deep l hole → Deep (dug_in m l size hole).0 (dug_in m l size hole).1
  digging-dug m l hole q = dug-keeps Deep size deeper m l hole q

-- ---- push and pop

-- where the bytes are a heap, one more entry waits
pub pushed-in : (l : List ℕ) (size : ℕ) (e : Entry) → Bytes l → EntryWords e → Heap (key_in l) size → 32 * (size + 1) ≤ length l → Pushed l (push_in l size e) size e
unfolding push_in
pushed-in l size e b words heap long =
    pushed l (risen_in size l size e) size e
    (rising-risen (key_in l) (size + 1) size e words size l size (omega arith) long b
    (record { within = omega arith; open_at = hole-last (key_in l) size heap; below = below-childless (key_in l) (size + 1) size (entry_key e) (omega arith); moved = λ y. refl }))
    (length-risen size l size e)

-- and of one that has entries the least waits no more
module _ (l : List ℕ) (size : ℕ) (b : Bytes l) (heap : Heap (key_in l) size) (long : 32 * size ≤ length l) where
  abbrev rest : ℕ
  rest = size - 1

  abbrev dug : List ℕ × ℕ
  dug = dug_in rest l rest 0

  abbrev filled : List ℕ
  filled = risen_in dug.1 dug.0 dug.1 (entry_at l rest)

  module _ (many : 0 < rest) where
    deep : Deep (key_in l) rest dug.0 dug.1
    unfolding Deep
    deep = digging-dug (key_in l) rest rest l 0 (record { within = many; open_at = hole-first (key_in l) size rest heap (omega arith); moved = λ y. refl }, (b, omega arith))

    down : Dug (key_in l) (key_in dug.0) rest dug.1
    unfolding Deep
    down = record { within = deep.0.within; childless = dug-childless rest l rest 0 (omega arith); hole = deep.0.open_at; moved = deep.0.moved }

    up : Risen (key_in dug.0) (key_in filled) rest dug.1 (entry_key (entry_at l rest))
    unfolding Deep
    up =
        rising-risen (key_in dug.0) rest dug.1 (entry_at l rest) (words-at l b rest) dug.1 dug.0 dug.1 (omega arith) deep.1.1 deep.1.0
        (record { within = down.within; open_at = down.hole; below = below-childless (key_in dug.0) rest dug.1 _ down.childless; moved = λ y. refl })

    many-left : Popped l filled size (entry_at l 0)
    many-left =
        popped l filled size (entry_at l 0) b heap refl up.heap
        (root-left (key_in l) (key_in dug.0) (key_in filled) size dug.1 (entry_key (entry_at l rest)) (omega arith) down up (key-is l rest refl))
        (length-risen dug.1 dug.0 dug.1 (entry_at l rest) ∙ length-dug rest l rest 0)

  pub popped-in : 0 < size → Popped l (pop_in l size) size (entry_at l 0)
  unfolding pop_in
  popped-in some =
      by_less 0 rest
      (λ h. rw (lt-ltb 0 rest h) (many-left h))
      (λ h. rw (le-ltb 0 rest h) (popped l l size (entry_at l 0) b heap refl (fewer (key_in l) size rest heap (omega arith)) (root-alone (key_in l) size (omega arith)) refl))

pub length_push : (l : List ℕ) (size : ℕ) (e : Entry) → length (push_in l size e) ≡ length l
unfolding push_in
length_push l size e = length-risen size l size e

pub length-pop : (l : List ℕ) (size : ℕ) → length (pop_in l size) ≡ length l
unfolding pop_in
length-pop l size =
    either (ltb 0 (size - 1)) (risen_in (dug_in (size - 1) l (size - 1) 0).1 (dug_in (size - 1) l (size - 1) 0).0 (dug_in (size - 1) l (size - 1) 0).1 (entry_at l (size - 1))) (length-risen (dug_in (size - 1) l (size - 1) 0).1 (dug_in (size - 1) l (size - 1) 0).0 (dug_in (size - 1) l (size - 1) 0).1 (entry_at l (size - 1)) ∙ length-dug (size - 1) l (size - 1) 0)
  where
    either : (t : Bool) (x : List ℕ) → length x ≡ length l → length (cond t x l) ≡ length l
    either true x p = p
    either false x p = refl

-- ---- and they stay bytes

bytes-risen : (m : ℕ) (l : List ℕ) (hole : ℕ) (e : Entry) → Bytes l → Bytes (risen_in m l hole e)
unfolding risen_in
bytes-risen zero l hole e b = bytes-entry-stored l hole e b
bytes-risen (suc m) l hole e b =
    let up = entry_stored l hole (entry_at l ((hole - 1) / 4)) in
    either (eqb hole 0) (ltb (entry_key e) (key_in l ((hole - 1) / 4))) (entry_stored l hole e) (risen_in m up ((hole - 1) / 4) e) (bytes-entry-stored l hole e b)
    (bytes-risen m up ((hole - 1) / 4) e (bytes-entry-stored l hole (entry_at l ((hole - 1) / 4)) b))
  where
    either : (s t : Bool) (x y : List ℕ) → Bytes x → Bytes y → Bytes (cond s x (cond t y x))
    either true t x y p q = p
    either false true x y p q = q
    either false false x y p q = p

pub bytes-push : (l : List ℕ) (size : ℕ) (e : Entry) → Bytes l → Bytes (push_in l size e)
unfolding push_in
bytes-push l size e b = bytes-risen size l size e b

pub bytes-pop : (l : List ℕ) (size : ℕ) → Bytes l → Bytes (pop_in l size)
unfolding pop_in
bytes-pop l size b =
    either (ltb 0 (size - 1)) (risen_in (dug_in (size - 1) l (size - 1) 0).1 (dug_in (size - 1) l (size - 1) 0).0 (dug_in (size - 1) l (size - 1) 0).1 (entry_at l (size - 1)))
    (bytes-risen (dug_in (size - 1) l (size - 1) 0).1 (dug_in (size - 1) l (size - 1) 0).0 (dug_in (size - 1) l (size - 1) 0).1 (entry_at l (size - 1)) (bytes-dug (size - 1) l (size - 1) 0 b))
  where
    either : (t : Bool) (x : List ℕ) → Bytes x → Bytes (cond t x l)
    either true x p = p
    either false x p = b
