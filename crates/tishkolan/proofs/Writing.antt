-- A loop that stores items of k elements each, one after another, at the front of a lent list: after i turns the elements of the first i items stand there, and behind them
-- the list as it was. Stated for any items and any k.
use mathlib.Core.Path.{◌≡◌, sym, ap, ◌∙◌}
use mathlib.Core.Bool.{Bool, true, false, cond}
use mathlib.Core.List.{List, [], ◌∷◌, ◌++◌, append-nil, flat_map}
use Prim.Native.Nat.{ℕ, ◌+◌, ◌*◌, ◌≤◌, ◌<◌}
use native.Mathlib.Omega.{arith}
use native.Mathlib.Numerals.{add-one}
use native.Mathlib.Nat.{mul-zero, mul-suc, mul-le-mul_left}
use lib.ListN.{length, get_or, take, drop, length-append, length-drop}
use lib.Seq.{sets, sets-eq, take-suc, take_all, take_at, drop-drop, drop-append-add, length-take-le}
use lib.Dec.{leb}
use borrow.Author.Tests.{le-leb, lt-leb}
use Rattle.refusal.specs.declared.Refusal.TheVariants.{NoRoom}
use Rattle.refusal.specs.declared.Room.TheVariants.{Output}
use Rattle.general.proofs.Lists.{flat_map-append}
use Rattle.face.specs.declared.RefusalTold.{RefusalTold}
use Rattle.face.specs.Told.{answered, told_of, filled, fronted, fill}

module _ {A B : Type 0} (f : A → List B) where
  flat_map-one : (a : A) → flat_map f (a ∷ []) ≡ f a
  unfolding flat_map
  flat_map-one a = append-nil (f a)

  module _ (k : ℕ) (even : (a : A) → length (f a) ≡ k) where
    pub length-flat_map : (l : List A) → length (flat_map f l) ≡ k * length l
    unfolding flat_map
    length-flat_map [] = omega arith
    length-flat_map (a ∷ l) = rw (length-append, even, length-flat_map l, mul-suc) (omega arith)

-- the elements of the first i items stand at the front of `out`, which was `before`
pub record Written {A B : Type 0} (k : ℕ) (f : A → List B) (items : List A) (before out : List B) (i : ℕ) : Type 0 where
  pub within : i ≤ length items
  pub room : k * length items ≤ length before
  pub done : out ≡ flat_map f (take i items) ++ drop (k * i) before

module _ {A B : Type 0} {k : ℕ} {f : A → List B} {items : List A} {before : List B} where
  pub written_none : k * length items ≤ length before → Written k f items before before 0
  unfolding flat_map
  written_none h = record { within = omega arith; room = h; done = rw mul-zero }

module _ {A B : Type 0} {k : ℕ} {f : A → List B} {items : List A} {before out : List B} {i : ℕ} (even : (a : A) → length (f a) ≡ k) (w : Written k f items before out i) where
  abbrev front : List B
  front = flat_map f (take i items)

  abbrev rest : List B
  rest = drop (k * i) before

  long-front : length front ≡ k * i
  long-front = length-flat_map f k even (take i items) ∙ ap (λ (m : ℕ). k * m) (length-take-le i items w.within)

  -- one item more, and there is room for it
  more : k * (i + 1) ≡ k * i + k
  more = rw add-one (mul-suc k i)

  pub written_room : i < length items → k * i + k ≤ length out
  written_room less =
      let upto : k * (i + 1) ≤ k * length items = mul-le-mul_left k (omega arith) in
      omega (arith, ap length w.done, length-append front rest, long-front, length-drop (k * i) before, more, upto, w.room)

  pub written_more : (d : A) {next : List B} → i < length items → next ≡ sets out (k * i) (f (get_or items i d)) → Written k f items before next (i + 1)
  written_more d less stored =
      let item = f (get_or items i d) in
      let long : length item ≡ k = even (get_or items i d) in
      let ahead : take (k * i) out ≡ front = ap (take (k * i)) w.done ∙ take_at front rest (k * i) long-front in
      let behind : drop (k * i + length item) out ≡ drop (k * (i + 1)) before =
      (λ j. drop (sym long-front j + long j) (w.done j)) ∙ drop-append-add front rest k ∙ drop-drop k (k * i) before ∙ ap (λ (m : ℕ). drop m before) (sym more) in
      let joined : front ++ item ≡ flat_map f (take (i + 1) items) =
      sym (rw add-one (ap (flat_map f) (take-suc items i d less) ∙ flat_map-append f (take i items) (get_or items i d ∷ []) ∙ ap (λ (l : List B). front ++ l) (flat_map-one f (get_or items i d)))) in
      record {
        within = omega arith;
        room = w.room;
        done =
            stored
            ∙ sets-eq item out (k * i) (omega (arith, long, written_room less))
            ∙ (λ j. ahead j ++ item ++ behind j)
            ∙ ap (λ (l : List B). l ++ drop (k * (i + 1)) before) joined;
      }

  pub written_all : length items ≤ i → out ≡ fronted (flat_map f items) before
  written_all past =
      let size : k * i ≡ length (flat_map f items) = sym (length-flat_map f k even items ∙ ap (λ (m : ℕ). k * m) (omega (arith, w.within))) in
      w.done ∙ (λ j. flat_map f (take_all i items past j) ++ drop (size j) before)

-- ---- a lent buffer's answer by the test of its room

module _ {A : Type 0} (l out : List A) where
  fits_by : (b : Bool) → leb (length l) (length out) ≡ b → cond b (filled answered (fronted l out)) (filled (told_of (NoRoom Output)) out) ≡ fill l out
  fits_by b room = ap (λ (roomy : Bool). cond roomy (filled answered (fronted l out)) (filled (told_of (NoRoom Output)) out)) (sym room)

  pub fill-no-room : {t : RefusalTold} → length out < length l → t ≡ told_of (NoRoom Output) → filled t out ≡ fill l out
  fill-no-room short told = (λ i. filled (told i) out) ∙ fits_by false (lt-leb (length l) (length out) short)

  pub fill-front : {t : RefusalTold} {next : List A} → length l ≤ length out → t ≡ answered → next ≡ fronted l out → filled t next ≡ fill l out
  fill-front room told stored = (λ i. filled (told i) (stored i)) ∙ fits_by true (le-leb (length l) (length out) room)
