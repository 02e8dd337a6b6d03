-- Where a cell is found along its chain, whatever the bytes hold: a link that does not fall ends the chain.
use Rattle.std.specs.Prelude.{Option, Some, None}
use Rattle.std.proofs.Common.{◌≡◌, ℕ, zero, suc, ◌+◌, ◌-◌, ◌<◌, ◌≤◌, Bool, true, false, cond, eqb, ltb, List, sym, refl, ap, ◌∙◌, subst, arith, ltb-false, le-ltb, lt-ltb, eq-eqb, ne_eqb}
use native.Mathlib.Decide.{dec_lt}
use borrow.Author.Tests.{eqb-false}
use Rattle.refusal.specs.declared.Cell.{Cell}
use Rattle.cell.specs.Cell.{same_cell}
use Rattle.known.specs.Inner.Known.{bucket_of, cell_in, link_in, head_in}
use Rattle.known.specs.Inner.Seek.{seek_in, find_in}

-- ---- its steps

module _ (l : List ℕ) (room : ℕ) (c : Cell) (bound v : ℕ) where
  pub seek-end : (m : ℕ) → v ≡ 0 → seek_in m l room c bound v ≡ None
  unfolding seek_in
  seek-end zero e = refl
  seek-end (suc m) e = rw (eq-eqb v 0 e) refl

  seek-broken : (m : ℕ) → 0 < v → bound < v → seek_in m l room c bound v ≡ None
  unfolding seek_in
  seek-broken zero some above = refl
  seek-broken (suc m) some above = rw (ne_eqb v 0 (λ z. omega arith), lt-ltb bound v above) refl

  -- no record, or one above the bound
  pub seek-none : (m : ℕ) → (0 < v → v ≤ bound → ⊥) → seek_in m l room c bound v ≡ None
  seek-none m out = by_size (dec_lt 0 v) (dec_lt bound v)
    where
      by_size : Dec (0 < v) → Dec (bound < v) → seek_in m l room c bound v ≡ None
      by_size (no none) d = seek-end m (omega arith)
      by_size (yes some) (yes above) = seek-broken m some above
      by_size (yes some) (no under) = absurd (out some (omega arith))

  pub seek-here : (m : ℕ) → 0 < v → v ≤ bound → same_cell (cell_in l room (v - 1)) c ≡ true → seek_in (suc m) l room c bound v ≡ Some (v - 1)
  unfolding seek_in
  seek-here m some falls e = rw (ne_eqb v 0 (λ z. omega arith), le-ltb bound v falls, e) refl

  pub seek-on : (m : ℕ) → 0 < v → v ≤ bound → same_cell (cell_in l room (v - 1)) c ≡ false → seek_in (suc m) l room c bound v ≡ seek_in m l room c (v - 1) (link_in l room (v - 1))
  unfolding seek_in
  seek-on m some falls e = rw (ne_eqb v 0 (λ z. omega arith), le-ltb bound v falls, e) refl

  module _ (m i : ℕ) (enough : bound < m) (place : v ≡ i + 1) (falls : i < bound) where
    more : m ≡ suc (m - 1)
    more = omega arith

    here : v - 1 ≡ i
    here = omega arith

    pub seek_found : same_cell (cell_in l room i) c ≡ true → seek_in m l room c bound v ≡ Some i
    seek_found e =
        ap (λ (k : ℕ). seek_in k l room c bound v) more
        ∙ seek-here (m - 1) (omega arith) (omega arith) (ap (λ (k : ℕ). same_cell (cell_in l room k) c) here ∙ e)
        ∙ ap Some here

    pub seek-next : same_cell (cell_in l room i) c ≡ false → seek_in m l room c bound v ≡ seek_in (m - 1) l room c i (link_in l room i)
    seek-next e =
        ap (λ (k : ℕ). seek_in k l room c bound v) more
        ∙ seek-on (m - 1) (omega arith) (omega arith) (ap (λ (k : ℕ). same_cell (cell_in l room k) c) here ∙ e)
        ∙ ap (λ (k : ℕ). seek_in (m - 1) l room c k (link_in l room k)) here

-- ---- a record that is found is one of the first n

abbrev pub Under : ℕ → Option ℕ → Type 0
Under n (Some i) = i < n
Under n None = Unit {0}

tested : (Q : Option ℕ → Type 0) (b : Bool) (x y : Option ℕ) → (b ≡ true → Q x) → (b ≡ false → Q y) → Q (cond b x y)
tested Q true x y f g = f refl
tested Q false x y f g = g refl

seek-under : (l : List ℕ) (room : ℕ) (c : Cell) (n m bound v : ℕ) → bound ≤ n → Under n (seek_in m l room c bound v)
unfolding seek_in
seek-under l room c n zero bound v below = tt
seek-under l room c n (suc m) bound v below =
    let further = seek_in m l room c (v - 1) (link_in l room (v - 1)) in
    tested (Under n) (eqb v 0) None (cond (ltb bound v) None (cond (same_cell (cell_in l room (v - 1)) c) (Some (v - 1)) further)) (λ e. tt)
    (λ some.
    tested (Under n) (ltb bound v) None (cond (same_cell (cell_in l room (v - 1)) c) (Some (v - 1)) further) (λ e. tt)
    (λ falls.
    let place = ltb-false bound v falls in
    let not_None = eqb-false v 0 some in
    let small : v - 1 < n = positive v n not_None (omega arith) in
    tested (Under n) (same_cell (cell_in l room (v - 1)) c) (Some (v - 1)) further (λ e. small) (λ e. seek-under l room c n m (v - 1) (link_in l room (v - 1)) (omega arith))))
  where
    positive : (v n : ℕ) → (v ≡ 0 → ⊥) → v ≤ n → v - 1 < n
    positive v n some most = omega arith

pub find-under : (l : List ℕ) (room n : ℕ) (c : Cell) → Under n (find_in l room n c)
unfolding find_in
find-under l room n c = seek-under l room c n (suc n) n (head_in l (bucket_of c room)) (omega arith)

pub found_below : (l : List ℕ) (room n : ℕ) (c : Cell) (r : Option ℕ) (i : ℕ) → r ≡ find_in l room n c → r ≡ Some i → i < n
found_below l room n c r i look here = subst (Under n) (sym look ∙ here) (find-under l room n c)
