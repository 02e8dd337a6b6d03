-- What a walk has seen at the end of a level: the cells known before it, then those found, none twice, and each neighbour of the level's cells among them.
use Rattle.std.specs.Prelude.{Result, Ok, Err}
use Rattle.refusal.specs.declared.Refusal.{Refusal}
use mathlib.Core.Path.{◌≡◌, refl, sym, ap, subst, ◌∙◌}
use mathlib.Core.Logic.{⊎_elim}
use mathlib.Core.Bool.{Bool, true, false, cond, ◌||◌, false≢true}
use mathlib.Core.List.Memᴰ
use mathlib.Core.List.{List, [], ◌∷◌, ◌++◌, append_assoc, Memᴰ}
use Prim.Native.Nat.{ℕ, ◌+◌}
use lib.Dec.{ltb}
use lib.ListN.{length}
use Rattle.refusal.specs.declared.Cell.{Cell}
use Rattle.refusal.specs.declared.Room.TheVariants.{Known, Waiting}
use Rattle.refusal.specs.declared.Refusal.TheVariants.{NoRoom}
use Rattle.cell.specs.Cell.{same_cell, neighbors_of}
use Rattle.cell.specs.Terms.{Words}
use Rattle.cell.proofs.Laws.{same-cell}
use Rattle.ring.specs.declared.Rooms.{Rooms}
use Rattle.ring.specs.Ring.{Sight, going, stopped, and_then, is_among, noted, note, see, see_all, expand_into, expand, list_if, level}
use Rattle.ring.proofs.AmongLaws.{among-member}
use Rattle.ring.specs.Reach.{Near, Distinct}
use Rattle.general.proofs.Results.{ok-path}
use Rattle.ring.proofs.ReachLaws.{distinct-last}
use Rattle.ring.proofs.WalkLaws.{going-same, stopped-going, both_go, test-passed, relisted, if_every, list-if-adds}

-- ---- membership, as it is tested

-- cells of 128 bits
abbrev pub AllWords : List Cell → Type 0
AllWords cs = (c : Cell) → Memᴰ c cs → Words c

among-is-member : (c : Cell) (ds : List Cell) → Words c → AllWords ds → is_among c ds ≡ true → Memᴰ c ds
unfolding is_among
among-is-member c [] w all e = absurd (false≢true e)
among-is-member c (d ∷ ds) w all e = by-test (same_cell c d) refl e (among-is-member c ds w (λ b m. all b (Memᴰ.tail m)))
  where
    by-test : (t : Bool) → same_cell c d ≡ t → t || is_among c ds ≡ true → (is_among c ds ≡ true → Memᴰ c ds) → Memᴰ c (d ∷ ds)
    by-test true same e rest = Memᴰ.head (same-cell c d w (all d (Memᴰ.head refl)) same)
    by-test false same e rest = Memᴰ.tail (rest e)

-- ---- while the cells of a level are expanded

-- the known cells are those known before the level, then those found, each of which is one of Q
pub record Sighted (before : List Cell) (Q : Cell → Type 0) (s : Sight) : Type 0 where
  pub split : s.known ≡ before ++ s.found
  pub distinct : Distinct s.known
  pub words : AllWords s.known
  pub only : (d : Cell) → Memᴰ d s.found → Q d

-- from s on, each of P has been seen
pub record After (before : List Cell) (Q P : Cell → Type 0) (s t : Sight) : Type 0 where
  pub sighted : Sighted before Q t
  pub kept : (d : Cell) → Memᴰ d s.known → Memᴰ d t.known
  pub all : (d : Cell) → P d → Memᴰ d t.known

module _ (before : List Cell) (Q : Cell → Type 0) (fits : (d : Cell) → Q d → Words d) (rooms : Rooms) where
  noted-sighted : (c : Cell) (s : Sight) → Q c → is_among c s.known ≡ false → Sighted before Q s → After before Q (λ (d : Cell). d ≡ c) s (noted c s)
  noted-sighted c s q new sighted =
      record {
        sighted = record {
          split = ap (λ (l : List Cell). l ++ (c ∷ [])) sighted.split ∙ append_assoc before s.found (c ∷ []);
          distinct = distinct-last s.known c sighted.distinct (λ m. false≢true (sym new ∙ among-member c s.known m));
          words = λ d m. ⊎_elim (sighted.words d) (λ (m : Memᴰ d (c ∷ [])). subst Words (sym (Memᴰ.eq_of_singleton m)) (fits c q)) (Memᴰ.append_cases s.known m);
          only = λ d m. ⊎_elim (sighted.only d) (λ (m : Memᴰ d (c ∷ [])). subst Q (sym (Memᴰ.eq_of_singleton m)) q) (Memᴰ.append_cases s.found m);
        };
        kept = λ d m. Memᴰ.append_left (c ∷ []) m;
        all = λ d e. Memᴰ.append_right s.known (Memᴰ.head e);
      }

  see-sees : (others : ℕ) (c : Cell) (s t : Sight) → Q c → Sighted before Q s → see rooms others c s ≡ going t → After before Q (λ (d : Cell). d ≡ c) s t
  unfolding see
  see-sees others c s t q sighted e = by-test (is_among c s.known) refl e
    where
      by-test : (b : Bool) → is_among c s.known ≡ b → cond b (going s) (note rooms others c s) ≡ going t → After before Q (λ (d : Cell). d ≡ c) s t
      by-test true known e =
          let here = among-is-member c s.known (fits c q) sighted.words known in
          subst (After before Q (λ (d : Cell). d ≡ c) s) (going-same e) (record { sighted = sighted; kept = λ d m. m; all = λ d e. Memᴰ.cast e here })
      by-test false new e =
          let waits = cond (ltb (others + length s.found) rooms.waiting) (going (noted c s)) (stopped (NoRoom Waiting)) in
          let known-room = (test-passed (ltb (length s.known) rooms.known) waits (NoRoom Known) e).1 in
          let waiting-room = (test-passed (ltb (others + length s.found) rooms.waiting) (going (noted c s)) (NoRoom Waiting) known-room).1 in
          subst (After before Q (λ (d : Cell). d ≡ c) s) (going-same waiting-room) (noted-sighted c s q new sighted)

  see-all-sees : (others : ℕ) (cs : List Cell) (s t : Sight) → ((d : Cell) → Memᴰ d cs → Q d) → Sighted before Q s → see_all rooms others cs s ≡ going t → After before Q (λ (d : Cell). Memᴰ d cs) s t
  unfolding see_all
  see-all-sees others [] s t q sighted e =
      subst (After before Q (λ (d : Cell). Memᴰ d []) s) (going-same e) (record { sighted = sighted; kept = λ d m. m; all = λ d m. absurd (Memᴰ.not-nil m) })
  see-all-sees others (c ∷ cs) s t q sighted e =
      let both = both_go (see rooms others c s) (see_all rooms others cs) e in
      let one = see-sees others c s both.between (q c (Memᴰ.head refl)) sighted both.first in
      let rest = see-all-sees others cs both.between t (λ d m. q d (Memᴰ.tail m)) one.sighted both.second in
      record {
        sighted = rest.sighted;
        kept = λ d m. rest.kept d (one.kept d m);
        all = λ d m. ⊎_elim (λ (e : d ≡ c). rest.kept d (one.all d e)) (rest.all d) (Memᴰ.cases_cons m);
      }

  expand-sees : (others : ℕ) (c : Cell) (s t : Sight) → ((d : Cell) → Near c d → Q d) → Sighted before Q s → expand rooms others c s ≡ going t → After before Q (Near c) s t
  unfolding expand
  expand-sees others c s t q sighted e = by-answer (neighbors_of c) refl e
    where
      by-answer : (a : Result (List Cell) Refusal) → neighbors_of c ≡ a → expand_into rooms others a s ≡ going t → After before Q (Near c) s t
      by-answer (Err r) said e = absurd (stopped-going e)
      by-answer (Ok cs) said e =
          let after = see-all-sees others cs s t (λ d m. q d (record { cells = cs; answered = said; among = m })) sighted e in
          record { sighted = after.sighted; kept = after.kept; all = λ d near. after.all d (subst (Memᴰ d) (ok-path (sym near.answered ∙ said)) near.among) }

  relisted-sighted : (l : List Cell) (s : Sight) → Sighted before Q s → Sighted before Q (relisted l s)
  relisted-sighted l s sighted = record { split = sighted.split; distinct = sighted.distinct; words = sighted.words; only = sighted.only }

  -- a level sees each neighbour of each of its cells
  pub level-sees : (every : Bool) (cs : List Cell) (s t : Sight) → ((c d : Cell) → Memᴰ c cs → Near c d → Q d) → Sighted before Q s → level every rooms cs s ≡ going t → After before Q (λ (d : Cell). (c : Cell) × Memᴰ c cs × Near c d) s t
  unfolding level
  level-sees every [] s t q sighted e =
      subst (After before Q (λ (d : Cell). (c : Cell) × Memᴰ c [] × Near c d) s) (going-same e) (record { sighted = sighted; kept = λ d m. m; all = λ d r. absurd (Memᴰ.not-nil r.1) })
  level-sees every (c ∷ cs) s t q sighted e =
      let outer = both_go (and_then (list_if every rooms c s) (expand rooms (length cs) c)) (level every rooms cs) e in
      let inner = both_go (list_if every rooms c s) (expand rooms (length cs) c) outer.first in
      let now = relisted (s.listed ++ if_every every (c ∷ [])) s in
      let goes : expand rooms (length cs) c now ≡ going outer.between = ap (expand rooms (length cs) c) (sym (list-if-adds every rooms c s inner.between inner.first)) ∙ inner.second in
      let one = expand-sees (length cs) c now outer.between (λ d near. q c d (Memᴰ.head refl) near) (relisted-sighted (s.listed ++ if_every every (c ∷ [])) s sighted) goes in
      let rest = level-sees every cs outer.between t (λ b d m. q b d (Memᴰ.tail m)) one.sighted outer.second in
      record {
        sighted = rest.sighted;
        kept = λ d m. rest.kept d (one.kept d m);
        all = λ d r. ⊎_elim (λ (e : r.0 ≡ c). rest.kept d (one.all d (subst (λ (c : Cell). Near c d) e r.2))) (λ (m : Memᴰ r.0 cs). rest.all d (r.0, m, r.2)) (Memᴰ.cases_cons r.1);
      }
