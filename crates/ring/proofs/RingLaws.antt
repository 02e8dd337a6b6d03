-- A ring lists the cells that k or fewer steps reach, a shell those that k steps reach and no fewer do, and neither lists a cell twice. The proof goes from level to level: the known
-- cells are those that fewer steps reach, then those at hand, which as many steps reach.
use mathlib.Core.Path.{◌≡◌, refl, sym, ap, subst, ◌∙◌}
use mathlib.Core.Logic.{◌↔◌, ⊎_elim}
use mathlib.Core.Bool.{Bool, true, false}
use mathlib.Core.List.{List, [], ◌∷◌, ◌++◌, append-nil, Memᴰ}
use Prim.Native.Nat.{ℕ, zero, suc, ◌+◌, ◌<◌}
use native.Mathlib.Decide.{dec_lt}
use native.Mathlib.Omega.{arith}
use Rattle.refusal.specs.declared.Cell.{Cell}
use Rattle.cell.specs.Terms.{Words}
use Rattle.ring.specs.declared.Rooms.{Rooms}
use Rattle.ring.specs.Ring.{Sight, sight, going, level, list_all, further, levels, walk_of}
use Rattle.ring.specs.Reach.{Near, Steps, stay, onward, Within, Exactly, Distinct, no_cells, one_more}
use Rattle.ring.proofs.ReachLaws.{steps-words, distinct-right, distinct_apart}
use Rattle.ring.proofs.WalkLaws.{both_go, if_every, every-none, every_append, list-all-adds, level-lists}
use Rattle.ring.proofs.SightLaws.{Sighted, After, level-sees}

-- ---- level by level

-- fewer than j steps lead there
abbrev Nearer : ℕ → Cell → Cell → Type 0
Nearer j a b = (n : ℕ) × (n < j) × Steps a n b

-- the walk from a centre has come to the cells that j steps reach: the known cells are those before, which fewer steps reach, and those at hand
record Arrived (every : Bool) (center : Cell) (j : ℕ) (before cs : List Cell) (s : Sight) : Type 0 where
  split : s.known ≡ before ++ cs
  distinct : Distinct s.known
  none_found : s.found ≡ []
  listed : s.listed ≡ if_every every before
  before-nearer : (d : Cell) → Memᴰ d before → Nearer j center d
  nearer-before : (d : Cell) → Nearer j center d → Memᴰ d before
  at-hand : (d : Cell) → Memᴰ d cs → Steps center j d
  all : (d : Cell) → Steps center j d → Memᴰ d s.known

module _ {every : Bool} {center : Cell} {j : ℕ} {before cs : List Cell} {s : Sight} (arrived : Arrived every center j before cs s) where
  known-within : (d : Cell) → Memᴰ d s.known → Nearer (suc j) center d
  known-within d m =
      ⊎_elim
      (λ (m : Memᴰ d before). let r = arrived.before-nearer d m in (r.0, omega (arith, r.1), r.2))
      (λ (m : Memᴰ d cs). (j, omega arith, arrived.at-hand d m))
      (mathlib.Core.List.Memᴰ.append_cases before (subst (Memᴰ d) arrived.split m))

  nearer-known : (d : Cell) → Nearer j center d → Memᴰ d s.known
  nearer-known d r = subst (Memᴰ d) (sym arrived.split) (mathlib.Core.List.Memᴰ.append_left cs (arrived.nearer-before d r))

  within-known : (d : Cell) → Nearer (suc j) center d → Memᴰ d s.known
  within-known d r = by_number r.0 r.1 r.2 (dec_lt r.0 j)
    where
      by_number : (n : ℕ) → n < suc j → Steps center n d → Dec (n < j) → Memᴰ d s.known
      by_number n h steps (yes less) = nearer-known d (n, less, steps)
      by_number n h steps (no more) = arrived.all d (subst (λ (n : ℕ). Steps center n d) (omega arith) steps)

-- it starts at the centre
start : (every : Bool) (center : Cell) → Arrived every center 0 [] (center ∷ []) (sight (center ∷ []) [] [])
start every center =
    record {
      split = refl;
      distinct = one_more (λ m. mathlib.Core.List.Memᴰ.not-nil m) no_cells;
      none_found = refl;
      listed = sym (every-none every);
      before-nearer = λ d m. absurd (mathlib.Core.List.Memᴰ.not-nil m);
      nearer-before = λ d r. absurd (omega (arith, r.1));
      at-hand = λ d m. stay (mathlib.Core.List.Memᴰ.eq_of_singleton m);
      all = λ d steps. mathlib.Core.List.Memᴰ.head (there steps);
    }
  where
    there : {d : Cell} → Steps center 0 d → d ≡ center
    there (stay e) = e

-- and goes one step further with each level
module _ {every : Bool} {center : Cell} {j : ℕ} {before cs : List Cell} {s t : Sight} (words : Words center) (rooms : Rooms) (arrived : Arrived every center j before cs s) (goes : level every rooms cs s ≡ going t) where
  sighted : Sighted s.known (Steps center (suc j)) s
  sighted =
      record {
        split = sym (append-nil s.known) ∙ ap (λ (l : List Cell). s.known ++ l) (sym arrived.none_found);
        distinct = arrived.distinct;
        words = λ d m. steps-words words (known-within arrived d m).2;
        only = λ d m. absurd (mathlib.Core.List.Memᴰ.not-nil (subst (Memᴰ d) arrived.none_found m));
      }

  after : After s.known (Steps center (suc j)) (λ (d : Cell). (c : Cell) × Memᴰ c cs × Near c d) s t
  after = level-sees s.known (Steps center (suc j)) (λ d steps. steps-words words steps) rooms every cs s t (λ c d m near. onward (arrived.at-hand c m) near) sighted goes

  next_known : (d : Cell) → Steps center (suc j) d → Memᴰ d t.known
  next_known d (onward {b} steps near) =
      ⊎_elim
      (λ (m : Memᴰ b before). let r = arrived.before-nearer b m in after.kept d (within-known arrived d (suc r.0, omega (arith, r.1), onward r.2 near)))
      (λ (m : Memᴰ b cs). after.all d (b, m, near))
      (mathlib.Core.List.Memᴰ.append_cases before (subst (Memᴰ b) arrived.split (arrived.all b steps)))

  further-arrived : Arrived every center (suc j) s.known t.found (further t)
  further-arrived =
      record {
        split = after.sighted.split;
        distinct = after.sighted.distinct;
        none_found = refl;
        listed = level-lists every rooms cs s t goes ∙ ap (λ (l : List Cell). l ++ if_every every cs) arrived.listed ∙ every_append every before cs ∙ ap (if_every every) (sym arrived.split);
        before-nearer = known-within arrived;
        nearer-before = within-known arrived;
        at-hand = after.sighted.only;
        all = next_known;
      }

-- ---- at the last level

record Ended (every : Bool) (rooms : Rooms) (center : Cell) (k : ℕ) (s : Sight) : Type 0 where
  before : List Cell
  cs : List Cell
  last : Sight
  arrived : Arrived every center k before cs last
  goes : list_all rooms cs last ≡ going s

levels-end : (every : Bool) (rooms : Rooms) (center : Cell) (k j n : ℕ) (before cs : List Cell) (s t : Sight) → Words center → j + k ≡ n → Arrived every center j before cs s → levels every rooms k cs s ≡ going t → Ended every rooms center n t
unfolding levels
levels-end every rooms center zero j n before cs s t words sum arrived e = record { before = before; cs = cs; last = s; arrived = subst (λ (n : ℕ). Arrived every center n before cs s) (omega arith) arrived; goes = e }
levels-end every rooms center (suc k) j n before cs s t words sum arrived e =
    let both = both_go (level every rooms cs s) (λ (t : Sight). levels every rooms k t.found (further t)) e in
    levels-end every rooms center k (suc j) n s.known both.between.found (further both.between) t words (omega arith) (further-arrived words rooms arrived both.first) both.second

walk_ends : (every : Bool) (rooms : Rooms) (k : ℕ) (center : Cell) (s : Sight) → Words center → walk_of every rooms k center ≡ going s → Ended every rooms center k s
unfolding walk_of
walk_ends every rooms k center s words e = levels-end every rooms center k 0 k [] (center ∷ []) (sight (center ∷ []) [] []) s words (omega arith) (start every center) e

-- ---- what is listed

module _ (rooms : Rooms) (k : ℕ) (center : Cell) (s : Sight) (words : Words center) where
  module _ (goes : walk_of true rooms k center ≡ going s) where
    ring-known : (end : Ended true rooms center k s) → s.listed ≡ end.last.known
    ring-known end = ap (λ (s : Sight). s.listed) (list-all-adds rooms end.cs end.last s end.goes) ∙ ap (λ (l : List Cell). l ++ end.cs) end.arrived.listed ∙ sym end.arrived.split

    -- a ring lists a cell exactly if k or fewer steps reach it
    pub ring-within : (d : Cell) → Memᴰ d s.listed ↔ Within k center d
    ring-within d =
        let end = walk_ends true rooms k center s words goes in (
          λ m. let r = known-within end.arrived d (subst (Memᴰ d) (ring-known end) m) in (r.0, omega (arith, r.1), r.2),
          λ r. subst (Memᴰ d) (sym (ring-known end)) (within-known end.arrived d (r.0, omega (arith, r.1), r.2)),
        )

    -- and none twice
    pub ring-distinct : Distinct s.listed
    ring-distinct =
        let end = walk_ends true rooms k center s words goes in
        subst Distinct (sym (ring-known end)) end.arrived.distinct

  module _ (goes : walk_of false rooms k center ≡ going s) where
    shell-at-hand : (end : Ended false rooms center k s) → s.listed ≡ end.cs
    shell-at-hand end = ap (λ (s : Sight). s.listed) (list-all-adds rooms end.cs end.last s end.goes) ∙ ap (λ (l : List Cell). l ++ end.cs) end.arrived.listed

    -- a shell lists a cell exactly if k steps reach it and no fewer do
    pub shell-exactly : (d : Cell) → Memᴰ d s.listed ↔ Exactly k center d
    shell-exactly d =
        let end = walk_ends false rooms k center s words goes in
        let arrived = end.arrived in
        let apart = subst Distinct arrived.split arrived.distinct in (
          λ m. let here = subst (Memᴰ d) (shell-at-hand end) m in (arrived.at-hand d here, λ n less steps. distinct_apart end.before apart (arrived.nearer-before d (n, less, steps)) here),
          λ exactly. subst (Memᴰ d) (sym (shell-at-hand end))
              (⊎_elim (λ (m : Memᴰ d end.before). let r = arrived.before-nearer d m in absurd (exactly.1 r.0 r.1 r.2)) (λ (m : Memᴰ d end.cs). m)
              (mathlib.Core.List.Memᴰ.append_cases end.before (subst (Memᴰ d) arrived.split (arrived.all d exactly.0)))),
        )

    -- and none twice
    pub shell-distinct : Distinct s.listed
    shell-distinct =
        let end = walk_ends false rooms k center s words goes in
        subst Distinct (sym (shell-at-hand end)) (distinct-right end.before (subst Distinct end.arrived.split end.arrived.distinct))
