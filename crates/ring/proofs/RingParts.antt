-- A ring is the ring one step smaller, then the shell around it: where the ring is answered, so are the two.
use mathlib.Core.Path.{◌≡◌, ap, ◌∙◌}
use mathlib.Core.Bool.{true, false}
use mathlib.Core.List.{List, [], ◌∷◌, ◌++◌}
use Prim.Native.Nat.{ℕ, zero, suc}
use native.Mathlib.Omega.{arith}
use Rattle.refusal.specs.declared.Cell.{Cell}
use Rattle.ring.specs.declared.Rooms.{Rooms}
use Rattle.ring.specs.Ring.{Sight, sight, Walk, going, and_then, level, list_all, further, levels, walk_of}
use Rattle.ring.proofs.WalkLaws.{both_go, relisted, list-all-behind, list-all-adds, level-lists, level-of-shell, level-only-listed}
use Rattle.ring.specs.Terms.{Parts}

levels-parts : (rooms : Rooms) (k : ℕ) (cs : List Cell) (s t : Sight) → levels true rooms (suc k) cs s ≡ going t → Parts (levels true rooms k cs s) (levels false rooms (suc k) cs (relisted [] s)) t
unfolding levels
levels-parts rooms zero cs s t e =
    let both = both_go (level true rooms cs s) (λ (t : Sight). list_all rooms t.found (further t)) e in
    let u = both.between in
    record {
      ring = relisted (s.listed ++ cs) s;
      shell = relisted u.found (further u);
      ring-goes = level-only-listed rooms cs s u both.first;
      shell-goes =
          ap (λ (w : Walk). and_then w (λ (t : Sight). list_all rooms t.found (further t))) (level-of-shell rooms cs s u [] both.first)
          ∙ list-all-behind rooms u.found (further u) t (relisted [] (further u)) both.second (omega arith);
      joined =
          ap (λ (s : Sight). s.listed) (list-all-adds rooms u.found (further u) t both.second)
          ∙ ap (λ (l : List Cell). l ++ u.found) (level-lists true rooms cs s u both.first);
    }
levels-parts rooms (suc k) cs s t e =
    let both = both_go (level true rooms cs s) (λ (t : Sight). levels true rooms (suc k) t.found (further t)) e in
    let u = both.between in
    let rest = levels-parts rooms k u.found (further u) t both.second in
    record {
      ring = rest.ring;
      shell = rest.shell;
      ring-goes = ap (λ (w : Walk). and_then w (λ (t : Sight). levels true rooms k t.found (further t))) both.first ∙ rest.ring-goes;
      shell-goes = ap (λ (w : Walk). and_then w (λ (t : Sight). levels false rooms (suc k) t.found (further t))) (level-of-shell rooms cs s u [] both.first) ∙ rest.shell-goes;
      joined = rest.joined;
    }

-- in the same rooms
pub ring-and-shell : (rooms : Rooms) (k : ℕ) (center : Cell) (s : Sight) → walk_of true rooms (suc k) center ≡ going s → Parts (walk_of true rooms k center) (walk_of false rooms (suc k) center) s
unfolding walk_of
ring-and-shell rooms k center s e = levels-parts rooms k (center ∷ []) (sight (center ∷ []) [] []) s e
