-- Laws of hash chains, over any functions of indices: a walk along a chain passes over nothing it looks for, and an index added as the last of its bucket leaves chains.
use Rattle.std.proofs.Common.{◌≡◌, ℕ, ◌+◌, ◌-◌, ◌<◌, ◌≤◌, ◌≢◌, sym, ap, ◌∙◌, subst, arith}
use native.Mathlib.Decide.{dec_lt, ℕ_discrete}
use Rattle.known.specs.Inner.Chain.{Last, Chain}
use Rattle.known.proofs.Chain.{Walk}

-- ---- a walk

module _ (h : ℕ → ℕ) (P : ℕ → Type 0) where
  -- it starts at the head of the one bucket where P can hold
  pub walk_start : {b n v : ℕ} → ((j : ℕ) → P j → h j ≡ b) → Last h b n v → Walk h P b n v
  walk_start f last = record { bound = last.bound; passed = λ j from below p. last.later j from below (f j p); hit = last.hit }

  -- and goes from an index without P to the one before it in the bucket
  pub walk-next : {b n v w : ℕ} → ((j : ℕ) → P j → h j ≡ b) → Walk h P b n v → 0 < v → (P (v - 1) → ⊥) → Last h (h (v - 1)) (v - 1) w → Walk h P b n w
  walk-next {b} {n} {v} {w} f walk some not-here last =
      let bucket : h (v - 1) ≡ b = walk.hit some in
      record {
        bound = omega arith;
        passed = λ j from below p. by_place j from below p (ℕ_discrete j (v - 1)) (dec_lt j v);
        hit = λ more. last.hit more ∙ bucket;
      }
    where
      by_place : (j : ℕ) → w ≤ j → j < n → P j → Dec (j ≡ v - 1) → Dec (j < v) → ⊥
      by_place j from below p (yes here) before = not-here (subst P here p)
      by_place j from below p (no other) (yes before) = last.later j from (omega arith) (f j p ∙ sym (walk.hit some))
      by_place j from below p (no other) (no after) = walk.passed j (omega arith) below p

-- ---- chains

-- the last index below m is decided by the buckets of the indices below m
pub last-same : {h k : ℕ → ℕ} {b m v : ℕ} → ((j : ℕ) → j < m → k j ≡ h j) → Last h b m v → Last k b m v
last-same {h} {k} {b} {m} {v} same last =
    record {
      bound = last.bound;
      later = λ j from below e. last.later j from below (sym (same j below) ∙ e);
      hit = λ some. same (v - 1) (omega arith) ∙ last.hit some;
    }

-- chains stay where buckets, heads and links stay
pub chain_same : (h head next h' head' next' : ℕ → ℕ) (room n : ℕ) → ((j : ℕ) → j < n → h' j ≡ h j) → ((b : ℕ) → b < room → head' b ≡ head b) → ((i : ℕ) → i < n → next' i ≡ next i) → Chain h head next room n → Chain h' head' next' room n
chain_same h head next h' head' next' room n buckets heads links chain =
    record {
      heads = λ b below. rw (heads b below) (last-same {h = h} {k = h'} buckets (chain.heads b below));
      nexts = λ i less. rw (buckets i less, links i less) (last-same {h = h} {k = h'} (λ j below. buckets j (omega arith)) (chain.nexts i less));
    }

-- no index is on a chain where each head is none
pub chain-none : (h head next : ℕ → ℕ) (room : ℕ) → ((b : ℕ) → b < room → head b ≡ 0) → Chain h head next room 0
chain-none h head next room none =
    record {
      heads = λ b below.
          let z = none b below in
          record { bound = omega arith; later = λ j from less e. omega arith; hit = λ some. absurd (omega arith) };
      nexts = λ i less. absurd (omega arith);
    }

-- an index n more, in bucket b: its link is the head that stood there, and it is the head
pub record Longer (h head next h' head' next' : ℕ → ℕ) (room n b : ℕ) : Type 0 where
  pub fits : b < room
  pub bucket-old : (j : ℕ) → j < n → h' j ≡ h j
  pub bucket-new : h' n ≡ b
  pub next-old : (j : ℕ) → j < n → next' j ≡ next j
  pub next-new : next' n ≡ head b
  pub head-old : (k : ℕ) → k < room → k ≢ b → head' k ≡ head k
  pub head-new : head' b ≡ n + 1

module _ (h head next h' head' next' : ℕ → ℕ) (room n b : ℕ) (chain : Chain h head next room n) (longer : Longer h head next h' head' next' room n b) where
  head-of-bucket : (k v : ℕ) → k ≡ b → v ≡ n + 1 → Last h' k (n + 1) v
  head-of-bucket k v q e =
      record {
        bound = omega arith;
        later = λ j from below z. omega arith;
        hit = λ some. let place : v - 1 ≡ n = omega arith in ap h' place ∙ longer.bucket-new ∙ sym q;
      }

  head-of-other : (k v : ℕ) → k ≢ b → Last h k n v → Last h' k (n + 1) v
  head-of-other k v other last =
      let same = last-same {h = h} {k = h'} longer.bucket-old last in
      record {
        bound = omega arith;
        later = λ j from below e. by_place j from below e (ℕ_discrete j n) same;
        hit = same.hit;
      }
    where
      by_place : (j : ℕ) → v ≤ j → j < n + 1 → h' j ≡ k → Dec (j ≡ n) → Last h' k n v → ⊥
      by_place j from below e (yes new) same = other (sym e ∙ ap h' new ∙ longer.bucket-new)
      by_place j from below e (no old) same = same.later j from (omega arith) e

  heads-longer : (k : ℕ) → k < room → Last h' k (n + 1) (head' k)
  heads-longer k below = by-bucket (ℕ_discrete k b)
    where
      by-bucket : Dec (k ≡ b) → Last h' k (n + 1) (head' k)
      by-bucket (yes q) = head-of-bucket k (head' k) q (ap head' q ∙ longer.head-new)
      by-bucket (no other) = subst (Last h' k (n + 1)) (sym (longer.head-old k below other)) (head-of-other k (head k) other (chain.heads k below))

  nexts-longer : (i : ℕ) → i < n + 1 → Last h' (h' i) i (next' i)
  nexts-longer i below = by_index (ℕ_discrete i n)
    where
      by_index : Dec (i ≡ n) → Last h' (h' i) i (next' i)
      by_index (yes new) = rw (new, longer.bucket-new, longer.next-new) (last-same {h = h} {k = h'} longer.bucket-old (chain.heads b longer.fits))
      by_index (no old) =
          let less : i < n = omega arith in
          rw (longer.bucket-old i less, longer.next-old i less) (last-same {h = h} {k = h'} (λ j below-i. longer.bucket-old j (omega arith)) (chain.nexts i less))

  pub chain-longer : Chain h' head' next' room (n + 1)
  chain-longer = record { heads = heads-longer; nexts = nexts-longer }
