-- Test by test, as the definition has them; the last two are of the characters behind the separator.
use borrow.Author.Tests.{le-leb, leb-true}
use Rattle.std.proofs.Common.{◌≡◌, List, ℕ, Bool, not, ◌+◌, ◌-◌, ◌≤◌, Some, false, ◌&&◌, leb, ap, ◌∙◌, length, take, drop, map, rules, arith}
use Rattle.general.proofs.Tests.{both, whether}
use Rattle.bech32m.specs.Text.{lowered, some_is}
use Rattle.bech32m.specs.Checksum.{value_of, verified}
use Rattle.bech32m.specs.Valid.{is_unknown, is_valid_at}
use Rattle.bech32m.proofs.Listed.{part-rest}
use Rattle.bech32m.proofs.Places.{Anywhere, some-told}
use Rattle.bech32m.proofs.is_valid_at.Goals as goal

-- a separator without a prefix, or with fewer than six characters behind it
misplaced : (s : List ℕ) (at : ℕ) → (1 ≤ at → at + 7 ≤ length s → ⊥) → false ≡ is_valid_at s (Some at)
unfolding is_valid_at
misplaced s at h =
    whether (leb 1 at && leb (at + 7) (length s))
    (λ e. let b = both (leb 1 at) (leb (at + 7) (length s)) e in absurd (h (leb-true 1 at b.0) (leb-true (at + 7) (length s) b.1)))
    (λ e. simp e)

pub returns-then-at-lt1 : goal.returns-then-at-lt1
returns-then-at-lt1 c = misplaced c.args.text.now c.args.at (λ h k. grind arith)

-- the separator has its place, and this says whether a character behind it is unknown
behind : (s : List ℕ) (at : ℕ) (some : Bool) → 1 ≤ at → at + 7 ≤ length s → Anywhere is_unknown (take (length s - (at + 1)) (drop (at + 1) s)) some → (not some && verified (map lowered (take at s)) (map value_of (take (length s - (at + 1)) (drop (at + 1) s)))) ≡ is_valid_at s (Some at)
unfolding is_valid_at
behind s at some h k any =
    let rest = part-rest s (at + 1) in
    let e : some ≡ some_is is_unknown (drop (at + 1) s) = some-told is_unknown (take (length s - (at + 1)) (drop (at + 1) s)) some any ∙ ap (some_is is_unknown) rest in
    rw (rest, e, le-leb 1 at h, le-leb (at + 7) (length s) k)

pub returns-then-not-any : goal.returns-then-not-any
returns-then-not-any c =
    let s = c.args.text.now in
    let any : Anywhere is_unknown (take (length s - (c.args.at + 1)) (drop (c.args.at + 1) s)) c.any.result = search rules in
    c.verify_characters.ensures ∙ rw c.if-not-any.true at (behind s c.args.at c.any.result (omega arith) (omega arith) any)

pub returns-else-not-any : goal.returns-else-not-any
returns-else-not-any c =
    let s = c.args.text.now in
    let any : Anywhere is_unknown (take (length s - (c.args.at + 1)) (drop (c.args.at + 1) s)) c.any.result = search rules depth 8 in
    rw c.if-not-any.false (rw c.if-not-any.false at (behind s c.args.at c.any.result (omega arith) (omega arith) any))
