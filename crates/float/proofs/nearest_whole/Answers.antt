-- `float::nearest_whole` meets its contract: up to 2 ^ 30 the size fits an `i32`, with either sign.
use Rattle.std.proofs.Common.{◌≡◌, ℕ, zero, suc, ◌≤◌, ℤ, pos, negsuc, ◌-ℤ◌, neg_ℤ, sym, refl, ap, ◌∙◌, subst, zero-lt-suc, arith, to_z-of_z, w32, SFits, to_z, of_z, lt-ltb}
use lib.Ieee.{of_bits}
use mir.Facts.{to_z_pos}
use Rattle.float.proofs.Signs.{modest-above, modest-below, integer-above, integer-below, integer-zero}
use Rattle.float.proofs.nearest_whole.Goals as goal

as-integer : (n : ℕ) → n ≤ 1073741824 → to_z w32 n ≡ pos n
as-integer n small = to_z_pos w32 (omega arith)

as_fits : (n : ℕ) → n ≤ 1073741824 → SFits w32 (pos n)
as_fits n small = record { sfits = omega arith }

minus : (n : ℕ) → pos 0 -ℤ pos n ≡ neg_ℤ (pos n)
minus zero = refl
minus (suc n) = rw (lt-ltb 0 (suc n) (zero-lt-suc n)) (ap negsuc (omega arith))

minus-fits : (n : ℕ) → n ≤ 1073741824 → SFits w32 (neg_ℤ (pos n))
minus-fits zero h = record { sfits = omega arith }
minus-fits (suc n) h = record { sfits = omega arith }

taken-away : (n : ℕ) → n ≤ 1073741824 → pos 0 -ℤ to_z w32 n ≡ neg_ℤ (pos n)
taken-away n h = ap (λ (z : ℤ). pos 0 -ℤ z) (as-integer n h) ∙ minus n

pub whole_size-requires : goal.whole_size-requires
unfolding of_bits
whole_size-requires c =
    let m = modest-above c.args.x c.if-x.true c.requires.1 in (m.above, m.below)

pub overflow_cast-result : goal.overflow_cast-result
unfolding of_bits
overflow_cast-result c =
    let m = modest-above c.args.x c.if-x.true c.requires.1 in
    as_fits c.whole_size.result (omega (arith, c.whole_size.ensures, m.size))

pub returns-then-x : goal.returns-then-x
unfolding of_bits
returns-then-x c =
    let m = modest-above c.args.x c.if-x.true c.requires.1 in
    as-integer c.whole_size.result (omega (arith, c.whole_size.ensures, m.size))
    ∙ ap pos c.whole_size.ensures
    ∙ integer-above c.args.x c.if-x.true

pub whole_size-requires-then-x-2 : goal.whole_size-requires-then-x-2
unfolding of_bits
whole_size-requires-then-x-2 c =
    let m = modest-below c.args.x c.if-x-2.true c.requires.0 in (m.above, m.below)

pub overflow_cast-result-then-x-2 : goal.overflow_cast-result-then-x-2
unfolding of_bits
overflow_cast-result-then-x-2 c =
    let m = modest-below c.args.x c.if-x-2.true c.requires.0 in
    as_fits c.whole_size-then-x-2.result (omega (arith, c.whole_size-then-x-2.ensures, m.size))

pub overflow_sub-result : goal.overflow_sub-result
unfolding of_bits
overflow_sub-result c =
    let m = modest-below c.args.x c.if-x-2.true c.requires.0 in
    let n = c.whole_size-then-x-2.result in
    let h : n ≤ 1073741824 = omega (arith, c.whole_size-then-x-2.ensures, m.size) in
    subst (SFits w32) (sym (taken-away n h)) (minus-fits n h)

pub returns-then-x-2 : goal.returns-then-x-2
unfolding of_bits
returns-then-x-2 c =
    let m = modest-below c.args.x c.if-x-2.true c.requires.0 in
    let n = c.whole_size-then-x-2.result in
    let h : n ≤ 1073741824 = omega (arith, c.whole_size-then-x-2.ensures, m.size) in
    ap (λ (z : ℤ). to_z w32 (of_z w32 z)) (taken-away n h)
    ∙ to_z-of_z (minus-fits n h)
    ∙ ap (λ (k : ℕ). neg_ℤ (pos k)) c.whole_size-then-x-2.ensures
    ∙ integer-below c.args.x c.if-x-2.true

pub returns-else-x-2 : goal.returns-else-x-2
unfolding of_bits
returns-else-x-2 c = integer-zero c.args.x c.if-x.false c.if-x-2.false
